-- What is read of lines that others were added to.
use Rattle.std.proofs.Common.{◌≡◌, ℕ, zero, suc, ◌+◌, List, [], ◌∷◌, ◌++◌, ap, ◌∙◌, append_assoc, arith, replicate}

-- one text was added, and then another
pub both : (old mid new xs ys : List ℕ) → mid ≡ old ++ xs → new ≡ mid ++ ys → new ≡ old ++ (xs ++ ys)
both old mid new xs ys first next = next ∙ ap (λ l. l ++ ys) first ∙ append_assoc old xs ys

pub one_more : (n c : ℕ) → replicate n c ++ c ∷ [] ≡ replicate (n + 1) c
one_more zero c =
    let e : 1 ≡ zero + 1 = omega arith in
    ap (λ n. replicate n c) e
one_more (suc n) c =
    let e : suc (n + 1) ≡ suc n + 1 = omega arith in
    ap (λ l. c ∷ l) (one_more n c) ∙ ap (λ l. replicate l c) e
