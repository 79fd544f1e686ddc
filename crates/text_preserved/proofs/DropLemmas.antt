-- Items that are dropped from the front.
use Rattle.std.proofs.Common.{◌≡◌, ◌-◌, ◌%◌, ◌≤◌, [], ◌∷◌, ◌++◌, ◌∙◌, List, ap, append_assoc, arith, drop, length, refl}
use Rattle.std.proofs.Common.{suc, sym, zero, ℕ}
use Rattle.std.proofs.lemmas.List.{length-append}
use Rattle.text_lines.specs.Tagged.{tagged}

pub drop_none : {A : Type 0} (n : ℕ) → drop {A = A} n [] ≡ []
drop_none zero = refl
drop_none (suc n) = refl

pub drop-append : {A : Type 0} (n : ℕ) (xs ys : List A) → drop n (xs ++ ys) ≡ drop n xs ++ drop (n - length xs) ys
drop-append n [] ys =
    let all : n ≡ n - 0 = omega arith in
    ap (λ front. front ++ drop n ys) (sym (drop_none n)) ∙ ap (λ k. drop n [] ++ drop k ys) all
drop-append zero (x ∷ xs) ys =
    let none : 0 ≡ 0 - length (x ∷ xs) = omega arith in
    ap (λ k. (x ∷ xs) ++ drop k ys) none
drop-append (suc n) (x ∷ xs) ys =
    let less : n - length xs ≡ suc n - length (x ∷ xs) = omega arith in
    drop-append n xs ys ∙ ap (λ k. drop n xs ++ drop k ys) less

-- one character more is dropped
pub letter_dropped : {S : Type 0} (n : ℕ) (cs after : List ℕ) (c : ℕ) (tag : S) → 1 ≤ n → cs ≡ c ∷ after
    → drop (n - 1) (tagged after tag) ≡ drop n (tagged cs tag)
letter_dropped zero cs after c tag some is = absurd (omega arith)
letter_dropped (suc n) cs after c tag some is =
    let one : suc n - 1 ≡ n = omega arith in
    ap (λ k. drop k (tagged after tag)) one ∙ ap (λ all. drop (suc n) (tagged all tag)) (sym is)

pub letter_less : (n left : ℕ) (cs after : List ℕ) (c : ℕ) → 1 ≤ n → cs ≡ c ∷ after → n - length cs ≡ left
    → (n - 1) - length after ≡ left
letter_less n left cs after c some is before = omega (arith, ap length is)

-- what was pushed of the items so far, and of others
pub dropped_more : {A : Type 0} (n left : ℕ) (xs ys all old mid new : List A) → all ≡ xs ++ ys → left ≡ n - length xs
    → mid ≡ old ++ drop n xs → new ≡ mid ++ drop left ys → new ≡ old ++ drop n all
dropped_more n left xs ys all old mid new whole left_is so_far more =
    more ∙ ap (λ m. m ++ drop left ys) so_far ∙ append_assoc old (drop n xs) (drop left ys)
    ∙ ap (λ k. old ++ (drop n xs ++ drop k ys)) left_is
    ∙ ap (λ rest. old ++ rest) (sym (drop-append n xs ys) ∙ ap (drop n) (sym whole))

pub left_less : {A : Type 0} (n left more : ℕ) (xs ys all : List A) → all ≡ xs ++ ys → left ≡ n - length xs
    → more ≡ left - length ys → more ≡ n - length all
left_less n left more xs ys all whole left_is more_is = omega (arith, ap length whole, length-append xs ys)

-- the rest of a division by zero is what was divided
pub rest_of : (n width kept : ℕ) → kept ≡ n % width → n - kept ≡ n - n % width
rest_of n width kept h = ap (λ k. n - k) h
