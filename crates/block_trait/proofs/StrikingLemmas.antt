-- Texts that are made character by character.
use Rattle.std.proofs.Common.{◌≡◌, ℕ, ◌<◌, List, [], ◌∷◌, ◌++◌, length, take, get_or, sym, ap, ◌∙◌}
use Rattle.std.specs.Prelude.{flat_map}
use Rattle.std.proofs.lemmas.List.{append-nil, append_assoc}
use Rattle.text_pieces.proofs.ElementLemmas.{next_taken, all_taken}

pub flat_after : {A B : Type 0} (f : A → List B) (xs : List A) (x : A)
    → flat_map f (xs ++ x ∷ []) ≡ flat_map f xs ++ f x
flat_after f [] x = append-nil (f x)
flat_after f (y ∷ xs) x =
    ap (λ rest. f y ++ rest) (flat_after f xs x) ∙ sym (append_assoc (f y) (flat_map f xs) (f x))

-- one more character
pub next_flat : {Y : Type 0} (f : ℕ → List ℕ) (cs : List ℕ) (ys : List Y) (y : Y) (c : ℕ) (mid new : List ℕ)
    → (length ys < length cs) × (c ≡ get_or cs (length ys) c)
    → mid ≡ flat_map f (take (length ys) cs) → new ≡ mid ++ f c
    → new ≡ flat_map f (take (length (ys ++ y ∷ [])) cs)
next_flat f cs ys y c mid new turn so_far one =
    one ∙ ap (λ front. front ++ f c) so_far ∙ sym (ap (flat_map f) (next_taken cs ys y c turn)
    ∙ flat_after f (take (length ys) cs) c)

pub all_flat : {Y : Type 0} (f : ℕ → List ℕ) (cs : List ℕ) (ys : List Y) (new : List ℕ)
    → length ys ≡ length cs → new ≡ flat_map f (take (length ys) cs) → new ≡ flat_map f cs
all_flat f cs ys new whole so_far = so_far ∙ ap (flat_map f) (all_taken cs ys whole)
