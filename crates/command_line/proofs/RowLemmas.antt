-- Rows of what was found, by their names.
use Rattle.std.proofs.Common.{◌≡◌, ◌∙◌, ◌||◌, Bool, true, false, List, [], ◌∷◌, ◌++◌, refl, ap, append-nil}
use Rattle.std.specs.Str.{bytes_eq}
use Rattle.clap.specs.Walk.{Row, Text, at_row, has_row, without}

pub or_assoc : (a b c : Bool) → (a || (b || c)) ≡ ((a || b) || c)
or_assoc true b c = refl
or_assoc false b c = refl

pub has_row-append : (id : Text) (xs ys : List Row) → has_row id (xs ++ ys) ≡ (has_row id xs || has_row id ys)
has_row-append id [] ys = refl
has_row-append id (x ∷ xs) ys = ap (λ b. bytes_eq x.id id || b) (has_row-append id xs ys)
    ∙ or_assoc (bytes_eq x.id id) (has_row id xs) (has_row id ys)

-- where no row has the name, a change of its row puts one at the end
pub fresh_row : (id : Text) (change : Row → List Row) (missing rows : List Row) → has_row id rows ≡ false
    → at_row id change missing rows ≡ rows ++ missing
fresh_row id change missing [] fresh = refl
fresh_row id change missing (r ∷ rs) fresh = go (bytes_eq r.id id) refl (fresh_row id change missing rs)
  where
    go : (b : Bool) → bytes_eq r.id id ≡ b → (has_row id rs ≡ false → at_row id change missing rs ≡ rs ++ missing)
        → at_row id change missing (r ∷ rs) ≡ r ∷ rs ++ missing
    go true e later = let bad : true ≡ false = rw e at fresh in cc
    go false e later = rw e (ap (λ xs. r ∷ xs) (later (rw e at fresh)))

pub fresh_without : (id : Text) (rows : List Row) → has_row id rows ≡ false → without id rows ≡ rows
fresh_without id rows fresh = fresh_row id (λ _. []) [] rows fresh ∙ append-nil rows
