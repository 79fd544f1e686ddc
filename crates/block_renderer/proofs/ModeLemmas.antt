-- The modes without the last.
use Rattle.std.proofs.Common.{◌≡◌, ◌-◌, ◌∙◌, List, [], ◌∷◌, ap, arith, length, refl, take}
use Rattle.block_layout.specs.LaidRows.{before_last}

all_before : {A : Type 0} (x : A) (rest : List A) → take (length rest) (x ∷ rest) ≡ before_last (x ∷ rest)
all_before x [] = refl
all_before x (y ∷ rest) = ap (λ l. x ∷ l) (all_before y rest)

pub all_but_last : {A : Type 0} (xs : List A) → take (length xs - 1) xs ≡ before_last xs
all_but_last [] = refl
all_but_last (x ∷ rest) =
    let fewer : length (x ∷ rest) - 1 ≡ length rest = omega arith in
    ap (λ n. take n (x ∷ rest)) fewer ∙ all_before x rest
