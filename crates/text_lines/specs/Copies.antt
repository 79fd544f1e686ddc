-- Lists of tags that can be copied: what contracts see of two lists is the same if and only if they are equal, tag by
-- tag.
use Rattle.std.specs.Prelude.{◌≡◌, ◌≢◌, Bool, true, false, ◌&&◌, List, [], ◌∷◌, map, refl}
use lib.Pointwise.{pointwise}

both : (a b : Bool) → (a && b) ≡ true → (a ≡ true) × (b ≡ true)
both true b h = (refl, h)
both false b h = cc

front_and_rest : {S : Type 0} (x y : S) (xs ys : List S) → x ≡ y → xs ≡ ys → (x ∷ xs) ≡ (y ∷ ys)
front_and_rest x y xs ys front rest = cc

pub seen-same : {T S : Type 0} (eq : T → T → Bool) (seen : T → S) → ((x y : T) → eq x y ≡ true → seen x ≡ seen y)
    → (xs ys : List T) → pointwise eq xs ys ≡ true → map seen xs ≡ map seen ys
seen-same eq seen same [] [] h = refl
seen-same eq seen same [] (y ∷ ys) h = cc
seen-same eq seen same (x ∷ xs) [] h = cc
seen-same eq seen same (x ∷ xs) (y ∷ ys) h =
    let parts = both (eq x y) (pointwise eq xs ys) h in
    front_and_rest (seen x) (seen y) (map seen xs) (map seen ys) (same x y parts.0)
    (seen-same eq seen same xs ys parts.1)

one_differs : {T S : Type 0} (seen : T → S) (b r : Bool) (x y : T) (xs ys : List T) → (b ≡ false → seen x ≢ seen y)
    → (r ≡ false → map seen xs ≢ map seen ys) → (b && r) ≡ false → map seen (x ∷ xs) ≢ map seen (y ∷ ys)
one_differs seen false r x y xs ys first rest h e = first refl cc
one_differs seen true r x y xs ys first rest h e = rest h cc

pub seen-apart : {T S : Type 0} (eq : T → T → Bool) (seen : T → S) → ((x y : T) → eq x y ≡ false → seen x ≢ seen y)
    → (xs ys : List T) → pointwise eq xs ys ≡ false → map seen xs ≢ map seen ys
seen-apart eq seen apart [] [] h e = cc
seen-apart eq seen apart [] (y ∷ ys) h e = cc
seen-apart eq seen apart (x ∷ xs) [] h e = cc
seen-apart eq seen apart (x ∷ xs) (y ∷ ys) h e =
    one_differs seen (eq x y) (pointwise eq xs ys) x y xs ys (apart x y) (seen-apart eq seen apart xs ys) h e
