-- A loop that copies a list, one more at a time.
use Rattle.std.proofs.Common.{◌≡◌, ◌+◌, ◌<◌, [], ◌∷◌, ◌++◌, ◌∙◌, List, ap, arith, get_or, length, map, refl, sym, take}
use Rattle.std.proofs.Common.{ℕ}
use Rattle.std.proofs.lemmas.List.{map_more, map_push}

pub seen_more : {T S : Type 0} (seen : T → S) (xs copies new : List T) (i : ℕ) (x copied : T) → i < length xs
    → x ≡ get_or xs i x → map seen copies ≡ map seen (take i xs) → new ≡ copies ++ copied ∷ [] → seen copied ≡ seen x
    → map seen new ≡ map seen (take (i + 1) xs)
seen_more seen xs copies new i x copied inside read so_far pushed same =
    ap (map seen) pushed ∙ map_push seen copies copied ∙ ap (λ front. front ++ seen copied ∷ []) so_far
    ∙ ap (λ s. map seen (take i xs) ++ s ∷ []) (same ∙ ap seen read) ∙ sym (map_more seen xs i x inside)

-- values that are all seen alike
pub seen_alike : {T S : Type 0} (seen : T → S) (xs ys : List T) → ((x y : T) → seen x ≡ seen y)
    → length xs ≡ length ys → map seen xs ≡ map seen ys
seen_alike seen [] [] alike same = refl
seen_alike seen [] (y ∷ ys) alike same = absurd (omega (arith, same))
seen_alike seen (x ∷ xs) [] alike same = absurd (omega (arith, same))
seen_alike seen (x ∷ xs) (y ∷ ys) alike same =
    ap (λ s. s ∷ map seen xs) (alike x y)
    ∙ ap (λ rest. seen y ∷ rest) (seen_alike seen xs ys alike (omega (arith, same)))
