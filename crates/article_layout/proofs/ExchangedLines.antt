-- Lines that are emitted are exchanged as the article's are.
use Rattle.std.proofs.Common.{◌≡◌, [], ◌∷◌, if◌then◌else◌, ◌∙◌, Bool, List, None, Option, Some, ap, false, map, not}
use Rattle.std.proofs.Common.{refl, sym, true, ℕ}
use Rattle.std.specs.Option.{option_map}
use Rattle.std.proofs.lemmas.Option.{none-some, same_Some}
use Rattle.article_definitions.specs.Exchanges.{is_number, others}
use Rattle.article_definitions.specs.Layouts.{Line}
use Rattle.article_layout.specs.Seen.{Emitted, others_emitted, emitted}

one_emitted : (b : Bool) (l : Line) (rest : List Emitted) (lines : List Line) → rest ≡ map emitted lines →
    (if b then emitted l ∷ rest else rest) ≡ map emitted (if b then l ∷ lines else lines)
one_emitted true l rest lines e = ap (λ ls. emitted l ∷ ls) e
one_emitted false l rest lines e = e

others_are : (n : ℕ) (lines : List Line) → others_emitted n (map emitted lines) ≡ map emitted (others n lines)
others_are n [] = refl
others_are n (l ∷ lines) = one_emitted (not (is_number n l.number)) l (others_emitted n (map emitted lines))
    (others n lines)
    (others_are n lines)

pub exchanged : (n : ℕ) (found : Option (List Line)) (shown : List Emitted) (ms : List Line) →
    option_map (map emitted) found ≡ Some shown → ((ls : List Line) → found ≡ Some ls → others n ls ≡ others n ms) →
    others_emitted n shown ≡ map emitted (others n ms)
exchanged n None shown ms h same = absurd (none-some shown h)
exchanged n (Some ls) shown ms h same =
    ap (others_emitted n) (sym (same_Some (map emitted ls) shown h)) ∙ others_are n ls ∙ ap (map emitted) (same ls refl)
