-- What decides between declarations of one property (CSS 2.2, 6.4.1).
use Rattle.std.specs.Prelude.{◌+◌, ◌-◌, ◌==◌, ◌||◌, ◌&&◌, [], ◌∷◌, Bool, List, None, Option, Some, false, min, nat_lt}
use Rattle.std.specs.Prelude.{true, ℕ}
use Rattle.dom_styles.specs.declared.cascade.StyleOrigin.{StyleOrigin}
use Rattle.dom_styles.specs.declared.cascade.StyleOrigin.TheVariants as origins
use Rattle.dom_styles.specs.declared.cascade.Importance.{Importance}
use Rattle.dom_styles.specs.declared.cascade.Importance.TheVariants as importances
use Rattle.dom_styles.specs.declared.cascade.Declared.{Declared}
use Rattle.dom_styles.specs.declared.specificity.Specificity.{Specificity}

-- the program's styles come before the reader's, and those before the author's
abbrev pub origin_number : StyleOrigin → ℕ
origin_number origins.None = 0
origin_number origins.Agent = 1
origin_number origins.User = 2
origin_number origins.Author = 3

-- reversed for important ones
abbrev pub origin_rank : Importance → StyleOrigin → ℕ
origin_rank importances.Default origin = origin_number origin
origin_rank importances.Important origin = 3 - origin_number origin

abbrev pub importance_rank : Importance → ℕ
importance_rank importances.Default = 0
importance_rank importances.Important = 1

abbrev pub inline_rank : Bool → ℕ
inline_rank false = 0
inline_rank true = 1

abbrev pub specificity_key : Specificity → List ℕ
specificity_key s = inline_rank s.inline ∷ s.id ∷ s.class ∷ s.typ ∷ []

abbrev pub key : {T : Type 0} → Declared T → List ℕ
key d = importance_rank d.importance ∷ origin_rank d.importance d.origin ∷ specificity_key d.specificity

-- the first numbers that differ decide
abbrev pub is_less : List ℕ → List ℕ → Bool
is_less [] ks = false
is_less (j ∷ js) [] = false
is_less (j ∷ js) (k ∷ ks) = nat_lt j k || (j == k && is_less js ks)

abbrev pub is_before : {T : Type 0} → Declared T → Declared T → Bool
is_before d e = is_less (key d) (key e)

-- whether what holds has a greater key
abbrev pub is_outranked : {T : Type 0} → Option (Declared T) → Declared T → Bool
is_outranked None d = false
is_outranked (Some held) d = is_before d held

-- a count that would pass 65,535 is that
abbrev pub specificity_sum : Specificity → Specificity → Specificity
specificity_sum s t = record {
  inline = s.inline || t.inline;
  id = min (s.id + t.id) 65535;
  class = min (s.class + t.class) 65535;
  typ = min (s.typ + t.typ) 65535;
}
