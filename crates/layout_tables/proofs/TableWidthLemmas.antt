-- Widths of columns, and of slots among them.
use Rattle.std.proofs.Common.{◌≡◌, ◌+◌, ◌-◌, ◌^◌, ◌<◌, ◌≤◌, ◌∙◌, List, ap, arith, drop, get_or, length, length-drop}
use Rattle.std.proofs.Common.{max, min, sum, sym, take, ℕ}
use Rattle.std.proofs.lemmas.List.{drop_all, drop_min, take_min}
use Rattle.std.proofs.lemmas.List.Sums.{sum_by-drop_more}
use Rattle.render_sizes.specs.Extents.{capped}

pub added_more : (ws : List ℕ) (i columns new d whole : ℕ) → i < length ws → new ≡ capped (columns + get_or ws i d)
    → capped (columns + sum (drop i ws)) ≡ whole → capped (new + sum (drop (i + 1) ws)) ≡ whole
added_more ws i columns new d whole l e h = omega (arith, sum_by-drop_more (λ x. x) ws i d l, e, h)

pub added_all : (ws : List ℕ) (i columns whole : ℕ) → length ws ≤ i → columns ≤ 2 ^ 64 - 1
    → capped (columns + sum (drop i ws)) ≡ whole → columns ≡ whole
added_all ws i columns whole l small h = omega (arith, ap sum (drop_all i ws l), small, h)

-- A stretch of a list by places within it is the one by any places.
pub stretch_within : (ws : List ℕ) (first last from to : ℕ) → from ≡ min first (length ws)
    → to ≡ max (min last (length ws)) from → take (to - from) (drop from ws) ≡ take (last - first) (drop first ws)
stretch_within ws first last from to e f =
    ap (λ v. take (to - from) v) (ap (λ n. drop n ws) e ∙ drop_min first ws)
    ∙ (sym (take_min (to - from) (drop first ws))
    ∙ (ap (λ n. take n (drop first ws)) (omega (arith, e, f, length-drop first ws))
    ∙ take_min (last - first) (drop first ws)))
