-- Values that show nothing by themselves.
use Rattle.std.proofs.Common.{◌≡◌, ◌&&◌, true, List, ◌∷◌, drop, refl, sym, ap, subst, ◌∙◌, arith}
use Rattle.std.specs.Bool.{nat_eq}
use Rattle.std.proofs.lemmas.Bool.Decides.{nat_tests}
use Rattle.render_values.specs.Arena.{IsFlat, trailing, first, values_of}
use Rattle.render_values.specs.Emptiness.{all_empty, holds_none, is_empty_value}
use Rattle.render_values.specs.Values.{Values, count, none, value}
use Rattle.render_values.specs.declared.node.RenderNode.{RenderNode}
use Rattle.render_values.proofs.ArenaLemmas.{below_is, next_values}

pub none_counted : (vs : Values) → holds_none vs ≡ nat_eq (count vs) 0
none_counted none = refl
none_counted (value head inside rest) = grind (arith, nat_tests)

pub none_below : (x : RenderNode) (xs : List RenderNode) → IsFlat (x ∷ xs)
    → holds_none (first x.below (values_of xs)) ≡ nat_eq x.below 0
none_below x xs h =
    none_counted (first x.below (values_of xs)) ∙ ap (λ n. nat_eq n 0) (below_is x xs h)

-- whether all are empty, by the first and by what follows it
pub empty_on : (x : RenderNode) (xs : List RenderNode) → IsFlat (x ∷ xs)
    → all_empty (values_of (x ∷ xs))
    ≡ is_empty_value x.head (nat_eq x.below 0) && all_empty (values_of (drop x.below xs))
empty_on x xs h =
    ap (λ b. is_empty_value x.head b && all_empty (trailing x.below (values_of xs))) (none_below x xs h)
    ∙ ap (λ vs. is_empty_value x.head (nat_eq x.below 0) && all_empty vs) (sym (next_values x xs h))

pub empty_next : (rest : List RenderNode) (x : RenderNode) (xs : List RenderNode) → rest ≡ x ∷ xs → IsFlat rest
    → is_empty_value x.head (nat_eq x.below 0) ≡ true
    → all_empty (values_of (drop x.below xs)) ≡ all_empty (values_of rest)
empty_next rest x xs e h t =
    sym (ap (λ l. all_empty (values_of l)) e ∙ (empty_on x xs (subst IsFlat e h)
    ∙ ap (λ b. b && all_empty (values_of (drop x.below xs))) t))
