-- Cells among nodes.
use Rattle.std.proofs.Common.{◌≡◌, Bool, true, false, ◌||◌, List, [], ◌∷◌, ◌++◌, refl, sym, ap, ◌∙◌}
use Rattle.std.specs.List.{list_any}
use Rattle.render_values.specs.Arena.{IsFlat, flat, values_of}
use Rattle.render_values.specs.Cells.{has_cells, is_cell}
use Rattle.render_values.specs.Values.{Values, none, value}
use Rattle.render_values.specs.declared.node.RenderNode.{RenderNode}

or_on : (a b c : Bool) → (a || b || c) ≡ (a || (b || c))
or_on true b c = refl
or_on false b c = refl

abbrev any_cell : List RenderNode → Bool
any_cell xs = list_any (λ (x : RenderNode). is_cell x.head.info) xs

any_on : (xs ys : List RenderNode) → any_cell (xs ++ ys) ≡ (any_cell xs || any_cell ys)
any_on [] ys = refl
any_on (x ∷ xs) ys =
    ap (λ b. is_cell x.head.info || b) (any_on xs ys)
    ∙ sym (or_on (is_cell x.head.info) (any_cell xs) (any_cell ys))

in_flat : (vs : Values) → any_cell (flat vs) ≡ has_cells vs
in_flat none = refl
in_flat (value head inside rest) =
    ap (λ b. is_cell head.info || b)
    (any_on (flat inside) (flat rest)
    ∙ (ap (λ b. b || any_cell (flat rest)) (in_flat inside) ∙ ap (λ b. has_cells inside || b) (in_flat rest)))

pub any_cell_is : (xs : List RenderNode) → IsFlat xs → any_cell xs ≡ has_cells (values_of xs)
any_cell_is xs h = sym (ap any_cell h) ∙ in_flat (values_of xs)
