-- The values of nodes are those that the nodes were made of.
use Rattle.std.specs.Prelude.{◌≡◌, ℕ, ◌+◌, ◌-◌, List, [], ◌++◌}
use Rattle.std.proofs.Common.{refl, sym, ap, ◌∙◌, append_assoc, append-nil}
use Rattle.std.proofs.Math.Nat.{add-sub_cancel_left}
use Rattle.std.specs.Coded.{Coded, code_by, coded_list}
use Rattle.render_values.specs.Arena.{trailing, first, flat, values_of}
use Rattle.render_values.specs.Values.{Values, count, joined, none, value}
use Rattle.render_values.specs.declared.node.RenderNode.{RenderNode}

pub joined_none : (vs : Values) → joined vs none ≡ vs
joined_none none = refl
joined_none (value head inside rest) = ap (value head inside) (joined_none rest)

less : (a b : ℕ) → a + b - a ≡ b
less a b = add-sub_cancel_left a b

first_none : (ws : Values) → first 0 ws ≡ none
first_none none = refl
first_none (value head inside rest) = refl

after_none : (ws : Values) → trailing 0 ws ≡ ws
after_none none = refl
after_none (value head inside rest) = refl

pub first_joined : (vs ws : Values) → first (count vs) (joined vs ws) ≡ vs
first_joined none ws = first_none ws
first_joined (value head inside rest) ws =
    ap (λ n. value head inside (first n (joined rest ws))) (less (count inside) (count rest))
    ∙ ap (value head inside) (first_joined rest ws)

pub after_joined : (vs ws : Values) → trailing (count vs) (joined vs ws) ≡ ws
after_joined none ws = after_none ws
after_joined (value head inside rest) ws =
    ap (λ n. trailing n (joined rest ws)) (less (count inside) (count rest)) ∙ after_joined rest ws

-- nodes of values, and others after them
pub read_flat : (vs : Values) (xs : List RenderNode) → values_of (flat vs ++ xs) ≡ joined vs (values_of xs)
read_flat none xs = refl
read_flat (value head inside rest) xs =
    let others = joined rest (values_of xs) in
    let later : values_of ((flat inside ++ flat rest) ++ xs) ≡ joined inside others =
    ap values_of (append_assoc (flat inside) (flat rest) xs)
    ∙ (read_flat inside (flat rest ++ xs) ∙ ap (joined inside) (read_flat rest xs)) in
    ap (λ w. value head (first (count inside) w) (trailing (count inside) w)) later
    ∙ (ap (λ w. value head w (trailing (count inside) (joined inside others))) (first_joined inside others)
    ∙ ap (value head inside) (after_joined inside others))

pub read_back : (vs : Values) → values_of (flat vs) ≡ vs
read_back vs = ap values_of (sym (append-nil (flat vs))) ∙ (read_flat vs [] ∙ joined_none vs)

abbrev pub values_code : Coded RenderNode → Coded Values
values_code code = code_by (List RenderNode) (coded_list code) flat values_of read_back
