-- Nodes in a row, and the values that they are.
use Rattle.std.proofs.Common.{◌≡◌, ◌≤◌, [], ◌∷◌, ◌++◌, ◌∙◌, List, ap, append_assoc, arith, drop, length, length-append}
use Rattle.std.proofs.Common.{refl, subst, suc, sym, zero, ℕ}
use Rattle.std.proofs.Math.Seq.{drop-append_seam}
use Rattle.render_values.specs.Arena.{IsFlat, trailing, first, flat, values_of}
use Rattle.render_values.specs.Reading.{read_back}
use Rattle.render_values.specs.Values.{Values, count, joined, none, value}
use Rattle.render_values.specs.declared.node.RenderNode.{RenderNode}

pub joined_on : (vs ws us : Values) → joined (joined vs ws) us ≡ joined vs (joined ws us)
joined_on none ws us = refl
joined_on (value head inside rest) ws us = ap (value head inside) (joined_on rest ws us)

pub flat_joined : (vs ws : Values) → flat (joined vs ws) ≡ flat vs ++ flat ws
flat_joined none ws = refl
flat_joined (value head inside rest) ws =
    ap (λ l. record { head = head; below = count inside } ∷ l)
    (ap (λ l. flat inside ++ l) (flat_joined rest ws) ∙ sym (append_assoc (flat inside) (flat rest) (flat ws)))

pub length_flat : (vs : Values) → length (flat vs) ≡ count vs
length_flat none = refl
length_flat (value head inside rest) =
    let a = length-append (flat inside) (flat rest) in
    let b = length_flat inside in
    let c = length_flat rest in
    omega arith

pub flat_is : (vs : Values) → IsFlat (flat vs)
flat_is vs = ap flat (read_back vs)

pub flat_by : (xs : List RenderNode) (vs : Values) → xs ≡ flat vs → IsFlat xs
flat_by xs vs e = subst IsFlat (sym e) (flat_is vs)

pub flat_none : IsFlat []
flat_none = refl

-- a node, and what it is of
pub below_is : (x : RenderNode) (xs : List RenderNode) → IsFlat (x ∷ xs)
    → count (first x.below (values_of xs)) ≡ x.below
below_is x xs h = ap below_of h where
  below_of : List RenderNode → ℕ
  below_of [] = 0
  below_of (y ∷ ys) = y.below

pub rest_is : (x : RenderNode) (xs : List RenderNode) → IsFlat (x ∷ xs)
    → flat (first x.below (values_of xs)) ++ flat (trailing x.below (values_of xs)) ≡ xs
rest_is x xs h = ap rest_of h where
  rest_of : List RenderNode → List RenderNode
  rest_of [] = []
  rest_of (y ∷ ys) = ys

pub flat_rest : (x : RenderNode) (xs : List RenderNode) → IsFlat (x ∷ xs) → IsFlat xs
flat_rest x xs h =
    let k = first x.below (values_of xs) in
    let r = trailing x.below (values_of xs) in
    flat_by xs (joined k r) (sym (rest_is x xs h) ∙ sym (flat_joined k r))

pub flat_drop : (n : ℕ) (xs : List RenderNode) → IsFlat xs → IsFlat (drop n xs)
flat_drop zero xs h = h
flat_drop (suc n) [] h = h
flat_drop (suc n) (x ∷ xs) h = flat_drop n xs (flat_rest x xs h)

-- what follows a node
pub next_is : (x : RenderNode) (xs : List RenderNode) → IsFlat (x ∷ xs)
    → drop x.below xs ≡ flat (trailing x.below (values_of xs))
next_is x xs h =
    let k = first x.below (values_of xs) in
    let r = trailing x.below (values_of xs) in
    ap (λ n. drop n xs) (sym (below_is x xs h) ∙ sym (length_flat k) {- -})
    ∙ (ap (drop (length (flat k))) (sym (rest_is x xs h)) ∙ drop-append_seam (flat k) (flat r))

pub next_flat : (x : RenderNode) (xs : List RenderNode) → IsFlat (x ∷ xs) → IsFlat (drop x.below xs)
next_flat x xs h = flat_by (drop x.below xs) (trailing x.below (values_of xs)) (next_is x xs h)

pub next_values : (x : RenderNode) (xs : List RenderNode) → IsFlat (x ∷ xs)
    → values_of (drop x.below xs) ≡ trailing x.below (values_of xs)
next_values x xs h = ap values_of (next_is x xs h) ∙ read_back (trailing x.below (values_of xs))

pub below_fits : (x : RenderNode) (xs : List RenderNode) → IsFlat (x ∷ xs) → x.below ≤ length xs
below_fits x xs h =
    let k = first x.below (values_of xs) in
    let r = trailing x.below (values_of xs) in
    let a = below_is x xs h in
    let b = ap length (rest_is x xs h) in
    let c = length-append (flat k) (flat r) in
    let d = length_flat k in
    omega arith
