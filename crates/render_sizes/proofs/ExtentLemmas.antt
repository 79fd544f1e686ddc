-- Columns of values in a row.
use Rattle.std.proofs.Common.{◌≡◌, ◌+◌, ◌-◌, ◌^◌, ◌<◌, ◌≤◌, [], ◌∷◌, ◌++◌, ◌∙◌, List, ap, append_assoc, arith, drop}
use Rattle.std.proofs.Common.{get_or, length, length-append, max, refl, subst, suc, sym, take, zero, ℕ}
use Rattle.std.specs.Prelude.{Result, Ok, Err, IfOk}
use Rattle.std.proofs.Math.ListN.{set}
use Rattle.std.proofs.Math.Seq.{drop-append_seam}
use Rattle.render_values.specs.Arena.{IsFlat, trailing, first, flat, values_of}
use Rattle.render_sizes.specs.Extents.{Measure, beside, capped, extent, extent_by, extent_of, extents, first_extent}
use Rattle.render_sizes.specs.Extents.{measured, nothing_wide, number}
use Rattle.render_values.specs.Values.{Values, count, joined, none, value}
use Rattle.render_sizes.specs.declared.extent.Extent.{Extent}
use Rattle.render_values.specs.declared.node.RenderNode.{RenderNode}
use Rattle.render_values.proofs.ArenaLemmas.{below_is, flat_by, flat_drop, flat_joined, length_flat, next_values}
use Rattle.render_values.proofs.ArenaLemmas.{rest_is}
use Rattle.render_values.specs.Reading.{read_back}

pub length_extents : (m : Measure) (vs : Values) → length (extents m vs) ≡ count vs
length_extents m none = refl
length_extents m (value head inside rest) =
    let a = length-append (extents m inside) (extents m rest) in
    let b = length_extents m inside in
    let c = length_extents m rest in
    omega arith

pub extents_joined : (m : Measure) (vs ws : Values) → extents m (joined vs ws) ≡ extents m vs ++ extents m ws
extents_joined m none ws = refl
extents_joined m (value head inside rest) ws =
    ap (λ l. extent_of m head inside ∷ l)
    (ap (λ l. extents m inside ++ l) (extents_joined m rest ws)
    ∙ sym (append_assoc (extents m inside) (extents m rest) (extents m ws)))

-- what stands in a node and what follows it are what follows the node in the row
pub rest_values : (x : RenderNode) (xs : List RenderNode) → IsFlat (x ∷ xs)
    → joined (first x.below (values_of xs)) (trailing x.below (values_of xs)) ≡ values_of xs
rest_values x xs h =
    let k = first x.below (values_of xs) in
    let r = trailing x.below (values_of xs) in
    sym (read_back (joined k r)) ∙ ap values_of (flat_joined k r ∙ rest_is x xs h)

pub take_seam : {A : Type 0} (xs ys : List A) → take (length xs) (xs ++ ys) ≡ xs
take_seam [] ys = refl
take_seam (x ∷ xs) ys = ap (λ l. x ∷ l) (take_seam xs ys)

-- the nodes that stand in a node
pub inner_nodes : (x : RenderNode) (xs : List RenderNode) → IsFlat (x ∷ xs)
    → take x.below xs ≡ flat (first x.below (values_of xs))
inner_nodes x xs h =
    let k = first x.below (values_of xs) in
    let r = trailing x.below (values_of xs) in
    ap (λ n. take n xs) (sym (below_is x xs h) ∙ sym (length_flat k))
    ∙ (ap (take (length (flat k))) (sym (rest_is x xs h)) ∙ take_seam (flat k) (flat r))

pub inner_flat : (x : RenderNode) (xs : List RenderNode) → IsFlat (x ∷ xs) → IsFlat (take x.below xs)
inner_flat x xs h = flat_by (take x.below xs) (first x.below (values_of xs)) (inner_nodes x xs h)

pub inner_values : (x : RenderNode) (xs : List RenderNode) → IsFlat (x ∷ xs)
    → values_of (take x.below xs) ≡ first x.below (values_of xs)
inner_values x xs h = ap values_of (inner_nodes x xs h) ∙ read_back (first x.below (values_of xs))

-- the columns of all nodes after a node are those of what stands in it, and of what follows it
pub extents_split : (m : Measure) (x : RenderNode) (xs : List RenderNode) → IsFlat (x ∷ xs)
    → extents m (values_of xs)
    ≡ extents m (first x.below (values_of xs)) ++ extents m (trailing x.below (values_of xs))
extents_split m x xs h =
    ap (extents m) (sym (rest_values x xs h))
    ∙ extents_joined m (first x.below (values_of xs)) (trailing x.below (values_of xs))

size_is : (m : Measure) (x : RenderNode) (xs : List RenderNode) → IsFlat (x ∷ xs)
    → x.below ≡ length (extents m (first x.below (values_of xs)))
size_is m x xs h = sym (length_extents m (first x.below (values_of xs)) ∙ below_is x xs h)

pub inner_extents : (m : Measure) (x : RenderNode) (xs : List RenderNode) (es : List Extent) → IsFlat (x ∷ xs)
    → es ≡ extents m (values_of xs) → take x.below es ≡ extents m (values_of (take x.below xs))
inner_extents m x xs es h e =
    let k = first x.below (values_of xs) in
    let r = trailing x.below (values_of xs) in
    ap (take x.below) (e ∙ extents_split m x xs h)
    ∙ (ap (λ n. take n (extents m k ++ extents m r)) (size_is m x xs h)
    ∙ (take_seam (extents m k) (extents m r) ∙ ap (extents m) (sym (inner_values x xs h))))

pub next_extents : (m : Measure) (x : RenderNode) (xs : List RenderNode) (es : List Extent) → IsFlat (x ∷ xs)
    → es ≡ extents m (values_of xs) → drop x.below es ≡ extents m (values_of (drop x.below xs))
next_extents m x xs es h e =
    let k = first x.below (values_of xs) in
    let r = trailing x.below (values_of xs) in
    ap (drop x.below) (e ∙ extents_split m x xs h)
    ∙ (ap (λ n. drop n (extents m k ++ extents m r)) (size_is m x xs h)
    ∙ (drop-append_seam (extents m k) (extents m r) ∙ ap (extents m) (sym (next_values x xs h))))

pub after_fits : (m : Measure) (x : RenderNode) (xs : List RenderNode) (es : List Extent) → IsFlat (x ∷ xs)
    → es ≡ extents m (values_of xs) → x.below ≤ length es
after_fits m x xs es h e =
    let k = first x.below (values_of xs) in
    let r = trailing x.below (values_of xs) in
    let a = size_is m x xs h in
    let b = ap length (e ∙ extents_split m x xs h) in
    let c = length-append (extents m k) (extents m r) in
    omega arith

-- side by side in any order
add_sizes : (a b c : ℕ) → capped (capped (a + b) + c) ≡ capped (a + capped (b + c))
add_sizes a b c = omega arith

most : (a b c : ℕ) → max (max a b) c ≡ max a (max b c)
most a b c = omega arith

pub beside_on : (a b c : Extent) → beside (beside a b) c ≡ beside a (beside b c)
beside_on a b c =
    ap (λ s. record { size = s; least = max (max a.least b.least) c.least }) (add_sizes a.size b.size c.size)
    ∙ ap (λ l. record { size = capped (a.size + capped (b.size + c.size)); least = l }) (most a.least b.least c.least)

capped_alone : (a : ℕ) → a < 2 ^ 64 → capped (a + 0) ≡ a
capped_alone a h = omega arith

capped_first : (a : ℕ) → capped (0 + capped a) ≡ capped a
capped_first a = omega arith

most_first : (a : ℕ) → max 0 a ≡ a
most_first a = omega arith

most_alone : (a : ℕ) → max a 0 ≡ a
most_alone a = omega arith

pub beside_none : (a : Extent) → a.size < 2 ^ 64 → beside a nothing_wide ≡ a
beside_none a h =
    ap (λ s. record { size = s; least = max a.least 0 }) (capped_alone a.size h)
    ∙ ap (λ l. record { size = a.size; least = l }) (most_alone a.least)

pub first_beside : (m : Measure) (vs : Values) → beside nothing_wide (extent m vs) ≡ extent m vs
first_beside m none = refl
first_beside m (value head inside rest) =
    let e = extent_of m head inside in
    let r = extent m rest in
    ap (λ s. record { size = s; least = max 0 (max e.least r.least) }) (capped_first (e.size + r.size))
    ∙ ap (λ l. record { size = capped (e.size + r.size); least = l }) (most_first (max e.least r.least))

-- ---- measured nodes in a row

pub extents_first : (m : Measure) (ys : List RenderNode) → IsFlat ys → 0 < length ys
    → extents m (values_of ys) ≡ first_extent m (values_of ys) ∷ extents m (values_of (drop 1 ys))
extents_first m [] h some = absurd (omega arith)
extents_first m (x ∷ xs) h some =
    ap (λ l. extent_of m x.head (first x.below (values_of xs)) ∷ l) (sym (extents_split m x xs h))

pub left_is : (m : Measure) (rest : List RenderNode) (x : RenderNode) (xs : List RenderNode) (left : List Extent)
    → rest ≡ x ∷ xs → IsFlat rest → left ≡ extents m (values_of rest)
    → left ≡ extent_of m x.head (first x.below (values_of xs)) ∷ extents m (values_of xs)
left_is m rest x xs left e h same =
    same ∙ (ap (λ l. extents m (values_of l)) e ∙ extents_first m (x ∷ xs) (subst IsFlat e h) (omega arith))

pub left_some : (m : Measure) (rest : List RenderNode) (x : RenderNode) (xs : List RenderNode) (left : List Extent)
    → rest ≡ x ∷ xs → IsFlat rest → left ≡ extents m (values_of rest) → 0 < length left
left_some m rest x xs left e h same =
    let a = ap length (left_is m rest x xs left e h same) in omega arith

pub left_after : (m : Measure) (rest : List RenderNode) (x : RenderNode) (xs : List RenderNode) (left : List Extent)
    → rest ≡ x ∷ xs → IsFlat rest → left ≡ extents m (values_of rest) → drop 1 left ≡ extents m (values_of xs)
left_after m rest x xs left e h same = ap (drop 1) (left_is m rest x xs left e h same)

pub left_next : (m : Measure) (rest : List RenderNode) (x : RenderNode) (xs : List RenderNode)
    (left next : List Extent) → rest ≡ x ∷ xs → IsFlat rest → left ≡ extents m (values_of rest) → next ≡ drop 1 left
    → next ≡ extents m (values_of xs)
left_next m rest x xs left next e h same is = is ∙ left_after m rest x xs left e h same

-- one value more
pub sum_on : (m : Measure) (rest : List RenderNode) (x : RenderNode) (xs : List RenderNode) (left : List Extent)
    (d one sum new all : Extent) → rest ≡ x ∷ xs → IsFlat rest → left ≡ extents m (values_of rest)
    → one ≡ get_or left 0 d → new ≡ beside sum one → beside sum (extent m (values_of rest)) ≡ all
    → beside new (extent m (values_of (drop x.below xs))) ≡ all
sum_on m rest x xs left d one sum new all e h same is made done =
    let first_one = extent_of m x.head (first x.below (values_of xs)) in
    let later = extent m (values_of (drop x.below xs)) in
    let here : one ≡ first_one = is ∙ ap (λ l. get_or l 0 d) (left_is m rest x xs left e h same) in
    let whole : extent m (values_of rest) ≡ beside first_one later =
    ap (λ l. extent m (values_of l)) e
    ∙ ap (λ r. beside first_one (extent m r)) (sym (next_values x xs (subst IsFlat e h))) in
    ap (λ s. beside s later) (made ∙ ap (beside sum) here)
    ∙ (beside_on sum first_one later ∙ (ap (beside sum) (sym whole) ∙ done))

first_is : (m : Measure) (nodes : List RenderNode) (x : RenderNode) (xs : List RenderNode) → nodes ≡ x ∷ xs
    → IsFlat nodes → extent_of m x.head (values_of (take x.below xs)) ≡ first_extent m (values_of nodes)
first_is m nodes x xs e h =
    ap (extent_of m x.head) (inner_values x xs (subst IsFlat e h))
    ∙ sym (ap (λ l. first_extent m (values_of l)) e)

pub first_by : {E : Type 0} (r : Result Extent E) (m : Measure) (nodes : List RenderNode) (x : RenderNode)
    (xs inner : List RenderNode) → nodes ≡ x ∷ xs → IsFlat nodes → inner ≡ take x.below xs
    → IfOk r (λ e. e ≡ extent_by m x.head.info (measured m (values_of inner)) (number (values_of inner)))
    → IfOk r (λ e. e ≡ first_extent m (values_of nodes))
first_by (Err e) m nodes x xs inner is h cut done = tt
first_by (Ok v) m nodes x xs inner is h cut done =
    done ∙ (ap (λ l. extent_of m x.head (values_of l)) cut ∙ first_is m nodes x xs is h)

drop_set : (i : ℕ) (es : List Extent) (e : Extent) → i < length es → drop i (set es i e) ≡ e ∷ drop (suc i) es
drop_set i [] e h = absurd (omega arith)
drop_set zero (x ∷ es) e h = refl
drop_set (suc i) (x ∷ es) e h = drop_set i es e (omega arith)

drop_next : {A : Type 0} (i : ℕ) (xs : List A) → drop 1 (drop i xs) ≡ drop (suc i) xs
drop_next zero xs = refl
drop_next (suc i) [] = refl
drop_next (suc i) (x ∷ xs) = drop_next i xs

drop_none : {A : Type 0} (i : ℕ) (xs : List A) → i < length xs → 0 < length (drop i xs)
drop_none i [] h = absurd (omega arith)
drop_none zero (x ∷ xs) h = omega arith
drop_none (suc i) (x ∷ xs) h = drop_none i xs (omega arith)

pub drop_some : {A : Type 0} (i : ℕ) (xs rest : List A) → rest ≡ drop i xs → i < length xs → 0 < length rest
drop_some i xs rest e h = subst (λ l. 0 < length l) (sym e) (drop_none i xs h)

-- what stands after a place is measured
pub after_measured : (m : Measure) (at i : ℕ) (nodes rest : List RenderNode) (es later : List Extent) → at ≡ suc i
    → rest ≡ drop i nodes → later ≡ drop at es → drop at es ≡ extents m (values_of (drop at nodes))
    → later ≡ extents m (values_of (drop 1 rest))
after_measured m at i nodes rest es later e is l same =
    l ∙ (same ∙ (ap (λ n. extents m (values_of (drop n nodes))) e
    ∙ sym (ap (λ k. extents m (values_of (drop 1 k))) is ∙ ap (λ k. extents m (values_of k)) (drop_next i nodes))))

-- one more is measured
pub measured_on : (m : Measure) (at i : ℕ) (nodes rest : List RenderNode) (es : List Extent) (one : Extent)
    → at ≡ suc i → i < length nodes → length es ≡ length nodes → IsFlat nodes → rest ≡ drop i nodes
    → one ≡ first_extent m (values_of rest) → drop at es ≡ extents m (values_of (drop at nodes))
    → drop i (set es i one) ≡ extents m (values_of (drop i nodes))
measured_on m at i nodes rest es one e h size flat is made same =
    let here : one ≡ first_extent m (values_of (drop i nodes)) =
    made ∙ ap (λ l. first_extent m (values_of l)) is in
    let later : drop (suc i) es ≡ extents m (values_of (drop 1 (drop i nodes))) =
    ap (λ n. drop n es) (sym e) ∙ (same ∙ (ap (λ n. extents m (values_of (drop n nodes))) e
    ∙ sym (ap (λ l. extents m (values_of l)) (drop_next i nodes)))) in
    drop_set i es one (omega arith)
    ∙ (ap (λ o. o ∷ drop (suc i) es) here
    ∙ (ap (λ l. first_extent m (values_of (drop i nodes)) ∷ l) later
    ∙ sym (extents_first m (drop i nodes) (flat_drop i nodes flat) (drop_none i nodes h))))

pub measured_after : (m : Measure) (nodes : List RenderNode) (x : RenderNode) (xs : List RenderNode)
    (es : List Extent) → nodes ≡ x ∷ xs → es ≡ extents m (values_of (drop 1 nodes)) → es ≡ extents m (values_of xs)
measured_after m nodes x xs es e same = same ∙ ap (λ l. extents m (values_of (drop 1 l))) e

pub sum_fits : (a b new : Extent) → new ≡ beside a b → new.size ≤ 2 ^ 64 - 1
sum_fits a b new e = subst (λ (x : Extent). x.size ≤ 2 ^ 64 - 1) (sym e) (fits (a.size + b.size)) where
  fits : (n : ℕ) → capped n ≤ 2 ^ 64 - 1
  fits n = omega arith

pub sum_done : (m : Measure) (rest : List RenderNode) (sum all : Extent) → length rest ≡ 0 → sum.size ≤ 2 ^ 64 - 1
    → beside sum (extent m (values_of rest)) ≡ all → sum ≡ all
sum_done m [] sum all alone fits e = sym (beside_none sum (omega arith)) ∙ e
sum_done m (x ∷ xs) sum all alone fits e = absurd (omega arith)

pub next_down : (n : ℕ) → 0 < n → n - 1 + 1 ≡ n
next_down n h = omega arith

-- ---- how many stand side by side

pub number_next : (rest : List RenderNode) (x : RenderNode) (xs later : List RenderNode) (count new all : ℕ)
    → rest ≡ x ∷ xs → IsFlat rest → later ≡ drop x.below xs → new ≡ count + 1
    → count + number (values_of rest) ≡ all → new + number (values_of later) ≡ all
number_next rest x xs later count new all e h after_it more so_far =
    let a = ap (λ l. number (values_of l)) e in
    let b = ap number (next_values x xs (subst IsFlat e h)) in
    let c = ap (λ l. number (values_of l)) after_it in
    omega arith

pub number_done : (rest : List RenderNode) (count all : ℕ) → length rest ≡ 0 → count + number (values_of rest) ≡ all
    → count ≡ all
number_done [] count all alone e = omega arith
number_done (x ∷ xs) count all alone e = absurd (omega arith)

number_fits : (vs : Values) → number vs ≤ count vs
number_fits none = omega arith
number_fits (value head inside rest) = let a = number_fits rest in omega arith

pub number_below : (nodes rest : List RenderNode) (x : RenderNode) (xs : List RenderNode) (count most : ℕ)
    → rest ≡ x ∷ xs → IsFlat nodes → most ≡ length nodes
    → count + number (values_of rest) ≡ number (values_of nodes) → count < most
number_below nodes rest x xs count most e h all so_far =
    let a = number_fits (values_of nodes) in
    let b = length_flat (values_of nodes) in
    let c = ap length h in
    let d = ap (λ l. number (values_of l)) e in
    omega arith

-- ---- of a tree

pub same_length : (m : Measure) (nodes : List RenderNode) (es : List Extent) → IsFlat nodes
    → es ≡ extents m (values_of nodes) → length es ≡ length nodes
same_length m nodes es h same =
    ap length same ∙ (length_extents m (values_of nodes) ∙ (sym (length_flat (values_of nodes)) ∙ ap length h))

pub of_tree : (m : Measure) (tree : Values) (nodes : List RenderNode) → nodes ≡ flat tree
    → extents m (values_of nodes) ≡ extents m tree
of_tree m tree nodes e = ap (λ l. extents m (values_of l)) e ∙ ap (extents m) (read_back tree)
