-- Nodes from a place up to another.
use Rattle.std.proofs.Common.{◌≡◌, ◌+◌, ◌-◌, ◌<◌, ◌≤◌, [], ◌∷◌, ◌∙◌, List, ap, arith, drop, get_or, length, refl}
use Rattle.std.proofs.Common.{subst, suc, sym, take, zero, ℕ}
use Rattle.std.proofs.lemmas.List.{length-take}
use Rattle.render_sizes.proofs.ExtentLemmas.{inner_extents, inner_flat, inner_values, left_is, next_extents}
use Rattle.render_sizes.specs.Extents.{Measure, extent_of, extents, nothing_wide}
use Rattle.render_sizes.specs.declared.extent.Extent.{Extent}
use Rattle.render_values.proofs.ArenaLemmas.{below_fits, next_flat, next_values}
use Rattle.render_values.specs.Arena.{IsFlat, first, trailing, values_of}
use Rattle.render_values.specs.Values.{none, value}
use Rattle.render_values.specs.declared.node.RenderNode.{RenderNode}
use Rattle.table_fits.specs.Walk.{IsSound, extent_at, head_at, segment}

pub drop_none : {X : Type 0} (n : ℕ) → ◌≡◌ {A = List X} (drop n []) []
drop_none zero = refl
drop_none (suc n) = refl

pub take_none : {X : Type 0} (n : ℕ) → ◌≡◌ {A = List X} (take n []) []
take_none zero = refl
take_none (suc n) = refl

take_all : {X : Type 0} (xs : List X) → take (length xs) xs ≡ xs
take_all [] = refl
take_all (x ∷ xs) = ap (λ l. x ∷ l) (take_all xs)

drop_at : {X : Type 0} (xs : List X) (at : ℕ) (d : X) → at < length xs
    → drop at xs ≡ get_or xs at d ∷ drop (suc at) xs
drop_at [] at d h = absurd (omega arith)
drop_at (x ∷ xs) zero d h = refl
drop_at (x ∷ xs) (suc at) d h = drop_at xs at d (omega arith)

drop_drop : {X : Type 0} (a b : ℕ) (xs : List X) → drop b (drop a xs) ≡ drop (a + b) xs
drop_drop zero b xs =
    let e : b ≡ 0 + b = omega arith in
    ap (λ n. drop n xs) e
drop_drop {X} (suc a) b [] = drop_none {X = X} b ∙ sym (drop_none {X = X} (suc a + b))
drop_drop (suc a) b (x ∷ xs) =
    let e : suc (a + b) ≡ suc a + b = omega arith in
    drop_drop a b xs ∙ ap (λ n. drop n (x ∷ xs)) e

drop_take : {X : Type 0} (b n : ℕ) (xs : List X) → b ≤ n → drop b (take n xs) ≡ take (n - b) (drop b xs)
drop_take zero n xs h =
    let e : n ≡ n - 0 = omega arith in
    ap (λ k. take k xs) e
drop_take (suc b) zero xs h = absurd (omega arith)
drop_take {X} (suc b) (suc n) [] h = sym (take_none {X = X} (suc n - suc b))
drop_take (suc b) (suc n) (x ∷ xs) h =
    let e : n - b ≡ suc n - suc b = omega arith in
    let less : b ≤ n = omega (arith, h) in
    drop_take b n xs less ∙ ap (λ k. take k (drop b xs)) e

take_less : {X : Type 0} (b n : ℕ) (xs : List X) → b ≤ n → take b (take n xs) ≡ take b xs
take_less zero n xs h = refl
take_less (suc b) zero xs h = absurd (omega arith)
take_less (suc b) (suc n) [] h = refl
take_less (suc b) (suc n) (x ∷ xs) h = ap (λ l. x ∷ l) (take_less b n xs (omega arith))

pub segment_first : {X : Type 0} (xs : List X) (at end : ℕ) (d : X) → at < end → at < length xs
    → segment xs at end ≡ get_or xs at d ∷ segment xs (at + 1) end
segment_first xs at end d before within =
    let one_less : end - at ≡ suc (end - (at + 1)) = omega arith in
    let next : suc at ≡ at + 1 = omega arith in
    ap (take (end - at)) (drop_at xs at d within)
    ∙ (ap (λ n. take n (get_or xs at d ∷ drop (suc at) xs)) one_less
    ∙ ap (λ n. get_or xs at d ∷ take (end - (at + 1)) (drop n xs)) next)

pub segment_front : {X : Type 0} (xs : List X) (from below end : ℕ) → from + below ≤ end
    → take below (segment xs from end) ≡ segment xs from (from + below)
segment_front xs from below end h =
    let same : below ≡ from + below - from = omega arith in
    take_less below (end - from) (drop from xs) (omega arith) ∙ ap (λ n. take n (drop from xs)) same

pub segment_back : {X : Type 0} (xs : List X) (from below end : ℕ) → from + below ≤ end
    → drop below (segment xs from end) ≡ segment xs (from + below) end
segment_back xs from below end h =
    let same : end - from - below ≡ end - (from + below) = omega arith in
    drop_take below (end - from) (drop from xs) (omega arith)
    ∙ (ap (take (end - from - below)) (drop_drop from below xs)
    ∙ ap (λ n. take n (drop (from + below) xs)) same)

pub segment_none : {X : Type 0} (xs : List X) (at end : ℕ) → end ≤ at → segment xs at end ≡ []
segment_none xs at end h =
    let none_left : end - at ≡ 0 = omega arith in
    ap (λ n. take n (drop at xs)) none_left

pub segment_all : {X : Type 0} (xs : List X) → segment xs 0 (length xs) ≡ xs
segment_all {X} [] = take_none {X = X} (0 - 0)
segment_all (x ∷ xs) =
    let e : length (x ∷ xs) - 0 ≡ length (x ∷ xs) = omega arith in
    ap (λ n. take n (x ∷ xs)) e ∙ take_all (x ∷ xs)

pub at_of : (nodes : List RenderNode) (at : ℕ) (d : RenderNode) → at < length nodes
    → head_at nodes at ≡ (get_or nodes at d).head
at_of [] at d h = absurd (omega arith)
at_of (x ∷ xs) zero d h = refl
at_of (x ∷ xs) (suc at) d h = at_of xs at d (omega arith)

-- ---- the first node of a sound segment

-- what is known of the first node, and of those that stand in it and after it
record Split (nodes : List RenderNode) (sizes : List Extent) (w : Measure) (at end : ℕ) (x : RenderNode) : Type 0
  where
    nodes_are : segment nodes at end ≡ x ∷ segment nodes (at + 1) end
    flat : IsFlat (x ∷ segment nodes (at + 1) end)
    sizes_are : extent_at sizes at ∷ segment sizes (at + 1) end
        ≡ extent_of w x.head (first x.below (values_of (segment nodes (at + 1) end)))
        ∷ extents w (values_of (segment nodes (at + 1) end))
    fits : at + 1 + x.below ≤ end

length_segment : {X : Type 0} (xs : List X) (from to : ℕ) → length (segment xs from to) ≤ to - from
length_segment xs from to = omega (arith, length-take (to - from) (drop from xs))

split : (nodes : List RenderNode) (sizes : List Extent) (w : Measure) (at end : ℕ) (d : RenderNode) → at < end
    → length sizes ≡ length nodes → IsSound nodes sizes w at end → Split nodes sizes w at end (get_or nodes at d)
split nodes sizes w at end d before same sound =
    let x = get_or nodes at d in
    let xs = segment nodes (at + 1) end in
    let are : segment nodes at end ≡ x ∷ xs = segment_first nodes at end d before (omega (arith, sound.within)) in
    let flat : IsFlat (x ∷ xs) = subst IsFlat are sound.flat in
    let short = length_segment nodes (at + 1) end in
    record {
      nodes_are = are;
      flat = flat;
      sizes_are = sym (segment_first sizes at end nothing_wide before (omega (arith, sound.within, same)))
          ∙ left_is w (segment nodes at end) x xs (segment sizes at end) are sound.flat sound.sized;
      fits = omega (arith, below_fits x xs flat, short);
    }

heads : {X : Type 0} (x y : X) (xs ys : List X) → x ∷ xs ≡ y ∷ ys → x ≡ y
heads x y xs ys h = ap (λ l. get_or l 0 x) h

tails : {X : Type 0} (x y : X) (xs ys : List X) → x ∷ xs ≡ y ∷ ys → xs ≡ ys
tails x y xs ys h = ap (drop 1) h

-- what a node that is entered is known to have
pub record FirstNode (nodes : List RenderNode) (sizes : List Extent) (w : Measure) (at end : ℕ) (x : RenderNode)
    : Type 0 where
  pub fits : at + 1 + x.below ≤ end
  pub head : head_at nodes at ≡ x.head
  pub inner : IsSound nodes sizes w (at + 1) (at + 1 + x.below)
  pub rest : IsSound nodes sizes w (at + 1 + x.below) end
  pub are : values_of (segment nodes at end)
      ≡ value x.head (values_of (segment nodes (at + 1) (at + 1 + x.below)))
      (values_of (segment nodes (at + 1 + x.below) end))
  pub size : extent_at sizes at ≡ extent_of w x.head (values_of (segment nodes (at + 1) (at + 1 + x.below)))

found : (nodes : List RenderNode) (sizes : List Extent) (w : Measure) (at end : ℕ) (d : RenderNode) → at < end
    → length sizes ≡ length nodes → IsSound nodes sizes w at end
    → FirstNode nodes sizes w at end (get_or nodes at d)
found nodes sizes w at end d before same sound =
    let x = get_or nodes at d in
    let xs = segment nodes (at + 1) end in
    let s = split nodes sizes w at end d before same sound in
    let front = segment_front nodes (at + 1) x.below end s.fits in
    let back = segment_back nodes (at + 1) x.below end s.fits in
    let inner : first x.below (values_of xs) ≡ values_of (segment nodes (at + 1) (at + 1 + x.below))
    = sym (inner_values x xs s.flat) ∙ ap values_of front in
    let later : trailing x.below (values_of xs) ≡ values_of (segment nodes (at + 1 + x.below) end)
    = sym (next_values x xs s.flat) ∙ ap values_of back in
    let sized : segment sizes (at + 1) end ≡ extents w (values_of xs)
    = tails (extent_at sizes at) (extent_of w x.head (first x.below (values_of xs))) (segment sizes (at + 1) end)
    (extents w (values_of xs)) s.sizes_are in
    record {
      fits = s.fits;
      head = at_of nodes at d (omega (arith, sound.within));
      inner = record {
        order = omega arith;
        within = omega (arith, s.fits, sound.within);
        flat = subst IsFlat front (inner_flat x xs s.flat);
        sized = sym (segment_front sizes (at + 1) x.below end s.fits)
            ∙ (inner_extents w x xs (segment sizes (at + 1) end) s.flat sized
            ∙ ap (λ l. extents w (values_of l)) front);
      };
      rest = record {
        order = s.fits;
        within = sound.within;
        flat = subst IsFlat back (next_flat x xs s.flat);
        sized = sym (segment_back sizes (at + 1) x.below end s.fits)
            ∙ (next_extents w x xs (segment sizes (at + 1) end) s.flat sized
            ∙ ap (λ l. extents w (values_of l)) back);
      };
      are = ap values_of s.nodes_are ∙ (ap (λ v. value x.head v (trailing x.below (values_of xs))) inner
          ∙ ap (value x.head (values_of (segment nodes (at + 1) (at + 1 + x.below)))) later);
      size = heads (extent_at sizes at) (extent_of w x.head (first x.below (values_of xs)))
          (segment sizes (at + 1) end) (extents w (values_of xs)) s.sizes_are ∙ ap (extent_of w x.head) inner;
    }

pub first_node : (nodes : List RenderNode) (sizes : List Extent) (w : Measure) (at end : ℕ) (n : RenderNode)
    → n ≡ get_or nodes at n → at < end → length sizes ≡ length nodes → IsSound nodes sizes w at end
    → FirstNode nodes sizes w at end n
first_node nodes sizes w at end n is before same sound = subst (FirstNode nodes sizes w at end) (sym is)
    (found nodes sizes w at end n before same sound)

pub nothing_here : (nodes : List RenderNode) (at end : ℕ) → end ≤ at → values_of (segment nodes at end) ≡ none
nothing_here nodes at end past = ap values_of (segment_none nodes at end past)

pub all_here : (nodes : List RenderNode) → values_of (segment nodes 0 (length nodes)) ≡ values_of nodes
all_here nodes = ap values_of (segment_all nodes)

pub all_sound : (nodes : List RenderNode) (sizes : List Extent) (w : Measure) → IsFlat nodes
    → length sizes ≡ length nodes → sizes ≡ extents w (values_of nodes) → IsSound nodes sizes w 0 (length nodes)
all_sound nodes sizes w flat same sized = record {
  order = omega arith;
  within = omega arith;
  flat = subst IsFlat (sym (segment_all nodes)) flat;
  sized = ap (segment sizes 0) (sym same) ∙ (segment_all sizes
      ∙ (sized ∙ ap (λ l. extents w (values_of l)) (sym (segment_all nodes))));
}
