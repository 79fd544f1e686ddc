-- Nodes from a place up to another.
use Rattle.std.proofs.Common.{◌≡◌, ◌+◌, ◌-◌, ◌<◌, ◌≤◌, [], ◌∷◌, ◌∙◌, IfSome, List, Option, ap, arith, drop, get_or}
use Rattle.std.proofs.Common.{inl, length, refl}
use Rattle.std.proofs.Common.{subst, suc, sym, take, zero, ℕ}
use Rattle.std.proofs.lemmas.List.{length-drop, length-take}
use Rattle.render_sizes.specs.Asked.{AreMeasured, asked_of}
use Rattle.render_sizes.specs.Extents.{Measure, extent_of, extents}
use Rattle.render_sizes.specs.declared.asked.Asked.TheVariants.{Inside, Itself}
use Rattle.render_sizes.specs.declared.extent.Extent.{Extent}
use Rattle.render_sizes.proofs.AskedLemmas.{Found, found, length_measured}
use Rattle.render_sizes.proofs.ExtentLemmas.{inner_flat, inner_values}
use Rattle.render_values.specs.Arena.{IsFlat, trailing, first, values_of}
use Rattle.render_values.specs.Values.{count, none, value}
use Rattle.render_values.specs.declared.node.RenderNode.{RenderNode}
use Rattle.render_values.proofs.ArenaLemmas.{below_fits, length_flat, next_flat, next_values}
use Rattle.layout_values.specs.Seen.{IsSound}
use Rattle.column_fits.specs.declared.fit.ColumnFit.{ColumnFit}
use Rattle.layout_values.specs.Continuation.{info_at}
use Rattle.layout_values.specs.Seen.{fits_between}
use Rattle.layout_values.specs.Sizing.{Sizing, all_fits, fits_in, within}
use Rattle.layout_walk.proofs.FitsLemmas.{AreGiven, IsFitted, all_between, first_fits, no_fits}
use Rattle.layout_tables.specs.Seen.{fits_at}
use Rattle.table_fits.proofs.SegmentLemmas.{drop_none, segment_all, segment_back, segment_first, segment_front}
use Rattle.table_fits.proofs.SegmentLemmas.{segment_none, take_none}
use Rattle.table_fits.specs.Walk.{segment}

pub at_of : (nodes : List RenderNode) (at : ℕ) (d : RenderNode) → at < length nodes
    → info_at nodes at ≡ (get_or nodes at d).head.info
at_of [] at d h = absurd (omega arith)
at_of (x ∷ xs) zero d h = refl
at_of (x ∷ xs) (suc at) d h = at_of xs at d (omega arith)

-- ---- the first node of a sound segment

pub fits : (nodes : List RenderNode) (sizes : List Extent) (fs : Option (List (List ColumnFit)))
    (w : Sizing) (at end : ℕ) (d : RenderNode) → at < end
    → IsSound nodes sizes fs w at end → at + 1 + (get_or nodes at d).below ≤ end
fits nodes sizes fs w at end d before sound =
    let x = get_or nodes at d in
    let split = segment_first nodes at end d before (omega (arith, sound.within)) in
    let flat : IsFlat (x ∷ segment nodes (at + 1) end) = subst IsFlat split sound.flat in
    let short = length_segment nodes (at + 1) end in
    omega (arith, below_fits x (segment nodes (at + 1) end) flat, short)
  where
    length_take : {X : Type 0} (n : ℕ) (xs : List X) → length (take n xs) ≤ n
    length_take zero xs = omega arith
    length_take (suc n) [] = omega arith
    length_take (suc n) (y ∷ ys) = omega (arith, length_take n ys)

    length_segment : {X : Type 0} (xs : List X) (from to : ℕ) → length (segment xs from to) ≤ to - from
    length_segment xs from to = length_take (to - from) (drop from xs)

-- what is known of the first node, and of those that stand in it and after it
record Split (nodes : List RenderNode) (sizes : List Extent) (fs : Option (List (List ColumnFit)))
    (w : Sizing) (at end : ℕ) (x : RenderNode) : Type 0 where
  nodes_are : segment nodes at end ≡ x ∷ segment nodes (at + 1) end
  flat : IsFlat (x ∷ segment nodes (at + 1) end)
  finds : Found w.measure x (segment nodes (at + 1) end) (segment sizes at end)

some_there : {X : Type 0} (xs : List X) (at end n : ℕ) → length (segment xs at end) ≡ suc n → at < length xs
some_there {X} [] at end n h =
    let none_dropped = ap (λ (l : List X). length (take (end - at) l)) (drop_none {X = X} at) in
    let none_taken = ap (λ (l : List X). length l) (take_none {X = X} (end - at)) in
    absurd (omega (arith, h, none_dropped, none_taken))
some_there (x ∷ xs) zero end n h = omega arith
some_there (x ∷ xs) (suc at) end n h =
    let e : end - suc at ≡ end - 1 - at = omega arith in
    omega (arith, some_there xs at (end - 1) n (ap (λ k. length (take k (drop at xs))) (sym e) ∙ h))

split : (nodes : List RenderNode) (sizes : List Extent) (fs : Option (List (List ColumnFit)))
    (w : Sizing) (at end : ℕ) (d : RenderNode) → at < end
    → IsSound nodes sizes fs w at end → Split nodes sizes fs w at end (get_or nodes at d)
split nodes sizes fs w at end d before sound =
    let x = get_or nodes at d in
    let xs = segment nodes (at + 1) end in
    let are : segment nodes at end ≡ x ∷ xs = segment_first nodes at end d before (omega (arith, sound.within)) in
    let flat : IsFlat (x ∷ xs) = subst IsFlat are sound.flat in
    record {
      nodes_are = are;
      flat = flat;
      finds = found w.measure x xs (segment sizes at end) flat
          (subst (λ l. AreMeasured w.measure (values_of l) (segment sizes at end)) are sound.sized);
    }

pub sizes_there : (nodes : List RenderNode) (sizes : List Extent) (fs : Option (List (List ColumnFit)))
    (w : Sizing) (at end : ℕ) (d : RenderNode)
    → at < end → IsSound nodes sizes fs w at end → at < length sizes
sizes_there nodes sizes fs w at end d before sound =
    some_there sizes at end (length (segment nodes (at + 1) end)) (split nodes sizes fs w at end d before
    sound).finds.long

pub values_here : (nodes : List RenderNode) (sizes : List Extent) (fs : Option (List (List ColumnFit)))
    (w : Sizing) (at end : ℕ) (d : RenderNode)
    → at < end → IsSound nodes sizes fs w at end
    → values_of (segment nodes at end) ≡ value (get_or nodes at d).head
    (values_of (segment nodes (at + 1) (at + 1 + (get_or nodes at d).below)))
    (values_of (segment nodes (at + 1 + (get_or nodes at d).below) end))
values_here nodes sizes fs w at end d before sound =
    let x = get_or nodes at d in
    let xs = segment nodes (at + 1) end in
    let s = split nodes sizes fs w at end d before sound in
    let room = fits nodes sizes fs w at end d before sound in
    let inner : first x.below (values_of xs) ≡ values_of (segment nodes (at + 1) (at + 1 + x.below))
    = sym (inner_values x xs s.flat) ∙ ap values_of (segment_front nodes (at + 1) x.below end room) in
    let later : trailing x.below (values_of xs) ≡ values_of (segment nodes (at + 1 + x.below) end)
    = sym (next_values x xs s.flat) ∙ ap values_of (segment_back nodes (at + 1) x.below end room) in
    ap values_of s.nodes_are ∙ (ap (λ v. value x.head v (trailing x.below (values_of xs))) inner
    ∙ ap (value x.head (values_of (segment nodes (at + 1) (at + 1 + x.below)))) later)

pub size_here : (nodes : List RenderNode) (sizes : List Extent) (fs : Option (List (List ColumnFit)))
    (w : Sizing) (at end : ℕ) (d : RenderNode)
    → at < end → IsSound nodes sizes fs w at end → asked_of (get_or nodes at d).head.info ≡ Itself → (e : Extent)
    → get_or sizes at e ≡ extent_of w.measure (get_or nodes at d).head
    (values_of (segment nodes (at + 1) (at + 1 + (get_or nodes at d).below)))
size_here nodes sizes fs w at end d before sound asks e =
    let x = get_or nodes at d in
    let s = split nodes sizes fs w at end d before sound in
    sym (ap (λ l. get_or l 0 e) (segment_first sizes at end e before (sizes_there nodes sizes fs w at end d before
    sound)))
    ∙ (s.finds.own asks e ∙ ap (λ l. extent_of w.measure x.head (values_of l))
    (segment_front nodes (at + 1) x.below end (fits nodes sizes fs w at end d before sound)))

-- the columns of the nodes that stand in the first, and of those that follow it
sizes_in : (sizes : List Extent) (at below end : ℕ) → at + 1 + below ≤ end
    → take below (drop 1 (segment sizes at end)) ≡ segment sizes (at + 1) (at + 1 + below)
sizes_in sizes at below end room =
    ap (take below) (segment_back sizes at 1 end (omega (arith, room)))
    ∙ segment_front sizes (at + 1) below end room

sizes_after : (sizes : List Extent) (at below end : ℕ) → at + 1 + below ≤ end
    → drop below (drop 1 (segment sizes at end)) ≡ segment sizes (at + 1 + below) end
sizes_after sizes at below end room =
    ap (drop below) (segment_back sizes at 1 end (omega (arith, room)))
    ∙ segment_back sizes (at + 1) below end room

measured_by : (w : Measure) (vs us : List RenderNode) (es ds : List Extent) → vs ≡ us → es ≡ ds
    → AreMeasured w (values_of vs) es → AreMeasured w (values_of us) ds
measured_by w vs us es ds a b h =
    subst (λ l. AreMeasured w (values_of l) ds) a (subst (AreMeasured w (values_of vs)) b h)

pub inside_here : (nodes : List RenderNode) (sizes : List Extent) (fs : Option (List (List ColumnFit)))
    (w : Sizing) (at end : ℕ) (d : RenderNode)
    → at < end → IsSound nodes sizes fs w at end → asked_of (get_or nodes at d).head.info ≡ Inside
    → segment sizes (at + 1) (at + 1 + (get_or nodes at d).below)
    ≡ extents w.measure (values_of (segment nodes (at + 1) (at + 1 + (get_or nodes at d).below)))
inside_here nodes sizes fs w at end d before sound asks =
    let x = get_or nodes at d in
    let s = split nodes sizes fs w at end d before sound in
    let room = fits nodes sizes fs w at end d before sound in
    sym (sizes_in sizes at x.below end room)
    ∙ (s.finds.inside asks ∙ ap (λ l. extents w.measure (values_of l)) (segment_front nodes (at + 1) x.below end room))

long_segment : {X : Type 0} (xs : List X) (from to : ℕ) → to ≤ length xs → length (segment xs from to) ≡ to - from
long_segment xs from to h = omega (arith, length-take (to - from) (drop from xs), length-drop from xs, h)

-- what the columns of tables ask for: of the first node, of those that stand in it, and of those that follow it
fitted_here : (nodes : List RenderNode) (sizes : List Extent) (fs : Option (List (List ColumnFit)))
    (w : Sizing) (at end : ℕ) (d : RenderNode) → at < end → IsSound nodes sizes fs w at end
    → IsFitted fs w at end (get_or nodes at d).below (get_or nodes at d).head
    (values_of (segment nodes (at + 1) (at + 1 + (get_or nodes at d).below)))
    (values_of (segment nodes (at + 1 + (get_or nodes at d).below) end))
fitted_here nodes sizes fs w at end d before sound =
    let x = get_or nodes at d in
    let s = split nodes sizes fs w at end d before sound in
    let room = fits nodes sizes fs w at end d before sound in
    let inner = segment nodes (at + 1) (at + 1 + x.below) in
    let flat : IsFlat inner =
    subst IsFlat (segment_front nodes (at + 1) x.below end room) (inner_flat x (segment nodes (at + 1) end) s.flat) in
    let long : length inner ≡ at + 1 + x.below - (at + 1) =
    long_segment nodes (at + 1) (at + 1 + x.below) (omega (arith, room, sound.within)) in
    let many : count (values_of inner) ≡ x.below =
    omega (arith, length_flat (values_of inner), ap (λ (l : List RenderNode). length l) flat, long) in
    first_fits fs w at end x.below x.head (values_of inner) (values_of (segment nodes (at + 1 + x.below) end)) room
    many (sound.fitted ∙ ap (all_fits w) (values_here nodes sizes fs w at end d before sound))

pub inner_sound : (nodes : List RenderNode) (sizes : List Extent) (fs : Option (List (List ColumnFit)))
    (w : Sizing) (at end : ℕ) (d : RenderNode)
    → at < end → IsSound nodes sizes fs w at end
    → IsSound nodes sizes fs (within w (get_or nodes at d).head) (at + 1) (at + 1 + (get_or nodes at d).below)
inner_sound nodes sizes fs w at end d before sound =
    let x = get_or nodes at d in
    let xs = segment nodes (at + 1) end in
    let s = split nodes sizes fs w at end d before sound in
    let room = fits nodes sizes fs w at end d before sound in
    let cut = segment_front nodes (at + 1) x.below end room in
    record {
      within = omega (arith, room, sound.within);
      flat = subst IsFlat cut (inner_flat x xs s.flat);
      sized = measured_by w.measure _ _ _ _ cut (sizes_in sizes at x.below end room) s.finds.inner;
      fitted = (fitted_here nodes sizes fs w at end d before sound).inner;
    }

pub rest_sound : (nodes : List RenderNode) (sizes : List Extent) (fs : Option (List (List ColumnFit)))
    (w : Sizing) (at end : ℕ) (d : RenderNode)
    → at < end → IsSound nodes sizes fs w at end
    → IsSound nodes sizes fs w (at + 1 + (get_or nodes at d).below) end
rest_sound nodes sizes fs w at end d before sound =
    let x = get_or nodes at d in
    let xs = segment nodes (at + 1) end in
    let s = split nodes sizes fs w at end d before sound in
    let room = fits nodes sizes fs w at end d before sound in
    let cut = segment_back nodes (at + 1) x.below end room in
    record {
      within = sound.within;
      flat = subst IsFlat cut (next_flat x xs s.flat);
      sized = measured_by w.measure _ _ _ _ cut (sizes_after sizes at x.below end room) s.finds.rest;
      fitted = (fitted_here nodes sizes fs w at end d before sound).later;
    }

-- all of it, of the node that was found there
pub record FirstNode (nodes : List RenderNode) (sizes : List Extent) (fs : Option (List (List ColumnFit)))
    (w : Sizing) (at end : ℕ) (x : RenderNode) : Type 0 where
  pub fits : at + 1 + x.below ≤ end
  pub there : at < length sizes
  pub info : info_at nodes at ≡ x.head.info
  pub inner_there : at + 1 + x.below ≤ length sizes
  pub inner : IsSound nodes sizes fs (within w x.head) (at + 1) (at + 1 + x.below)
  pub rest : IsSound nodes sizes fs w (at + 1 + x.below) end
  pub are : values_of (segment nodes at end)
      ≡ value x.head (values_of (segment nodes (at + 1) (at + 1 + x.below)))
      (values_of (segment nodes (at + 1 + x.below) end))
  pub inside : asked_of x.head.info ≡ Inside → segment sizes (at + 1) (at + 1 + x.below)
      ≡ extents w.measure (values_of (segment nodes (at + 1) (at + 1 + x.below)))
  pub size : asked_of x.head.info ≡ Itself → (e : Extent) → get_or sizes at e
      ≡ extent_of w.measure x.head (values_of (segment nodes (at + 1) (at + 1 + x.below)))
  pub fitted : fits_at fs at ≡ fits_in w x.head (values_of (segment nodes (at + 1) (at + 1 + x.below)))
  pub fits_there : IfSome fs (λ l. at < length l)

-- where a segment has all its elements, they are there
ends_there : {X : Type 0} (xs : List X) (from to : ℕ) → from ≤ length xs → length (segment xs from to) ≡ to - from
    → to ≤ length xs
ends_there xs from to h long = omega (arith, length-take (to - from) (drop from xs), length-drop from xs, h, long)

-- sizes of sound nodes are there
pub inner_there : (nodes : List RenderNode) (sizes : List Extent) (fs : Option (List (List ColumnFit)))
    (w : Sizing) (from to : ℕ) → from ≤ length sizes
    → IsSound nodes sizes fs w from to → to ≤ length sizes
inner_there nodes sizes fs w from to h sound = ends_there sizes from to h
    (length_measured w.measure (values_of (segment nodes from to)) (segment sizes from to) sound.sized
    ∙ (sym (length_flat (values_of (segment nodes from to))) ∙ (ap length sound.flat
    ∙ long_segment nodes from to sound.within)))

pub first_node : (nodes : List RenderNode) (sizes : List Extent) (fs : Option (List (List ColumnFit)))
    (w : Sizing) (at end : ℕ) (n : RenderNode)
    → n ≡ get_or nodes at n → at < end → IsSound nodes sizes fs w at end → FirstNode nodes sizes fs w at end n
first_node nodes sizes fs w at end n is before sound = subst (FirstNode nodes sizes fs w at end) (sym is) (record {
  fits = fits nodes sizes fs w at end n before sound;
  there = sizes_there nodes sizes fs w at end n before sound;
  info = at_of nodes at n (omega (arith, sound.within));
  inner_there = inner_there nodes sizes fs (within w (get_or nodes at n).head) (at + 1)
      (at + 1 + (get_or nodes at n).below)
      (omega (arith, sizes_there nodes sizes fs w at end n before sound)) (inner_sound nodes sizes fs w at end n before
      sound);
  inner = inner_sound nodes sizes fs w at end n before sound;
  rest = rest_sound nodes sizes fs w at end n before sound;
  are = values_here nodes sizes fs w at end n before sound;
  inside = inside_here nodes sizes fs w at end n before sound;
  size = size_here nodes sizes fs w at end n before sound;
  fitted = (fitted_here nodes sizes fs w at end n before sound).own;
  fits_there = (fitted_here nodes sizes fs w at end n before sound).there;
})

pub nothing_here : (nodes : List RenderNode) (at end : ℕ) → end ≤ at → values_of (segment nodes at end) ≡ none
nothing_here nodes at end past = ap values_of (segment_none nodes at end past)

pub none_sound : (nodes : List RenderNode) (sizes : List Extent) (fs : Option (List (List ColumnFit)))
    (w : Sizing) (at end : ℕ) → end ≤ at
    → end ≤ length nodes → AreGiven fs w → IsSound nodes sizes fs w at end
none_sound nodes sizes fs w at end past within given = record {
  within = within;
  flat = subst IsFlat (sym (segment_none nodes at end past)) refl;
  sized = inl (segment_none sizes at end past
      ∙ ap (λ l. extents w.measure (values_of l)) (sym (segment_none nodes at end past)));
  fitted = no_fits fs w at end past given
      ∙ ap (λ l. all_fits w (values_of l)) (sym (segment_none nodes at end past));
}

pub all_here : (nodes : List RenderNode) → values_of (segment nodes 0 (length nodes)) ≡ values_of nodes
all_here nodes = ap values_of (segment_all nodes)

pub all_sound : (nodes : List RenderNode) (sizes : List Extent) (fs : Option (List (List ColumnFit)))
    (w : Sizing) → IsFlat nodes → AreMeasured w.measure (values_of nodes) sizes → fs ≡ all_fits w (values_of nodes)
    → IsSound nodes sizes fs w 0 (length nodes)
all_sound nodes sizes fs w flat sized fitted = record {
  within = omega arith;
  flat = subst IsFlat (sym (segment_all nodes)) flat;
  sized = measured_by w.measure nodes (segment nodes 0 (length nodes)) sizes (segment sizes 0 (length nodes))
      (sym (segment_all nodes))
      (sym (segment_all sizes) ∙ ap (λ n. segment sizes 0 n) long) sized;
  fitted = ap (λ f. fits_between f 0 (length nodes)) fitted
      ∙ (all_between w (values_of nodes) (length nodes) (sym (length_flat (values_of nodes)) ∙ ap length flat)
      ∙ ap (λ l. all_fits w (values_of l)) (sym (segment_all nodes)));
}
  where
    long : length sizes ≡ length nodes
    long = length_measured w.measure (values_of nodes) sizes sized ∙ (sym (length_flat (values_of nodes))
        ∙ ap length flat)
