-- What a value that begins leaves to be done.
use Rattle.std.proofs.Common.{◌≡◌, if◌then◌else◌, ◌+◌, ◌-◌, ◌*◌, ◌≤◌, [], ◌∷◌, ◌++◌, ◌∙◌, Bool, List, Option, ap}
use Rattle.std.proofs.Common.{append_assoc}
use Rattle.std.proofs.Common.{arith, false, length, map, nat_lt, refl, subst, sym, true, ℕ}
use Rattle.std.specs.Prelude.{All}
use Rattle.std.proofs.lemmas.Bool.Decides.{nat_tests}
use Rattle.std.proofs.lemmas.List.{map-append}
use Rattle.std.proofs.lemmas.List.Elements.{All-cons, All-head, All-nil, All-tail}
use Rattle.std.specs.Option.{option_and_then}
use Rattle.block_trait.specs.Renderers.{Marking}
use Rattle.column_fits.specs.declared.fit.ColumnFit.{ColumnFit}
use Rattle.layout_values.specs.Sizing.{Sizing, in_mode, within}
use Rattle.text_pieces.specs.declared.white_space.WhiteSpace.{WhiteSpace}
use Rattle.render_sizes.specs.declared.extent.Extent.{Extent}
use Rattle.render_values.specs.Values.{Values, value}
use Rattle.render_values.specs.declared.info.Head.{Head}
use Rattle.render_values.specs.declared.node.RenderNode.{RenderNode}
use Rattle.render_values.specs.Arena.{values_of}
use Rattle.layout_values.specs.Lay.{Content, content_of, laid, lay}
use Rattle.layout_state.specs.LayoutState.{LayoutState, Step}
use Rattle.layout_values.specs.Seen.{AreAlike, IsReady, IsSound, WorksOutside, load, rest_of, rest_where, waiting_of}
use Rattle.layout_values.specs.Seen.{weight, where_entered}
use Rattle.layout_values.specs.Continuation.{Continuation, unwound}
use Rattle.table_fits.specs.Walk.{segment}
use Rattle.layout_walk.proofs.FitsLemmas.{are_given}
use Rattle.layout_values.specs.declared.waiting.Continuation.{Continuation as CodeWaiting}
use Rattle.layout_values.specs.declared.waiting.Continuation.TheVariants.{CellEnds, ItemEnds, ListEnds, LookEnds}
use Rattle.layout_values.specs.declared.waiting.Continuation.TheVariants.{PartEnds, Rest, RowEnds, TableEnds, ValueEnds}
use Rattle.layout_walk.proofs.SegmentLemmas.{none_sound, nothing_here}
use Rattle.layout_values.proofs.ValueLemmas.{all_on}
use Rattle.layout_walk.proofs.WalkLemmas.{enters}

pub entered : {X H A : Type 0} (f : X → Continuation H A) (m : Marking H A) (w here : Sizing)
    (old one rests items new : List X)
    (head : Head) (inner later vs next : Values) (c : Content) (is_entered : Bool) (before trailing : LayoutState H A)
    → one ≡ old ++ rests → new ≡ one ++ items
    → ((l : LayoutState H A) → unwound m w (map f rests) l ≡ lay m here later l) → vs ≡ value head inner later
    → AreAlike head.info c (content_of here head inner)
    → ((inside : Step H A) → laid m head c inside before
    ≡ option_and_then (unwound m w (map f items)) (where_entered is_entered inside trailing))
    → where_entered is_entered (lay m (within here head) inner) trailing ≡ lay m (within here head) next trailing
    → option_and_then (unwound m w (map f new)) (lay m (within here head) next trailing)
    ≡ option_and_then (unwound m w (map f old)) (lay m here vs before)
entered {X} f m w here old one rests items new head inner later vs next c is_entered before trailing first second
    waits is known opens goes =
    ap (λ v. option_and_then (unwound m w v) (lay m (within here head) next trailing))
    (ap (map f) (second ∙ (ap (λ (v : List X). v ++ items) first ∙ append_assoc old rests items))
    ∙ (map-append f old (rests ++ items) ∙ ap (λ v. map f old ++ v) (map-append f rests items)))
    ∙ enters m w here (map f old) (map f rests) (map f items) head inner later vs c before
    (lay m (within here head) next trailing) waits is known
    (opens (lay m (within here head) inner) ∙ ap (option_and_then (unwound m w (map f items))) goes)

no_rest : (from to : ℕ) → nat_lt from to ≡ false → to ≤ from
no_rest from to is = grind (arith, nat_tests)

waits_where : {D T H A : Type 0} (seen : T → A) (held : D → H) (nodes : List RenderNode) (m : Marking H A)
    (w : Sizing) (mode : WhiteSpace) (from to : ℕ) (is_some : Bool) (l : LayoutState H A) → nat_lt from to ≡ is_some
    → unwound m w (map (waiting_of seen held nodes) (rest_where is_some mode from to)) l
    ≡ lay m (in_mode w mode) (values_of (segment nodes from to)) l
unfolding unwound
waits_where seen held nodes m w mode from to true l is = refl
waits_where seen held nodes m w mode from to false l is =
    ap (λ v. lay m (in_mode w mode) v l) (sym (nothing_here nodes from to (no_rest from to is)))

-- The values after one are laid out, also where there are none.
pub rest_waits : {D T H A : Type 0} (seen : T → A) (held : D → H) (nodes : List RenderNode) (m : Marking H A)
    (w : Sizing) (mode : WhiteSpace) (from to : ℕ) (l : LayoutState H A)
    → unwound m w (map (waiting_of seen held nodes) (rest_of mode from to)) l
    ≡ lay m (in_mode w mode) (values_of (segment nodes from to)) l
rest_waits seen held nodes m w mode from to l = waits_where seen held nodes m w mode from to (nat_lt from to) l refl

-- what stands in a value is next where it was entered, and nothing of it where it was not
pub goes_in : {H A : Type 0} (m : Marking H A) (w : Sizing) (nodes : List RenderNode) (is_entered : Bool)
    (from trailing at : ℕ) (l : LayoutState H A) → at ≡ (if is_entered then from else trailing)
    → where_entered is_entered (lay m w (values_of (segment nodes from trailing))) l
    ≡ lay m w (values_of (segment nodes at trailing)) l
goes_in m w nodes true from trailing at l is = ap (λ n. lay m w (values_of (segment nodes n trailing)) l) (sym is)
goes_in m w nodes false from trailing at l is =
    ap (λ v. lay m w v l) (sym (nothing_here nodes at trailing (omega (arith, is))))

pub sound_in : (nodes : List RenderNode) (sizes : List Extent) (fs : Option (List (List ColumnFit))) (w : Sizing)
    (is_entered : Bool) (from trailing at : ℕ)
    → at ≡ (if is_entered then from else trailing) → IsSound nodes sizes fs w from trailing
    → IsSound nodes sizes fs w at trailing
sound_in nodes sizes fs w true from trailing at is sound = subst (λ n. IsSound nodes sizes fs w n trailing)
    (sym is) sound
sound_in nodes sizes fs w false from trailing at is sound =
    none_sound nodes sizes fs w at trailing (omega (arith, is)) sound.within
    (are_given fs w from trailing (values_of (segment nodes from trailing)) sound.fitted)

pub short_in : (is_entered : Bool) (from trailing at : ℕ) → at ≡ (if is_entered then from else trailing)
    → trailing - at ≤ trailing - from
short_in true from trailing at is = omega (arith, is)
short_in false from trailing at is = omega (arith, is)

-- what was found of nodes is known of those that they are
pub known_in : (w : Sizing) (head : Head) (c : Content) (found inside : List RenderNode)
    → AreAlike head.info c (content_of w head (values_of found)) → found ≡ inside
    → AreAlike head.info c (content_of w head (values_of inside))
known_in w head c found inside known same =
    subst (λ l. AreAlike head.info c (content_of w head (values_of l))) same known

-- ---- how much is left to be done

load_on : {D T : Type 0} (xs ys : List (CodeWaiting D T)) → load (xs ++ ys) ≡ load xs + load ys
load_on [] ys = omega arith
load_on (x ∷ xs) ys = omega (arith, load_on xs ys)

light : {D T : Type 0} (x : CodeWaiting D T) → WorksOutside x → weight x ≡ 1
light (Rest mode from to) h = absurd h
light (ValueEnds at) h = refl
light (LookEnds style) h = refl
light (PartEnds part) h = refl
light (ItemEnds item) h = refl
light ListEnds h = refl
light (TableEnds table) h = refl
light RowEnds h = refl
light (CellEnds cell) h = refl

all_light : {D T : Type 0} (xs : List (CodeWaiting D T)) → All WorksOutside xs → load xs ≡ length xs
all_light [] h = refl
all_light (x ∷ xs) h = omega (
  arith,
  light x (All-head WorksOutside x xs h),
  all_light xs (All-tail WorksOutside x xs h),
)

rest_load : (D T : Type 0) (is_some : Bool) (mode : WhiteSpace) (from to : ℕ)
    → load {D = D} {T = T} (rest_where is_some mode from to) ≤ 8 * (to - from) + 1
rest_load D T true mode from to = omega arith
rest_load D T false mode from to = omega arith

pub entered_load : {D T : Type 0} (old one items new : List (CodeWaiting D T)) (mode : WhiteSpace)
    (from to : ℕ)
    → one ≡ old ++ rest_of mode from to → new ≡ one ++ items → All WorksOutside items → length items ≤ 4
    → load new ≤ load old + 8 * (to - from) + 5
entered_load {D} {T} old one items new mode from to first second works few =
    let e : load new ≡ load old + load (rest_of mode from to ++ items) =
    ap load (second ∙ (ap (λ (v : List (CodeWaiting D T)). v ++ items) first ∙ append_assoc old (rest_of mode from to)
    items))
    ∙ load_on old (rest_of mode from to ++ items) in
    omega (
      arith,
      e,
      load_on (rest_of mode from to) items,
      rest_load D T (nat_lt from to) mode from to,
      all_light items works,
      few,
    )

pub left_load : {D T : Type 0} (old kept : List (CodeWaiting D T)) (x : CodeWaiting D T) → old ≡ kept ++ x ∷ []
    → load old ≡ load kept + weight x
left_load old kept x is = ap load is ∙ (load_on kept (x ∷ []) ∙ omega arith)

-- ---- what waits may be done

works_ready : {D T : Type 0} (nodes : List RenderNode) (sizes : List Extent) (fs : Option (List (List ColumnFit)))
    (w : Sizing) (x : CodeWaiting D T)
    → WorksOutside x → IsReady nodes sizes fs w x
works_ready nodes sizes fs w (Rest mode from to) h = absurd h
works_ready nodes sizes fs w (ValueEnds at) h = tt
works_ready nodes sizes fs w (LookEnds style) h = tt
works_ready nodes sizes fs w (PartEnds part) h = h
works_ready nodes sizes fs w (ItemEnds item) h = h
works_ready nodes sizes fs w ListEnds h = tt
works_ready nodes sizes fs w (TableEnds table) h = tt
works_ready nodes sizes fs w RowEnds h = tt
works_ready nodes sizes fs w (CellEnds cell) h = h

all_ready : {D T : Type 0} (nodes : List RenderNode) (sizes : List Extent) (fs : Option (List (List ColumnFit)))
    (w : Sizing)
    (xs : List (CodeWaiting D T)) → All WorksOutside xs → All (IsReady nodes sizes fs w) xs
all_ready nodes sizes fs w [] h = All-nil (IsReady nodes sizes fs w)
all_ready nodes sizes fs w (x ∷ xs) h = All-cons (IsReady nodes sizes fs w) x xs
    (works_ready nodes sizes fs w x (All-head WorksOutside x xs h))
    (all_ready nodes sizes fs w xs (All-tail WorksOutside x xs h))

rest_ready : {D T : Type 0} (nodes : List RenderNode) (sizes : List Extent) (fs : Option (List (List ColumnFit)))
    (w : Sizing) (is_some : Bool) (mode : WhiteSpace) (from to : ℕ) → IsSound nodes sizes fs (in_mode w mode) from to
    → All (IsReady {D = D} {T = T} nodes sizes fs w) (rest_where is_some mode from to)
rest_ready nodes sizes fs w true mode from to sound =
    All-cons (IsReady nodes sizes fs w) (Rest mode from to) [] sound (All-nil (IsReady nodes sizes fs w))
rest_ready nodes sizes fs w false mode from to sound = All-nil (IsReady nodes sizes fs w)

pub entered_ready : {D T : Type 0} (nodes : List RenderNode) (sizes : List Extent)
    (fs : Option (List (List ColumnFit))) (w : Sizing)
    (old one items new : List (CodeWaiting D T)) (mode : WhiteSpace) (from to : ℕ) → one ≡ old ++ rest_of mode from to
    → new ≡ one ++ items → All WorksOutside items → IsSound nodes sizes fs (in_mode w mode) from to
    → All (IsReady nodes sizes fs w) old → All (IsReady nodes sizes fs w) new
entered_ready nodes sizes fs w old one items new mode from to first second works sound ready =
    subst (All (IsReady nodes sizes fs w)) (sym second)
    (all_on (IsReady nodes sizes fs w) one items
    (subst (All (IsReady nodes sizes fs w)) (sym first)
    (all_on (IsReady nodes sizes fs w) old (rest_of mode from to) ready
    (rest_ready nodes sizes fs w (nat_lt from to) mode from to sound)))
    (all_ready nodes sizes fs w items works))

pub front_ready : {X : Type 0} (P : X → Type 0) (all kept : List X) (x : X) → all ≡ kept ++ x ∷ [] → All P all
    → All P kept × P x
front_ready P all kept x is h = (front kept (subst (All P) is h), last kept (subst (All P) is h))
  where
    front : (xs : List _) → All P (xs ++ x ∷ []) → All P xs
    front [] h = All-nil P
    front (y ∷ xs) h =
        All-cons P y xs (All-head P y (xs ++ x ∷ []) h) (front xs (All-tail P y (xs ++ x ∷ []) h))

    last : (xs : List _) → All P (xs ++ x ∷ []) → P x
    last [] h = All-head P x [] h
    last (y ∷ xs) h = last xs (All-tail P y (xs ++ x ∷ []) h)
