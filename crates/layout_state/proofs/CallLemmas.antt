-- Calls of the current renderer, as calls of the page's.
use Rattle.std.proofs.Common.{◌≡◌, ℕ, ◌-◌, List, None, Some, Result, Ok, Err, IfOk, IsOk, OnOk, ap, sym, ◌∙◌}
use Rattle.std.specs.Option.{option_map}
use Rattle.block_renderer.specs.NewParts.{part_of}
use Rattle.block_trait.specs.Calls.{Call, adds_block, step}
use Rattle.block_trait.specs.Renderers.{Marking, Sub, room_after}
use Rattle.text_block_renderer.specs.Parts.{Parts, begin_part_link, finish_part_link, with_current}
use Rattle.text_decorators.specs.Marks.{Mark}
use Rattle.layout_state.specs.LayoutState.{LayoutState, TablePlace, begins_link, ends_link, in_around, in_current}
use Rattle.layout_state.specs.LayoutState.{in_part, in_parts, mark_of, part_begun, part_ended, says}
use Rattle.layout_state.specs.declared.around.Around.TheVariants.{Flow}

pub said : {H A : Type 0} (m : Marking H A) (c : Call (Sub H A)) (s new : Sub H A) (l : LayoutState H A)
    → s ≡ l.parts.current → step m c s ≡ Some new → says m c l ≡ Some (in_current l new)
unfolding says
said m c s new l e h = ap (λ x. option_map (in_current l) (step m c x)) (sym e) ∙ ap (option_map (in_current l)) h

pub unsaid : {H A : Type 0} (m : Marking H A) (c : Call (Sub H A)) (s : Sub H A) (l : LayoutState H A)
    → s ≡ l.parts.current → step m c s ≡ None → says m c l ≡ None
unfolding says
unsaid m c s l e h = ap (λ x. option_map (in_current l) (step m c x)) (sym e) ∙ ap (option_map (in_current l)) h

pub link_begun : {H A : Type 0} (m : Marking H A) (target : List ℕ) (l : LayoutState H A) (p : Parts H A)
    → begin_part_link m target l.parts ≡ Some p → begins_link m target l ≡ Some (in_parts l p)
unfolding begins_link
link_begun m target l p h = ap (option_map (in_parts l)) h

pub no_link_begun : {H A : Type 0} (m : Marking H A) (target : List ℕ) (l : LayoutState H A)
    → begin_part_link m target l.parts ≡ None → begins_link m target l ≡ None
unfolding begins_link
no_link_begun m target l h = ap (option_map (in_parts l)) h

pub link_ended : {H A : Type 0} (m : Marking H A) (l : LayoutState H A) (p : Parts H A)
    → finish_part_link m l.parts ≡ Some p → ends_link m l ≡ Some (in_parts l p)
unfolding ends_link
link_ended m l p h = ap (option_map (in_parts l)) h

pub no_link_ended : {H A : Type 0} (m : Marking H A) (l : LayoutState H A)
    → finish_part_link m l.parts ≡ None → ends_link m l ≡ None
unfolding ends_link
no_link_ended m l h = ap (option_map (in_parts l)) h

-- ---- parts

pub part_begins : {H A : Type 0} (m : Marking H A) (columns least width : ℕ) (l new : LayoutState H A)
    → room_after columns (least - columns) l.parts.current ≡ Some width → Some (in_part m width l) ≡ Some new
    → part_begun m columns least l ≡ Some new
unfolding part_begun
part_begins m columns least width l new h into = ap (option_map (λ n. in_part m n l)) h ∙ into

pub no_part_begins : {H A : Type 0} (m : Marking H A) (columns least : ℕ) (l : LayoutState H A)
    → room_after columns (least - columns) l.parts.current ≡ None → part_begun m columns least l ≡ None
unfolding part_begun
no_part_begins m columns least l h = ap (option_map (λ n. in_part m n l)) h

abbrev in_flow : {H A : Type 0} → TablePlace H A → Parts H A → LayoutState H A
in_flow place p = record { parts = p; around = Flow; table = place }

pub part_entered : {H A : Type 0} (m : Marking H A) (width : ℕ) (l : LayoutState H A) (mid p : Parts H A)
    (s trailing part : Sub H A) → s ≡ l.parts.current → mid ≡ with_current l.parts trailing
    → part ≡ part_of m.sub width s → p ≡ with_current mid part
    → Some (in_part m width l) ≡ Some (record { parts = p; around = Flow; table = l.table })
unfolding in_part
part_entered {H} {A} m width l mid p s trailing part e kept is into =
    ap (λ (x : Sub H A). Some (in_around Flow (in_current l (part_of m.sub width x)))) (sym e)
    ∙ (ap (λ (x : Sub H A). Some (in_around Flow (in_current l x))) (sym is)
    ∙ (ap (λ (q : Parts H A). Some (in_flow l.table (with_current q part))) (sym kept)
    ∙ ap (λ (q : Parts H A). Some (in_flow l.table q)) (sym into)))

pub part_ends_as : {H A : Type 0} (m : Marking H A) (outer part new : Sub H A) (first following : List ℕ)
    (l : LayoutState H A) (mid : Parts H A) (s : Sub H A) → part ≡ l.parts.current → mid ≡ with_current l.parts outer
    → s ≡ mid.current → step m (adds_block part first following) s ≡ Some new
    → part_ended m outer first following l ≡ Some (in_parts l (with_current mid new))
unfolding part_ended
part_ends_as {H} {A} m outer part new first following l mid s e kept f h =
    ap (λ (x : Sub H A). says m (adds_block x first following) (in_current l outer)) (sym e)
    ∙ (said m (adds_block part first following) s new (in_current l outer)
    (f ∙ ap (λ (q : Parts H A). q.current) kept) h
    ∙ ap (λ (q : Parts H A). Some (in_parts l (with_current q new))) (sym kept))

pub no_part_ends : {H A : Type 0} (m : Marking H A) (outer part : Sub H A) (first following : List ℕ)
    (l : LayoutState H A) (mid : Parts H A) (s : Sub H A) → part ≡ l.parts.current → mid ≡ with_current l.parts outer
    → s ≡ mid.current → step m (adds_block part first following) s ≡ None
    → part_ended m outer first following l ≡ None
unfolding part_ended
no_part_ends {H} {A} m outer part first following l mid s e kept f h =
    ap (λ (x : Sub H A). says m (adds_block x first following) (in_current l outer)) (sym e)
    ∙ unsaid m (adds_block part first following) s (in_current l outer)
    (f ∙ ap (λ (q : Parts H A). q.current) kept) h

-- the text of a mark is that which the decorator gives
pub marked : {H A : Type 0} (m : Marking H A) (kind : Mark) (l : LayoutState H A) (s : Sub H A) (cs : List ℕ)
    → s ≡ l.parts.current → cs ≡ m.mark_text s.held kind → cs ≡ mark_of m kind l
unfolding mark_of
marked m kind l s cs e h = h ∙ ap (λ (x : Sub _ _). m.mark_text x.held kind) e

pub if_ok_by : {X E : Type 0} (P Q : X → Type 0) (r : Result X E) → ((x : X) → P x → Q x) → IfOk r P → IfOk r Q
if_ok_by P Q (Ok x) f h = f x h
if_ok_by P Q (Err e) f h = tt

pub when_ok : {T E : Type 0} (P : Type 0) (r : Result T E) → IsOk r → OnOk r P → P
when_ok P (Ok x) ok h = h
when_ok P (Err e) ok h = cc
