-- What a value is in, opened.
use Rattle.std.proofs.Common.{◌≡◌, [], ◌∷◌, ◌∙◌, Bool, List, None, Option, Some, ap, chars, false, refl, sym, true, ℕ}
use Rattle.std.proofs.Common.{ℤ}
use Rattle.std.specs.Option.{option_and_then}
use Rattle.block_trait.specs.Renderers.{Marking, Sub}
use Rattle.text_lines.specs.Columns.{text_columns}
use Rattle.text_decorators.specs.Marks.{Mark}
use Rattle.layout_values.specs.Sizing.{Sizing}
use Rattle.render_values.specs.Looks.{plain}
use Rattle.render_values.specs.declared.info.Head.{Head}
use Rattle.render_values.specs.declared.info.RenderInfo.{RenderInfo}
use Rattle.render_values.specs.declared.info.RenderInfo.TheVariants as infos
use Rattle.render_values.specs.declared.style.RenderStyle.{RenderStyle}
use Rattle.layout_state.specs.Begins.{begins, ends, following, leading, style_begins, style_ends}
use Rattle.layout_state.specs.Items.{item_columns, item_mark, last_mark, next_mark, padded, spaces}
use Rattle.layout_values.specs.Lay.{Content, after_mark, holds, item_laid, listed, shown, styled}
use Rattle.layout_state.specs.LayoutState.{LayoutState, Step, after_prefix, goes_on, in_around, in_turn, mark_of}
use Rattle.layout_state.specs.LayoutState.{part_begun, part_ended}
use Rattle.layout_values.specs.Seen.{where_entered}
use Rattle.layout_tables.specs.Tables.{table_laid}
use Rattle.layout_values.specs.Continuation.{Continuation, item_ends, list_ends, look_ends, part_ends, undone, unwound}
use Rattle.layout_values.specs.Continuation.{value_ends}
use Rattle.layout_state.specs.declared.around.Around.TheVariants.{Flow, Items}
use Rattle.layout_state.specs.declared.around.ItemMark.{ItemMark}
use Rattle.layout_state.proofs.StepLemmas.{then_same, then_then, turn_off, turn_on}
use Rattle.layout_values.proofs.StepLemmas.{nothing_waits, one_more, one_waits}

-- what waits in a box
pub box_waits : {X H A : Type 0} (m : Marking H A) (w : Sizing) (f : X → Continuation H A) (boxed x : X)
    (whole o : Option (LayoutState H A)) → boxed ≡ x → whole ≡ option_and_then (unwound m w (f x ∷ [])) o
    → whole ≡ option_and_then (unwound m w (f boxed ∷ [])) o
box_waits m w f boxed x whole o is h = h ∙ ap (λ y. option_and_then (unwound m w (f y ∷ [])) o) (sym is)

-- what waited in a box is done
pub unboxed : {X H A : Type 0} (m : Marking H A) (w : Sizing) (f : X → Continuation H A) (boxed x : X)
    (l : LayoutState H A)
    (o : Option (LayoutState H A)) → x ≡ boxed → undone m w (f x) l ≡ o → undone m w (f boxed) l ≡ o
unboxed m w f boxed x l o is h = ap (λ y. undone m w (f y) l) (sym is) ∙ h

-- ---- parts

-- a part ends, whose prefixes are those texts
pub part_by : {H A : Type 0} (m : Marking H A) (outer : Sub H A) (first following one other : List ℕ)
    (l : LayoutState H A) (o : Option (LayoutState H A)) → one ≡ first → other ≡ following
    → part_ended m outer (chars one) (chars other) l ≡ o → part_ended m outer (chars first) (chars following) l ≡ o
part_by m outer first following one other l o e f h =
    ap (λ (bs : List ℕ). part_ended m outer (chars bs) (chars following) l) (sym e)
    ∙ (ap (λ (bs : List ℕ). part_ended m outer (chars one) (chars bs) l) (sym f) ∙ h)

pub part_opens : {H A : Type 0} (m : Marking H A) (w : Sizing) (columns least : ℕ) (first following : List ℕ)
    (inside : Step H A) (old new : LayoutState H A) (outer : Sub H A) → part_begun m columns least old ≡ Some new
    → outer ≡ old.parts.current → after_prefix m columns first following least inside old
    ≡ option_and_then (unwound m w (part_ends outer first following ∷ [])) (inside new)
part_opens m w columns least first following inside old new outer h e =
    turn_on (part_begun m columns least) (in_turn inside (part_ended m old.parts.current first following)) old new _ h
    (ap (λ s. option_and_then (part_ended m s first following) (inside new)) (sym e)
    ∙ one_waits m w (part_ends outer first following) (inside new))

pub no_part_opens : {H A : Type 0} (m : Marking H A) (columns least : ℕ) (first following : List ℕ)
    (inside : Step H A) (old : LayoutState H A) → part_begun m columns least old ≡ None
    → after_prefix m columns first following least inside old ≡ None
no_part_opens m columns least first following inside old h =
    turn_off (part_begun m columns least) (in_turn inside (part_ended m old.parts.current first following)) old h

-- prefixes that a decorator gave here
pub mark_opens : {H A : Type 0} (m : Marking H A) (kind : Mark) (least n : ℕ) (first following : List ℕ)
    (inside : Step H A) (old mid new : LayoutState H A) (o : Option (LayoutState H A)) → mid ≡ old → new ≡ mid
    → first ≡ mark_of m kind old → following ≡ mark_of m kind mid → n ≡ text_columns first
    → after_prefix m n first following least inside new ≡ o → after_mark m kind least inside old ≡ o
mark_opens m kind least n first following inside old mid new o same stays one other wide h =
    let prefix = mark_of m kind old in
    let second : following ≡ prefix = other ∙ ap (mark_of m kind) same in
    ap (λ (cs : List ℕ). after_prefix m (text_columns cs) cs prefix least inside old) (sym one)
    ∙ (ap (λ (cs : List ℕ). after_prefix m (text_columns first) first cs least inside old) (sym second)
    ∙ (ap (λ (k : ℕ). after_prefix m k first following least inside old) (sym wide)
    ∙ (ap (λ l. after_prefix m n first following least inside l) (sym (stays ∙ same)) ∙ h)))

pub spaces_open : {H A : Type 0} (m : Marking H A) (columns least : ℕ) (first following one other : List ℕ)
    (inside : Step H A) (l : LayoutState H A) (o : Option (LayoutState H A)) → first ≡ one → following ≡ other
    → after_prefix m columns first following least inside l ≡ o
    → after_prefix m columns one other least inside l ≡ o
spaces_open m columns least first following one other inside l o e f h =
    ap (λ (cs : List ℕ). after_prefix m columns cs other least inside l) (sym e)
    ∙ (ap (λ (cs : List ℕ). after_prefix m columns first cs least inside l) (sym f) ∙ h)

-- ---- lists

pub items_open : {H A : Type 0} (m : Marking H A) (w : Sizing) (first last : ItemMark) (items least columns : ℕ)
    (inside : Step H A) (old new : LayoutState H A) → last ≡ last_mark first items
    → columns ≡ item_columns m first last old
    → new ≡ in_around (Items first columns least) old
    → listed m first items least inside old ≡ option_and_then (unwound m w (list_ends ∷ [])) (inside new)
items_open m w first last items least columns inside old new is wide set =
    ap (λ (n : ℕ). option_and_then (goes_on Flow) (inside (in_around (Items first n least) old)))
    (sym (wide ∙ ap (λ x. item_columns m first x old) is))
    ∙ (ap (λ x. option_and_then (goes_on Flow) (inside x)) (sym set) ∙ one_waits m w list_ends (inside new))

pub item_opens : {H A : Type 0} (m : Marking H A) (w : Sizing) (mark next : ItemMark) (columns least : ℕ)
    (first following : List ℕ) (inside : Step H A) (old mid new : LayoutState H A) (outer : Sub H A) → mid ≡ old
    → first ≡ padded columns (mark_of m (item_mark mark) old) → following ≡ spaces columns → next ≡ next_mark mark
    → part_begun m columns least mid ≡ Some new → outer ≡ mid.parts.current
    → item_laid m mark columns least inside old
    ≡ option_and_then (unwound m w (item_ends outer first following (Items next columns least) ∷ [])) (inside new)
item_opens {H} {A} m w mark next columns least first following inside old mid new outer same one other on h e =
    let begun : part_begun m columns least old ≡ Some new = ap (part_begun m columns least) (sym same) ∙ h in
    let out : outer ≡ old.parts.current = e ∙ ap (λ (l : LayoutState H A). l.parts.current) same in
    let goes = goes_on {H = H} {A = A} (Items (next_mark mark) columns least) in
    ap (option_and_then goes)
    (turn_on (part_begun m columns least) (in_turn inside (part_ended m old.parts.current
    (padded columns (mark_of m (item_mark mark) old)) (spaces columns))) old new _ begun refl)
    ∙ (sym (then_then (part_ended m old.parts.current (padded columns (mark_of m (item_mark mark) old))
    (spaces columns)) goes (inside new))
    ∙ (ap (λ (x : ItemMark). option_and_then (in_turn (part_ended m old.parts.current
    (padded columns (mark_of m (item_mark mark) old)) (spaces columns)) (goes_on (Items x columns least)))
    (inside new)) (sym on)
    ∙ (ap (λ (cs : List ℕ). option_and_then (in_turn (part_ended m old.parts.current cs (spaces columns))
    (goes_on (Items next columns least))) (inside new)) (sym one)
    ∙ (ap (λ (cs : List ℕ). option_and_then (in_turn (part_ended m old.parts.current first cs)
    (goes_on (Items next columns least))) (inside new)) (sym other)
    ∙ (ap (λ s. option_and_then (in_turn (part_ended m s first following) (goes_on (Items next columns least)))
    (inside new)) (sym out)
    ∙ one_waits m w (item_ends outer first following (Items next columns least)) (inside new))))))

pub no_item_opens : {H A : Type 0} (m : Marking H A) (mark : ItemMark) (columns least : ℕ) (inside : Step H A)
    (old mid : LayoutState H A) → mid ≡ old → part_begun m columns least mid ≡ None
    → item_laid m mark columns least inside old ≡ None
no_item_opens {H} {A} m mark columns least inside old mid same h =
    ap (option_and_then (goes_on {H = H} {A = A} (Items (next_mark mark) columns least)))
    (no_part_opens m columns least (padded columns (mark_of m (item_mark mark) old)) (spaces columns) inside old
    (ap (part_begun m columns least) (sym same) ∙ h))

-- ---- values

-- what stands in a value that is no part stands where it is
pub held_alone : {H A : Type 0} (m : Marking H A) (w : Sizing) (info : RenderInfo) (c : Content)
    (inside : Step H A) (l : LayoutState H A) → ((level : ℕ) → info ≡ infos.Heading level → ⊥) →
    (info ≡ infos.Quote → ⊥)
    → (info ≡ infos.Bullets → ⊥) → ((first : ℤ) → info ≡ infos.Numbers first → ⊥) → (info ≡ infos.Details → ⊥)
    → (info ≡ infos.Table → ⊥) → holds m info c inside l ≡ option_and_then (unwound m w []) (inside l)
unfolding holds
held_alone m w (infos.Heading level) content inside l a b c d e f = absurd (a level refl)
held_alone m w infos.Quote content inside l a b c d e f = absurd (b refl)
held_alone m w infos.Bullets content inside l a b c d e f = absurd (c refl)
held_alone m w (infos.Numbers first) content inside l a b c d e f = absurd (d first refl)
held_alone m w infos.Details content inside l a b c d e f = absurd (e refl)
held_alone m w infos.Nothing content inside l a b c d e f = nothing_waits m w (inside l)
held_alone m w (infos.Text cs) content inside l a b c d e f = nothing_waits m w (inside l)
held_alone m w (infos.Image source title) content inside l a b c d e f = nothing_waits m w (inside l)
held_alone m w infos.Break content inside l a b c d e f = nothing_waits m w (inside l)
held_alone m w infos.Rule content inside l a b c d e f = nothing_waits m w (inside l)
held_alone m w infos.Container content inside l a b c d e f = nothing_waits m w (inside l)
held_alone m w (infos.Link target) content inside l a b c d e f = nothing_waits m w (inside l)
held_alone m w infos.Emphasis content inside l a b c d e f = nothing_waits m w (inside l)
held_alone m w infos.Strong content inside l a b c d e f = nothing_waits m w (inside l)
held_alone m w infos.Strikeout content inside l a b c d e f = nothing_waits m w (inside l)
held_alone m w infos.Code content inside l a b c d e f = nothing_waits m w (inside l)
held_alone m w infos.Superscript content inside l a b c d e f = nothing_waits m w (inside l)
held_alone m w infos.Block content inside l a b c d e f = nothing_waits m w (inside l)
held_alone m w infos.Division content inside l a b c d e f = nothing_waits m w (inside l)
held_alone m w infos.Preformatted content inside l a b c d e f = nothing_waits m w (inside l)
held_alone m w infos.Descriptions content inside l a b c d e f = nothing_waits m w (inside l)
held_alone m w infos.Term content inside l a b c d e f = nothing_waits m w (inside l)
held_alone m w infos.Table content inside l a b c d e f = absurd (f refl)
held_alone m w infos.TableGroup content inside l a b c d e f = nothing_waits m w (inside l)
held_alone m w infos.TableRow content inside l a b c d e f = nothing_waits m w (inside l)
held_alone m w (infos.TableCell columns rows) content inside l a b c d e f = nothing_waits m w (inside l)

pub table_holds : {H A : Type 0} (m : Marking H A) (info : RenderInfo) (c : Content) (inside : Step H A)
    (l : LayoutState H A) (o : Option (LayoutState H A)) → info ≡ infos.Table → table_laid m c.table c.fits inside l ≡ o
    → holds m info c inside l ≡ o
unfolding holds
table_holds m info c inside l o is h = ap (λ i. holds m i c inside l) is ∙ h

pub plain_opens : {H A : Type 0} (m : Marking H A) (w : Sizing) (style : RenderStyle) (inside : Step H A)
    (l : LayoutState H A) → style ≡ plain → styled m style inside l ≡ option_and_then (unwound m w []) (inside l)
unfolding style_begins style_ends
plain_opens m w style inside l e = ap (λ s. styled m s inside l) e
    ∙ (then_same (style_ends m plain) (λ x. Some x) (inside l) (λ x. refl) ∙ ends_here (inside l))
  where
    ends_here : (o : Option (LayoutState _ _)) → option_and_then (λ x. Some x) o ≡ option_and_then (unwound m w []) o
    ends_here None = nothing_waits m w None
    ends_here (Some x) = nothing_waits m w (Some x)

pub look_opens : {H A : Type 0} (m : Marking H A) (w : Sizing) (style : RenderStyle) (inside : Step H A)
    (old new : LayoutState H A) → style_begins m style old ≡ Some new
    → styled m style inside old ≡ option_and_then (unwound m w (look_ends style ∷ [])) (inside new)
look_opens m w style inside old new h =
    turn_on (style_begins m style) (in_turn inside (style_ends m style)) old new _ h
    (one_waits m w (look_ends style) (inside new))

pub no_look_opens : {H A : Type 0} (m : Marking H A) (style : RenderStyle) (inside : Step H A) (old : LayoutState H A)
    → style_begins m style old ≡ None → styled m style inside old ≡ None
no_look_opens m style inside old h = turn_off (style_begins m style) (in_turn inside (style_ends m style)) old h

pub shown_opens : {H A : Type 0} (m : Marking H A) (w : Sizing) (head : Head) (c : Content) (inside : Step H A)
    (old led begun held new : LayoutState H A) (parts : List (Continuation H A)) (is_entered : Bool) → is_entered ≡ true
    → leading m head old ≡ Some led → begins m head.info led ≡ Some begun
    → ((x : Step H A) → holds m head.info c x begun
    ≡ option_and_then (unwound m w parts) (where_entered is_entered x held))
    → following m head held ≡ Some new
    → shown m head c inside old ≡ option_and_then (unwound m w (value_ends head.info ∷ parts)) (inside new)
shown_opens m w head c inside old led begun held new parts true is h k p f =
    turn_on (leading m head) _ old led _ h
    (turn_on (begins m head.info) _ led begun _ k
    (ap (option_and_then (ends m head.info)) (p (in_turn (following m head) inside)
    ∙ ap (option_and_then (unwound m w parts)) (ap (option_and_then inside) f))
    ∙ one_more m w (value_ends head.info) parts (inside new)))
shown_opens m w head c inside old led begun held new parts false is h k p f = absurd (cc is)

-- where what stands in a value is left out
pub shown_alone : {H A : Type 0} (m : Marking H A) (w : Sizing) (head : Head) (c : Content) (inside : Step H A)
    (old led begun held : LayoutState H A) (parts : List (Continuation H A)) (is_entered : Bool) → is_entered ≡ false
    → leading m head old ≡ Some led → begins m head.info led ≡ Some begun
    → ((x : Step H A) → holds m head.info c x begun
    ≡ option_and_then (unwound m w parts) (where_entered is_entered x held))
    → shown m head c inside old ≡ option_and_then (unwound m w (value_ends head.info ∷ parts)) (Some held)
shown_alone m w head c inside old led begun held parts true is h k p = absurd (cc is)
shown_alone m w head c inside old led begun held parts false is h k p =
    turn_on (leading m head) _ old led _ h
    (turn_on (begins m head.info) _ led begun _ k
    (ap (option_and_then (ends m head.info)) (p (in_turn (following m head) inside))
    ∙ one_more m w (value_ends head.info) parts (Some held)))
