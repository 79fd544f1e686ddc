-- Each step of what is laid out keeps the renderers of a page free of control characters, those of a row's cells too.
use Rattle.std.proofs.Common.{◌-◌, Bool, IfSome, List, None, Option, Some, false, refl, true, ℕ}
use Rattle.std.specs.Prelude.{All, if◌then◌else◌}
use Rattle.std.specs.Option.{option_map}
use Rattle.std.proofs.lemmas.List.Elements.{All-append, All-replicate}
use Rattle.block_layout_laws.proofs.OptionLemmas.{chained, known, mapped}
use Rattle.block_renderer.specs.NewParts.{part_of}
use Rattle.block_trait.specs.Calls.{Call, step}
use Rattle.block_trait.specs.Calls as calls
use Rattle.block_trait.specs.Renderers.{Marking, Sub, add_inline, begin_link, finish_link, room_after}
use Rattle.text_lines.specs.Columns.{text_columns}
use Rattle.text_footnotes.specs.Targets.{last_number}
use Rattle.text_block_renderer.specs.Parts.{Parts, add_part_number, begin_part_link, finish_part_link, footnote_mark}
use Rattle.text_block_renderer.specs.Parts.{numbered, with_current, with_target}
use Rattle.text_decorators.specs.Marks.{IsPrefix, Mark, link_end, link_start}
use Rattle.layout_state.specs.Items.{item_mark, padded, spaces}
use Rattle.layout_state.specs.LayoutState.{LayoutState, Step, TablePlace, after_prefix, begins_link, cells, ends_link}
use Rattle.layout_state.specs.LayoutState.{for_some, goes_on, goes_to, in_current, in_part, in_parts, in_turn, mark_of}
use Rattle.layout_state.specs.LayoutState.{outside, part_begun, part_ended, rows, says}
use Rattle.layout_state.specs.declared.around.Around.{Around}
use Rattle.layout_state.specs.declared.around.ItemMark.{ItemMark}
use Rattle.layout_state.specs.declared.around.ItemMark.TheVariants.{Bullet, Number}
use Rattle.printed_block_laws.specs.Printed.{IsPrinted}
use Rattle.printed_page_laws.specs.PrintedPages.{PrintsPrefixes}
use Rattle.printed_page_laws.proofs.BlockWords.{KeepsPrinted}
use Rattle.printed_page_laws.proofs.RenderersPrinted.{CallIsPrinted, IsPrintedSub}
use Rattle.printed_page_laws.proofs.RenderersPrinted as renderers

-- what the crates below say of blocks, and that prefixes hold none
pub record PrintsSteps {H A : Type 0} (m : Marking H A) : Type 0 where
  pub blocks : KeepsPrinted (List A)
  pub prefixes : PrintsPrefixes m.mark_text

-- a renderer in a row, with the rows that it takes
abbrev pub IsPrintedSeat : {H A : Type 0} → Sub H A × ℕ → Type 0
IsPrintedSeat c = IsPrintedSub c.0

-- the renderers of cells that stand in a row
abbrev pub PrintedAt : {H A : Type 0} → TablePlace H A → Type 0
PrintedAt (outside in_cell) = Unit {0}
PrintedAt (rows widths slots fragments) = Unit {0}
PrintedAt (cells widths more fragments slots made) = All IsPrintedSeat made

-- So it is with the renderer to which text goes; the one outside of it comes back as it was when its part ends.
abbrev pub IsPrintedParts : {H A : Type 0} → Parts H A → Type 0
IsPrintedParts p = IsPrintedSub p.current

abbrev pub IsPrintedState : {H A : Type 0} → LayoutState H A → Type 0
IsPrintedState l = IsPrintedParts l.parts × PrintedAt l.table

-- What the step makes of such a state, if it makes one, is such a state.
abbrev pub Prints : {H A : Type 0} → Step H A → Type 0
Prints {H} {A} f = (x : LayoutState H A) → IsPrintedState x → IfSome (f x) (IsPrintedState {H = H} {A = A})

-- ---- links

link_printed : {H A : Type 0} {m : Marking H A} (laws : PrintsSteps m) (target : List ℕ) (p : Parts H A)
    → IsPrintedParts p → IfSome (begin_part_link m target p) (IsPrintedParts {H = H} {A = A})
link_printed {H} {A} {m} laws target p printed =
    mapped (IsPrintedSub {H = H} {A = A}) (IsPrintedParts {H = H} {A = A}) (with_current (with_target target p))
    (begin_link m (link_start target) p.current) (λ s inside. inside)
    (renderers.begins_link laws.blocks m (link_start target) p.current printed)

number_printed : {H A : Type 0} {m : Marking H A} (laws : PrintsSteps m) (n : ℕ) (s : Sub H A) → IsPrintedSub s
    → IfSome (numbered m n s) (IsPrintedSub {H = H} {A = A})
number_printed {H} {A} {m} laws n s printed = by_notes s.options.include_link_footnotes
  where
    by_notes : (t : Bool) → IfSome (if t then add_inline m (footnote_mark n) s else Some s)
        (IsPrintedSub {H = H} {A = A})
    by_notes true = renderers.inline_taken laws.blocks m (footnote_mark n) s printed
    by_notes false = printed

link_end_printed : {H A : Type 0} {m : Marking H A} (laws : PrintsSteps m) (p : Parts H A) → IsPrintedParts p
    → IfSome (finish_part_link m p) (IsPrintedParts {H = H} {A = A})
link_end_printed {H} {A} {m} laws p printed =
    chained (IsPrintedParts {H = H} {A = A}) (IsPrintedParts {H = H} {A = A}) (add_part_number m)
    (option_map (with_current p) (finish_link m link_end p.current))
    (λ q inside. mapped (IsPrintedSub {H = H} {A = A}) (IsPrintedParts {H = H} {A = A}) (with_current q)
    (numbered m (last_number q.current.options.shared_footnotes q.targets) q.current) (λ s more. more)
    (number_printed laws (last_number q.current.options.shared_footnotes q.targets) q.current inside))
    (mapped (IsPrintedSub {H = H} {A = A}) (IsPrintedParts {H = H} {A = A}) (with_current p)
    (finish_link m link_end p.current) (λ s inside. inside)
    (renderers.finishes_link laws.blocks m link_end p.current printed))

-- ---- steps

pub prints_none : {H A : Type 0} → Prints {H = H} {A = A} Some
prints_none x printed = printed

pub prints_through : {H A : Type 0} (f g : Step H A) → Prints f → Prints g → Prints (in_turn f g)
prints_through {H} {A} f g one other x printed =
    chained (IsPrintedState {H = H} {A = A}) (IsPrintedState {H = H} {A = A}) g (f x) other (one x printed)

pub prints_around : {H A : Type 0} (a : Around) → Prints {H = H} {A = A} (goes_on a)
prints_around a x printed = printed

pub prints_there : {H A : Type 0} (place : TablePlace H A) → PrintedAt place → Prints {H = H} {A = A} (goes_to place)
prints_there place at x printed = (printed.0, at)

pub prints_for : {X H A : Type 0} (o : Option X) (f : X → Step H A) → ((x : X) → Prints (f x))
    → Prints (for_some o f)
prints_for None f each = prints_none
prints_for (Some x) f each = each x

pub prints_either : {H A : Type 0} (t : Bool) (f g : Step H A) → Prints f → Prints g
    → Prints (if t then f else g)
prints_either true f g one other = one
prints_either false f g one other = other

pub says_printed : {H A : Type 0} {m : Marking H A} (laws : PrintsSteps m) (c : Call (Sub H A)) → CallIsPrinted c
    → Prints (says m c)
unfolding says
says_printed {H} {A} {m} laws c taken x printed =
    mapped (IsPrintedSub {H = H} {A = A}) (IsPrintedState {H = H} {A = A}) (in_current x) (step m c x.parts.current)
    (λ s h. (h, printed.1)) (renderers.step_printed laws.blocks m c x.parts.current printed.0 taken)

pub begins_link_printed : {H A : Type 0} {m : Marking H A} (laws : PrintsSteps m) (target : List ℕ)
    → Prints (begins_link m target)
unfolding begins_link
begins_link_printed {H} {A} {m} laws target x printed =
    mapped (IsPrintedParts {H = H} {A = A}) (IsPrintedState {H = H} {A = A}) (in_parts x)
    (begin_part_link m target x.parts) (λ p h. (h, printed.1)) (link_printed laws target x.parts printed.0)

pub ends_link_printed : {H A : Type 0} {m : Marking H A} (laws : PrintsSteps m) → Prints (ends_link m)
unfolding ends_link
ends_link_printed {H} {A} {m} laws x printed =
    mapped (IsPrintedParts {H = H} {A = A}) (IsPrintedState {H = H} {A = A}) (in_parts x)
    (finish_part_link m x.parts) (λ p h. (h, printed.1)) (link_end_printed laws x.parts printed.0)

-- ---- parts

-- a new renderer has laid nothing, under the same options
pub part_printed : {H A : Type 0} {m : Marking H A} (laws : PrintsSteps m) (width : ℕ) (s : Sub H A) → IsPrintedSub s
    → IsPrintedSub (part_of m.sub width s)
part_printed laws width s printed = (laws.blocks.nothing, printed.1)

pub in_part_printed : {H A : Type 0} {m : Marking H A} (laws : PrintsSteps m) (width : ℕ) (x : LayoutState H A)
    → IsPrintedState x → IsPrintedState (in_part m width x)
unfolding in_part
in_part_printed laws width x printed = (part_printed laws width x.parts.current printed.0, printed.1)

part_begins : {H A : Type 0} {m : Marking H A} (laws : PrintsSteps m) (columns least : ℕ)
    → Prints (part_begun m columns least)
unfolding part_begun
part_begins {H} {A} {m} laws columns least x printed =
    mapped (λ _. Unit {0}) (IsPrintedState {H = H} {A = A}) (λ width. in_part m width x)
    (room_after columns (least - columns) x.parts.current) (λ width _. in_part_printed laws width x printed)
    (known (λ _. Unit {0}) (room_after columns (least - columns) x.parts.current) (λ width _. tt))

part_ends : {H A : Type 0} {m : Marking H A} (laws : PrintsSteps m) (outer : Sub H A) (first further : List ℕ)
    → IsPrintedSub outer → All IsPrinted first → All IsPrinted further
    → Prints (part_ended m outer first further)
unfolding part_ended
part_ends laws outer first further has before trailing x printed =
    says_printed laws (calls.adds_block x.parts.current first further) (printed.0, (before, trailing))
    (in_current x outer) (has, printed.1)

pub prefix_printed : {H A : Type 0} {m : Marking H A} (laws : PrintsSteps m) (columns : ℕ) (first further : List ℕ)
    (least : ℕ) (inside : Step H A) (x : LayoutState H A) → All IsPrinted first → All IsPrinted further
    → Prints inside → IsPrintedState x
    → IfSome (after_prefix m columns first further least inside x) (IsPrintedState {H = H} {A = A})
prefix_printed {m = m} laws columns first further least inside x before trailing prints printed =
    prints_through (part_begun m columns least) (in_turn inside (part_ended m x.parts.current first further))
    (part_begins laws columns least)
    (prints_through inside (part_ended m x.parts.current first further) prints
    (part_ends laws x.parts.current first further printed.0 before trailing)) x printed

-- ---- prefixes

pub spaces_printed : (n : ℕ) → All IsPrinted (spaces n)
spaces_printed n = All-replicate IsPrinted n 0x20 refl

pub padded_printed : (columns : ℕ) (cs : List ℕ) → All IsPrinted cs → All IsPrinted (padded columns cs)
padded_printed columns cs printed =
    All-append IsPrinted cs (spaces (columns - text_columns cs)) printed (spaces_printed (columns - text_columns cs))

pub mark_printed : {H A : Type 0} {m : Marking H A} (laws : PrintsSteps m) (kind : Mark) (x : LayoutState H A)
    → IsPrefix kind → All IsPrinted (mark_of m kind x)
unfolding mark_of
mark_printed laws kind x is = laws.prefixes x.parts.current.held kind is

pub item_prefix : (mark : ItemMark) → IsPrefix (item_mark mark)
item_prefix Bullet = tt
item_prefix (Number z) = tt
