-- Values hold no control character where they are laid out, at any depth.
use Rattle.std.proofs.Common.{IfSome, List, Option, [], ◌∷◌, ◌++◌, ℕ}
use Rattle.std.specs.Option.{option_to_list}
use Rattle.std.proofs.lemmas.List.Elements.{All-nil}
use Rattle.block_layout_laws.proofs.OptionLemmas.{chained, mapped}
use Rattle.block_trait.specs.Renderers.{Marking}
use Rattle.text_lines.specs.Columns.{text_columns}
use Rattle.text_block_renderer.specs.Parts.{Parts}
use Rattle.text_decorators.specs.Marks.{header, quote}
use Rattle.table_widths.specs.Slots.{is_shown}
use Rattle.table_widths.specs.declared.slot.Slot.{Slot}
use Rattle.layout_values.specs.Sizing.{Sizing, within}
use Rattle.render_values.specs.Values.{Values, none, value}
use Rattle.render_values.specs.declared.info.Head.{Head}
use Rattle.render_values.specs.declared.info.RenderInfo.{RenderInfo}
use Rattle.render_values.specs.declared.info.RenderInfo.TheVariants as infos
use Rattle.layout_state.specs.Begins.{following, named}
use Rattle.layout_state.specs.Items.{spaces}
use Rattle.layout_state.specs.LayoutState.{LayoutState, Step, TablePlace, cells, goes_to, in_turn, mark_of, outside}
use Rattle.layout_state.specs.LayoutState.{rows}
use Rattle.layout_values.specs.Lay.{Content, among_cells, among_rows, content_of, holds, in_its_group, in_its_row}
use Rattle.layout_values.specs.Lay.{in_its_slot, laid, laid_at, laid_parts, lay, on_page, shown, styled}
use Rattle.layout_tables.specs.Tables.{row_begun, row_ended}
use Rattle.printed_page_laws.proofs.BeginsPrinted.{begin_printed, end_printed, following_printed, leading_printed}
use Rattle.printed_page_laws.proofs.BeginsPrinted.{list_printed, named_printed, placed_printed, styled_printed}
use Rattle.printed_page_laws.proofs.StepsPrinted.{IsPrintedParts, IsPrintedSeat, IsPrintedState, PrintedAt, Prints}
use Rattle.printed_page_laws.proofs.StepsPrinted.{PrintsSteps, mark_printed, prefix_printed, prints_either, prints_none}
use Rattle.printed_page_laws.proofs.StepsPrinted.{prints_there, prints_through, spaces_printed}
use Rattle.printed_page_laws.proofs.TablesPrinted.{cell_printed, row_ends, table_printed}

-- ---- a value

holds_printed : {H A : Type 0} {m : Marking H A} (laws : PrintsSteps m) (info : RenderInfo) (c : Content)
    (inside : Step H A) → Prints inside → Prints (holds m info c inside)
unfolding holds
holds_printed {m = m} laws (infos.Heading level) c inside prints = λ x printed.
    prefix_printed laws (text_columns (mark_of m (header level) x)) (mark_of m (header level) x)
    (mark_of m (header level) x) c.least inside x (mark_printed laws (header level) x tt)
    (mark_printed laws (header level) x tt) prints printed
holds_printed {m = m} laws infos.Quote c inside prints = λ x printed.
    prefix_printed laws (text_columns (mark_of m quote x)) (mark_of m quote x) (mark_of m quote x) c.least inside x
    (mark_printed laws quote x tt) (mark_printed laws quote x tt) prints printed
holds_printed laws infos.Details c inside prints = λ x printed.
    prefix_printed laws 2 (spaces 2) (spaces 2) c.least inside x (spaces_printed 2) (spaces_printed 2) prints printed
holds_printed laws infos.Bullets c inside prints = λ x printed. list_printed _ inside x prints printed
holds_printed laws (infos.Numbers first) c inside prints = λ x printed. list_printed _ inside x prints printed
holds_printed laws infos.Table c inside prints = table_printed laws c.table c.fits inside prints
holds_printed laws _ c inside prints = prints

shown_printed : {H A : Type 0} {m : Marking H A} (laws : PrintsSteps m) (head : Head) (c : Content) (inside : Step H A)
    → Prints inside → Prints (shown m head c inside)
shown_printed {m = m} laws head c inside prints = prints_through _ _ (leading_printed laws head)
    (prints_through _ _ (begin_printed laws head.info)
    (prints_through _ _ (holds_printed laws head.info c (in_turn (following m head) inside)
    (prints_through _ _ (following_printed laws head) prints)) (end_printed laws head.info)))

in_its_slot_printed : {H A : Type 0} {m : Marking H A} (laws : PrintsSteps m) (head : Head) (place : TablePlace H A)
    (inside : Step H A) (x : LayoutState H A) → Prints inside → PrintedAt place → IsPrintedState x
    → IfSome (in_its_slot m head place inside x) (IsPrintedState {H = H} {A = A})
in_its_slot_printed laws head (outside in_cell) inside x prints at printed = printed
in_its_slot_printed laws head (rows widths slots fragments) inside x prints at printed = printed
in_its_slot_printed {m = m} laws head (cells widths more fragments slots made) inside x prints at printed =
    cell_printed laws widths more fragments slots made
    (styled m head.style (in_turn (named m head.fragment) inside)) x
    (styled_printed laws head.style (in_turn (named m head.fragment) inside)
    (prints_through _ _ (named_printed laws head.fragment) prints)) at printed

in_its_row_printed : {H A : Type 0} {m : Marking H A} (laws : PrintsSteps m) (head : Head) (widths : Option (List ℕ))
    (slots : List (List Slot)) (fragments : List (List ℕ)) (inside : Step H A) → Prints inside
    → Prints (in_its_row m head widths slots fragments inside)
in_its_row_printed laws head widths [] fragments inside prints = prints_none
in_its_row_printed {H} {A} {m} laws head widths (slots ∷ more) fragments inside prints = prints_either (is_shown slots)
    (in_turn (row_begun widths more fragments slots head.fragment)
    (styled m head.style (in_turn inside (row_ended m))))
    (goes_to (rows widths more (fragments ++ option_to_list head.fragment)))
    (prints_through (row_begun widths more fragments slots head.fragment) _
    (prints_there (cells widths more (fragments ++ option_to_list head.fragment) slots [])
    (All-nil (IsPrintedSeat {H = H} {A = A})))
    (styled_printed laws head.style (in_turn inside (row_ended m)) (prints_through _ _ prints (row_ends laws))))
    (prints_there (rows widths more (fragments ++ option_to_list head.fragment)) tt)

in_its_group_printed : {H A : Type 0} {m : Marking H A} (laws : PrintsSteps m) (head : Head) (widths : Option (List ℕ))
    (slots : List (List Slot)) (fragments : List (List ℕ)) (inside : Step H A) → Prints inside
    → Prints (in_its_group m head widths slots fragments inside)
in_its_group_printed laws head widths slots fragments inside prints =
    prints_through (goes_to (rows widths slots (fragments ++ option_to_list head.fragment))) _
    (prints_there (rows widths slots (fragments ++ option_to_list head.fragment)) tt)
    (styled_printed laws head.style inside prints)

among_rows_printed : {H A : Type 0} {m : Marking H A} (laws : PrintsSteps m) (info : RenderInfo) (head : Head)
    (widths : Option (List ℕ)) (slots : List (List Slot)) (fragments : List (List ℕ)) (inside : Step H A)
    → Prints inside → Prints (among_rows m info head widths slots fragments inside)
among_rows_printed laws infos.TableGroup head widths slots fragments inside prints =
    in_its_group_printed laws head widths slots fragments inside prints
among_rows_printed laws infos.TableRow head widths slots fragments inside prints =
    in_its_row_printed laws head widths slots fragments inside prints
among_rows_printed laws _ head widths slots fragments inside prints = prints_none

among_cells_printed : {H A : Type 0} {m : Marking H A} (laws : PrintsSteps m) (info : RenderInfo) (head : Head)
    (place : TablePlace H A) (inside : Step H A) (x : LayoutState H A) → Prints inside → PrintedAt place
    → IsPrintedState x → IfSome (among_cells m info head place inside x) (IsPrintedState {H = H} {A = A})
among_cells_printed laws (infos.TableCell columns taken) head place inside x prints at printed =
    in_its_slot_printed laws head place inside x prints at printed
among_cells_printed laws _ head place inside x prints at printed = printed

laid_printed : {H A : Type 0} {m : Marking H A} (laws : PrintsSteps m) (head : Head) (c : Content)
    (place : TablePlace H A) (inside : Step H A) (x : LayoutState H A) → Prints inside → PrintedAt place
    → IsPrintedState x → IfSome (laid_at m head c place inside x) (IsPrintedState {H = H} {A = A})
laid_printed {m = m} laws head c (outside in_cell) inside x prints at printed =
    placed_printed laws x.around (styled m head.style (shown m head c inside)) x
    (styled_printed laws head.style (shown m head c inside) (shown_printed laws head c inside prints)) printed
laid_printed laws head c (rows widths slots fragments) inside x prints at printed =
    among_rows_printed laws head.info head widths slots fragments inside prints x printed
laid_printed laws head c (cells widths more fragments slots made) inside x prints at printed =
    among_cells_printed laws head.info head (cells widths more fragments slots made) inside x prints at printed

-- ---- values

pub lay_printed : {H A : Type 0} {m : Marking H A} (laws : PrintsSteps m) (w : Sizing) (values : Values)
    → Prints (lay m w values)
lay_printed laws w none x printed = printed
lay_printed {H} {A} {m} laws w (value head inside rest) x printed =
    chained (IsPrintedState {H = H} {A = A}) (IsPrintedState {H = H} {A = A}) (lay m w rest)
    (laid m head (content_of w head inside) (lay m (within w head) inside) x) (lay_printed laws w rest)
    (laid_printed laws head (content_of w head inside) x.table (lay m (within w head) inside) x
    (lay_printed laws (within w head) inside) printed.1
    printed)

pub parts_printed : {H A : Type 0} {m : Marking H A} (laws : PrintsSteps m) (w : Sizing) (values : Values)
    (p : Parts H A) → IsPrintedParts p → IfSome (laid_parts m w values p) (IsPrintedParts {H = H} {A = A})
parts_printed {H} {A} {m} laws w values p printed =
    mapped (IsPrintedState {H = H} {A = A}) (IsPrintedParts {H = H} {A = A}) (λ (l : LayoutState H A). l.parts)
    (lay m w values (on_page p)) (λ l h. h.0) (lay_printed laws w values (on_page p) (printed, tt))
