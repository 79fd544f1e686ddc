-- A table, its rows and its cells hold no control character.
use Rattle.std.proofs.Common.{Bool, IfSome, List, None, Option, Some, [], ◌∷◌, ◌++◌, false, true, ℕ}
use Rattle.std.specs.Prelude.{All, codes, filter, if◌then◌else◌}
use Rattle.std.proofs.lemmas.List.Elements.{All-append, All-cons, All-map, All-nil}
use Rattle.block_trait.specs.Calls as calls
use Rattle.block_trait.specs.Renderers.{Marking, Sub}
use Rattle.block_trait.specs.declared.options.RenderOptions.{RenderOptions}
use Rattle.column_fits.specs.declared.fit.ColumnFit.{ColumnFit}
use Rattle.table_grid.specs.declared.columns.Column.{Column}
use Rattle.table_widths.specs.Slots.{Table, has_columns}
use Rattle.table_widths.specs.declared.slot.Slot.{Slot}
use Rattle.layout_state.specs.LayoutState.{LayoutState, Step, TablePlace, cells, goes_to, in_turn, outside, rows, says}
use Rattle.layout_tables.specs.Tables.{border_call, cell_begun, cell_ended, cell_laid, columns_laid, empties_before}
use Rattle.layout_tables.specs.Tables.{empty_slot, empty_slots, end_of_row, fence, from_cell, in_cell, in_slot}
use Rattle.layout_tables.specs.Tables.{is_fenced, renderer_of, row_call, row_ended, rows_laid, rows_of, slot_width}
use Rattle.layout_tables.specs.Tables.{start_all, table_begun, table_ended, table_laid, top_border}
use Rattle.printed_page_laws.proofs.RenderersPrinted.{CallIsPrinted, IsPrintedSub}
use Rattle.printed_page_laws.proofs.StepsPrinted.{IsPrintedSeat, IsPrintedState, PrintedAt, Prints, PrintsSteps}
use Rattle.printed_page_laws.proofs.StepsPrinted.{in_part_printed, part_printed, prints_either, prints_none}
use Rattle.printed_page_laws.proofs.StepsPrinted.{prints_there, prints_through, says_printed}

-- ---- a table

fence_printed : {H A : Type 0} {m : Marking H A} (laws : PrintsSteps m) (asked : Bool) → Prints (fence m asked)
fence_printed {m = m} laws asked = prints_either asked
    (in_turn (says m (calls.adds_text (codes "```"))) (says m calls.ends_line)) Some
    (prints_through _ _ (says_printed laws (calls.adds_text (codes "```")) tt) (says_printed laws calls.ends_line tt))
    prints_none

border_taken : (H A : Type 0) (widths : Option (List ℕ)) → CallIsPrinted {H = H} {A = A} (border_call widths)
border_taken H A None = tt
border_taken H A (Some widths) = tt

top_printed : {H A : Type 0} {m : Marking H A} (laws : PrintsSteps m) (options : RenderOptions)
    (widths : Option (List ℕ)) → Prints (top_border m options widths)
top_printed {H} {A} {m} laws options widths = prints_either options.draw_borders (says m (border_call widths)) Some
    (says_printed laws (border_call widths) (border_taken H A widths)) prints_none

table_begins : {H A : Type 0} {m : Marking H A} (laws : PrintsSteps m) (options : RenderOptions) (fenced : Bool)
    (widths : Option (List ℕ)) (slots : List (List Slot)) → Prints (table_begun m options fenced widths slots)
table_begins laws options fenced widths slots =
    prints_through _ _ (says_printed laws calls.starts_table tt)
    (prints_through _ _ (fence_printed laws fenced)
    (prints_through _ _ (top_printed laws options widths) (prints_there (rows widths slots []) tt)))

table_ends : {H A : Type 0} {m : Marking H A} (laws : PrintsSteps m) (fenced : Bool) (place : TablePlace H A)
    → PrintedAt place → Prints (table_ended m fenced place)
table_ends laws fenced place at = prints_through (goes_to place) _ (prints_there place at) (fence_printed laws fenced)

rows_printed : {H A : Type 0} {m : Marking H A} (laws : PrintsSteps m) (t : Table) (widths : Option (List ℕ))
    (inside : Step H A) → Prints inside → Prints (rows_laid m t widths inside)
rows_printed {m = m} laws t widths inside prints x printed =
    let options = x.parts.current.options in
    let fenced = is_fenced options x.table in
    prints_through (table_begun m options fenced widths (rows_of widths t)) _
    (table_begins laws options fenced widths (rows_of widths t))
    (prints_through inside (table_ended m fenced x.table) prints (table_ends laws fenced x.table printed.1)) x printed

columns_printed : {H A : Type 0} {m : Marking H A} (laws : PrintsSteps m) (t : Table) (fits : Option (List ColumnFit))
    (columns : List Column) (inside : Step H A) → Prints inside → Prints (columns_laid m t fits columns inside)
columns_printed laws t fits [] inside prints = prints_none
columns_printed laws t fits (c ∷ columns) inside prints = λ x printed. rows_printed laws t _ inside prints x printed

pub table_printed : {H A : Type 0} {m : Marking H A} (laws : PrintsSteps m) (t : Table)
    (fits : Option (List ColumnFit)) (inside : Step H A) → Prints inside → Prints (table_laid m t fits inside)
unfolding table_laid
table_printed laws t fits inside prints = columns_printed laws t fits t.columns inside prints

-- ---- its rows

empties_printed : {H A : Type 0} {m : Marking H A} (laws : PrintsSteps m) (widths : Option (List ℕ)) (s : Sub H A)
    (slots : List Slot) → IsPrintedSub s → All IsPrintedSeat (empty_slots m widths s slots)
empties_printed {H} {A} laws widths s [] has = All-nil (IsPrintedSeat {H = H} {A = A})
empties_printed {H} {A} {m} laws widths s (slot ∷ slots) has =
    All-cons (IsPrintedSeat {H = H} {A = A}) (empty_slot m widths s slot) (empty_slots m widths s slots)
    (part_printed laws (slot_width widths s.width slot) s has) (empties_printed laws widths s slots has)

row_taken : {H A : Type 0} (widths : Option (List ℕ)) (made : List (Sub H A × ℕ)) → All IsPrintedSeat made
    → CallIsPrinted (row_call widths made)
row_taken {H} {A} None made has = All-map (IsPrintedSub {H = H} {A = A}) renderer_of made has
row_taken (Some widths) made has = has

end_of_row_printed : {H A : Type 0} {m : Marking H A} (laws : PrintsSteps m) (place : TablePlace H A)
    (x : LayoutState H A) → PrintedAt place → IsPrintedState x
    → IfSome (end_of_row m place x) (IsPrintedState {H = H} {A = A})
end_of_row_printed laws (outside in_cell) x at printed = printed
end_of_row_printed laws (rows widths slots fragments) x at printed = printed
end_of_row_printed {H} {A} {m} laws (cells widths more fragments slots made) x at printed =
    prints_through (goes_to (rows widths more [])) _ (prints_there (rows widths more []) tt)
    (says_printed laws (row_call widths (made ++ empty_slots m widths x.parts.current (filter has_columns slots)))
    (row_taken widths (made ++ empty_slots m widths x.parts.current (filter has_columns slots))
    (All-append (IsPrintedSeat {H = H} {A = A}) made
    (empty_slots m widths x.parts.current (filter has_columns slots)) at
    (empties_printed laws widths x.parts.current (filter has_columns slots) printed.0)))) x printed

pub row_ends : {H A : Type 0} {m : Marking H A} (laws : PrintsSteps m) → Prints (row_ended m)
unfolding row_ended
row_ends laws x printed = end_of_row_printed laws x.table x printed.1 printed

-- ---- its cells

starts_printed : {H A : Type 0} {m : Marking H A} (laws : PrintsSteps m) (names : List (List ℕ))
    → Prints (start_all m names)
starts_printed laws [] = prints_none
starts_printed laws (name ∷ names) =
    prints_through _ _ (says_printed laws (calls.starts_fragment name) tt) (starts_printed laws names)

cell_begins : {H A : Type 0} {m : Marking H A} (laws : PrintsSteps m) (width : ℕ) (fragments : List (List ℕ))
    → Prints (cell_begun m width fragments)
unfolding cell_begun in_cell
cell_begins {m = m} laws width fragments x printed =
    starts_printed laws fragments (in_cell m width x) ((in_part_printed laws width x printed).0, tt)

cell_ends : {H A : Type 0} (outer : Sub H A) (widths : Option (List ℕ)) (more : List (List Slot)) (slots : List Slot)
    (made : List (Sub H A × ℕ)) (taken : ℕ) → IsPrintedSub outer → All IsPrintedSeat made
    → Prints (cell_ended outer widths more slots made taken)
unfolding cell_ended
cell_ends {H} {A} outer widths more slots made taken has all x printed = (
  has,
  All-append (IsPrintedSeat {H = H} {A = A}) made ((x.parts.current, taken) ∷ []) all
      (All-cons (IsPrintedSeat {H = H} {A = A}) (x.parts.current, taken) [] printed.0
      (All-nil (IsPrintedSeat {H = H} {A = A}))),
)

slot_printed : {H A : Type 0} {m : Marking H A} (laws : PrintsSteps m) (widths : Option (List ℕ))
    (more : List (List Slot)) (fragments : List (List ℕ)) (slots : List Slot) (made : List (Sub H A × ℕ))
    (inside : Step H A) (x : LayoutState H A) → Prints inside → All IsPrintedSeat made → IsPrintedState x
    → IfSome (in_slot m widths more fragments slots made inside x) (IsPrintedState {H = H} {A = A})
slot_printed laws widths more fragments [] made inside x prints all printed = (printed.0, all)
slot_printed {H} {A} {m} laws widths more fragments (s ∷ slots) made inside x prints all printed =
    by_test (has_columns s)
  where
    by_test : (t : Bool) → IfSome (if t
        then in_turn (cell_begun m (slot_width widths x.parts.current.width s) fragments)
        (in_turn inside (cell_ended x.parts.current widths more slots made s.rows)) x
        else goes_to (cells widths more [] slots made) x) (IsPrintedState {H = H} {A = A})
    by_test true = prints_through _ _ (cell_begins laws (slot_width widths x.parts.current.width s) fragments)
        (prints_through _ _ prints (cell_ends x.parts.current widths more slots made s.rows printed.0 all)) x printed
    by_test false = (printed.0, all)

pub cell_printed : {H A : Type 0} {m : Marking H A} (laws : PrintsSteps m) (widths : Option (List ℕ))
    (more : List (List Slot)) (fragments : List (List ℕ)) (slots : List Slot) (made : List (Sub H A × ℕ))
    (inside : Step H A) (x : LayoutState H A) → Prints inside → All IsPrintedSeat made → IsPrintedState x
    → IfSome (cell_laid m widths more fragments slots made inside x) (IsPrintedState {H = H} {A = A})
unfolding cell_laid
cell_printed {H} {A} {m} laws widths more fragments slots made inside x prints all printed =
    slot_printed laws widths more fragments (from_cell slots)
    (made ++ empty_slots m widths x.parts.current (empties_before slots)) inside x prints
    (All-append (IsPrintedSeat {H = H} {A = A}) made (empty_slots m widths x.parts.current (empties_before slots)) all
    (empties_printed laws widths x.parts.current (empties_before slots) printed.0)) printed
