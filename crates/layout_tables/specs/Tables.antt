-- How a table is laid out: its rows, across or with cells below one another, and their cells.
use Rattle.std.specs.Prelude.{◌+◌, ◌-◌, ◌&&◌, if◌then◌else◌, [], ◌∷◌, ◌++◌, Bool, List, None, Option, Some, codes, drop}
use Rattle.std.specs.Prelude.{false, filter, length, map, not, sum, take, true, ℕ}
use Rattle.std.specs.List.{prefix_len}
use Rattle.std.specs.Option.{option_to_list}
use Rattle.column_fits.specs.Across.{fitted_across}
use Rattle.column_fits.specs.declared.fit.ColumnFit.{ColumnFit}
use Rattle.block_renderer.specs.NewParts.{part_of}
use Rattle.table_widths.specs.Across.{widths_across}
use Rattle.block_trait.specs.Calls.{Call, adds_border, adds_border_of, adds_cells, adds_rows_below, adds_text}
use Rattle.block_trait.specs.Calls.{ends_line, starts_fragment, starts_table}
use Rattle.block_trait.specs.Renderers.{Marking, Sub}
use Rattle.block_trait.specs.declared.options.RenderOptions.{RenderOptions}
use Rattle.render_sizes.specs.Extents.{capped}
use Rattle.table_grid.specs.declared.columns.Column.{Column}
use Rattle.table_widths.specs.Slots.{Table, across, has_columns}
use Rattle.table_widths.specs.declared.slot.Slot.{Slot}
use Rattle.layout_state.specs.LayoutState.{LayoutState, Step, TablePlace, cells, goes_to, in_current, in_part, in_table}
use Rattle.layout_state.specs.LayoutState.{in_turn, outside, rows, says}

-- columns of these widths, with a separator between neighbours
abbrev pub separated : List ℕ → ℕ
separated widths = capped (sum widths + (length widths - 1))

-- ---- the table

-- Columns are fitted where it is known what each asks for.
abbrev pub widths_by : Option (List ColumnFit) → (width : ℕ) → List Column → Option (List ℕ)
widths_by None width columns = widths_across columns width
widths_by (Some fits) width columns = fitted_across columns fits width

-- the widths of its columns where its rows lie across, in so many columns of text (of which there are fewer than 2^64)
abbrev pub table_widths : RenderOptions → Option (List ColumnFit) → (width : ℕ) → List Column → Option (List ℕ)
table_widths options fits width columns = if options.raw then None else widths_by fits width columns

abbrev pub rows_of : Option (List ℕ) → Table → List (List Slot)
rows_of None t = t.rows
rows_of (Some widths) t = across [] t.rows

-- Only a table that stands in no cell of another is fenced.
abbrev pub is_fenced : {H A : Type 0} → RenderOptions → TablePlace H A → Bool
is_fenced options (outside in_cell) = options.fence_tables && not in_cell
is_fenced options _ = false

abbrev pub fence : {H A : Type 0} → Marking H A → Bool → Step H A
fence m asked = if asked then in_turn (says m (adds_text (codes "```"))) (says m ends_line) else Some

abbrev pub border_call : {R : Type 0} → Option (List ℕ) → Call R
border_call None = adds_border
border_call (Some widths) = adds_border_of (separated widths)

-- the border above the first row
abbrev pub top_border : {H A : Type 0} → Marking H A → RenderOptions → Option (List ℕ) → Step H A
top_border m options widths = if options.draw_borders then says m (border_call widths) else Some

abbrev pub table_begun : {H A : Type 0} → Marking H A → RenderOptions → (fenced : Bool) → Option (List ℕ)
    → List (List Slot) → Step H A
table_begun m options fenced widths slots = in_turn (says m starts_table)
    (in_turn (fence m fenced) (in_turn (top_border m options widths) (goes_to (rows widths slots []))))

abbrev pub table_ended : {H A : Type 0} → Marking H A → (fenced : Bool) → TablePlace H A → Step H A
table_ended m fenced place = in_turn (goes_to place) (fence m fenced)

abbrev pub rows_laid : {H A : Type 0} → Marking H A → Table → Option (List ℕ) → Step H A → Step H A
rows_laid m t widths inside l =
    let options = l.parts.current.options in
    let fenced = is_fenced options l.table in
    in_turn (table_begun m options fenced widths (rows_of widths t))
    (in_turn inside (table_ended m fenced l.table)) l

abbrev pub table_by_widths : {H A : Type 0} → Marking H A → Table → Option (List ColumnFit) → Step H A → Step H A
table_by_widths m t fits inside l =
    rows_laid m t (table_widths l.parts.current.options fits (capped l.parts.current.width) t.columns) inside l

-- A table without a column shows nothing.
abbrev pub columns_laid : {H A : Type 0} → Marking H A → Table → Option (List ColumnFit) → List Column → Step H A
    → Step H A
columns_laid m t fits [] inside = Some
columns_laid m t fits (c ∷ columns) inside = table_by_widths m t fits inside

unfoldable pub table_laid : {H A : Type 0} → Marking H A → Table → Option (List ColumnFit) → Step H A → Step H A
table_laid m t fits inside = columns_laid m t fits t.columns inside

-- ---- its rows

-- the columns of text that a slot takes
abbrev pub slot_width : Option (List ℕ) → (whole : ℕ) → Slot → ℕ
slot_width None whole s = whole
slot_width (Some widths) whole s = separated (take (s.last - s.first) (drop s.first widths))

-- an empty renderer, in which a cell from above goes on if one does
abbrev pub empty_slot : {H A : Type 0} → Marking H A → Option (List ℕ) → Sub H A → Slot → Sub H A × ℕ
empty_slot m widths s slot = (part_of m.sub (slot_width widths s.width slot) s, 1)

abbrev pub empty_slots : {H A : Type 0} → Marking H A → Option (List ℕ) → Sub H A → List Slot → List (Sub H A × ℕ)
empty_slots m widths s slots = map (empty_slot m widths s) slots

abbrev pub renderer_of : {H A : Type 0} → Sub H A × ℕ → Sub H A
renderer_of c = c.0

abbrev pub row_call : {H A : Type 0} → Option (List ℕ) → List (Sub H A × ℕ) → Call (Sub H A)
row_call None made = adds_rows_below (map renderer_of made)
row_call (Some widths) made = adds_cells made true

-- What is left of a row's slots stays empty; what has no column is no slot of it.
abbrev pub end_of_row : {H A : Type 0} → Marking H A → TablePlace H A → Step H A
end_of_row m (cells widths more fragments slots made) l =
    in_turn (goes_to (rows widths more []))
    (says m (row_call widths (made ++ empty_slots m widths l.parts.current (filter has_columns slots)))) l
end_of_row m _ l = Some l

unfoldable pub row_ended : {H A : Type 0} → Marking H A → Step H A
row_ended m l = end_of_row m l.table l

-- The fragments that start in the row, or in its group, start in its first cell.
abbrev pub row_begun : {H A : Type 0} → Option (List ℕ) → List (List Slot) → (fragments : List (List ℕ)) → List Slot
    → Option (List ℕ) → Step H A
row_begun widths more fragments slots fragment =
    goes_to (cells widths more (fragments ++ option_to_list fragment) slots [])

-- ---- its cells

abbrev pub is_empty_slot : Slot → Bool
is_empty_slot s = not s.is_cell

abbrev pub empties_before : List Slot → List Slot
empties_before slots = take (prefix_len is_empty_slot slots) slots

abbrev pub from_cell : List Slot → List Slot
from_cell slots = drop (prefix_len is_empty_slot slots) slots

abbrev pub start_all : {H A : Type 0} → Marking H A → List (List ℕ) → Step H A
start_all m [] = Some
start_all m (name ∷ names) = in_turn (says m (starts_fragment name)) (start_all m names)

-- text goes to the renderer of a cell
unfoldable pub in_cell : {H A : Type 0} → Marking H A → (width : ℕ) → LayoutState H A → LayoutState H A
in_cell m width l = in_table (outside true) (in_part m width l)

unfoldable pub cell_begun : {H A : Type 0} → Marking H A → (width : ℕ) → (fragments : List (List ℕ)) → Step H A
cell_begun m width fragments l = start_all m fragments (in_cell m width l)

-- The cell stands in its row, and text goes to the renderer outside again.
unfoldable pub cell_ended : {H A : Type 0} → Sub H A → Option (List ℕ) → List (List Slot) → List Slot
    → List (Sub H A × ℕ) → (taken : ℕ) → Step H A
cell_ended outer widths more slots made taken l =
    Some (in_table (cells widths more [] slots (made ++ (l.parts.current, taken) ∷ [])) (in_current l outer))

-- in the first of the slots, where it has a column
abbrev pub in_slot : {H A : Type 0} → Marking H A → Option (List ℕ) → List (List Slot) → (fragments : List (List ℕ))
    → List Slot → List (Sub H A × ℕ) → Step H A → Step H A
in_slot m widths more fragments [] made inside l = goes_to (cells widths more [] [] made) l
in_slot m widths more fragments (s ∷ slots) made inside l =
    if has_columns s
    then in_turn (cell_begun m (slot_width widths l.parts.current.width s) fragments)
    (in_turn inside (cell_ended l.parts.current widths more slots made s.rows)) l
    else goes_to (cells widths more [] slots made) l

-- A cell stands after the empty slots before it.
unfoldable pub cell_laid : {H A : Type 0} → Marking H A → Option (List ℕ) → List (List Slot)
    → (fragments : List (List ℕ)) → List Slot → List (Sub H A × ℕ) → Step H A → Step H A
cell_laid m widths more fragments slots made inside l = in_slot m widths more fragments (from_cell slots)
    (made ++ empty_slots m widths l.parts.current (empties_before slots)) inside l
