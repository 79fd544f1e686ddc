-- What the columns of tables ask for by what stands in them.
use Rattle.std.specs.Prelude.{ℕ, ◌+◌, [], ◌∷◌, ◌++◌, List, Option, filter, map, nat_lt}
use Rattle.column_fits.specs.Fits.{fits_of}
use Rattle.column_fits.specs.declared.cell.CellWidths.{CellWidths}
use Rattle.column_fits.specs.declared.fit.ColumnFit.{ColumnFit}
use Rattle.content_widths.specs.Flows.{FlowItem}
use Rattle.content_widths.specs.declared.widths.ContentWidths.{ContentWidths}
use Rattle.render_sizes.specs.Extents.{in_rows, measured, number, rows_by}
use Rattle.render_values.specs.Values.{Values, none, value}
use Rattle.render_values.specs.declared.info.Head.{Head}
use Rattle.render_values.specs.declared.info.RenderInfo.{RenderInfo}
use Rattle.render_values.specs.declared.info.RenderInfo.TheVariants as infos
use Rattle.table_fits.specs.Flowing.{Fitting, items_prefix, mode_in, value_flow, widths_of}
use Rattle.table_grid.specs.TheGrid.{TheGrid, grid}
use Rattle.table_grid.specs.declared.grid.GridCell.{GridCell}
use Rattle.text_pieces.specs.declared.white_space.WhiteSpace.{WhiteSpace}

-- a cell's row, from 1 on, and what the flow in the cell asks for; a cell before all rows is in row 0
pub record RowWidths : Type 0 where
  pub row : ℕ
  pub widths : ContentWidths

-- so many rows further down
abbrev pub further : ℕ → RowWidths → RowWidths
further n c = record { row = n + c.row; widths = c.widths }

-- of the cells that stand in rows
abbrev pub row_widths : List RowWidths → List ContentWidths
row_widths cells = map (λ c. c.widths) (filter (λ c. nat_lt 0 c.row) cells)

-- how values flow side by side, and the cells of a table among them
pub record Flowing : Type 0 where
  pub flow : List FlowItem
  pub cells : List RowWidths

-- the cells of a row are those in it, and the rows of a table those of its groups
abbrev pub cells_by : Fitting → RenderInfo → Flowing → List RowWidths
cells_by f infos.TableGroup inside = inside.cells
cells_by f infos.TableRow inside = map (further 1) inside.cells
cells_by f (infos.TableCell columns rows) inside = record { row = 0; widths = widths_of f.options inside.flow } ∷ []
cells_by f _ inside = []

-- cells where they stand in the grid
abbrev pub in_grid : List GridCell → List ContentWidths → List CellWidths
in_grid [] widths = []
in_grid (g ∷ cells) [] = []
in_grid (g ∷ cells) (w ∷ widths) =
    record { first = g.first; last = g.last; narrowest = w.narrowest; widest = w.widest } ∷ in_grid cells widths

abbrev pub fits_in_grid : TheGrid → List ContentWidths → List ColumnFit
fits_in_grid g widths = fits_of g.columns (in_grid g.cells widths)

-- what the columns of a value ask for that is a table, by its cells
abbrev pub fits_by : Fitting → RenderInfo → (inside : Values) → List RowWidths → List ColumnFit
fits_by f infos.Table inside cells = fits_in_grid (grid (in_rows (measured f.measure inside))) (row_widths cells)
fits_by f _ inside cells = []

abbrev pub then_flowing : Fitting → WhiteSpace → (prefix : Option ℕ) → RenderInfo → (inside : Values) → Flowing
    → (rest : Flowing) → Flowing
then_flowing f mode prefix info inside i rest = record {
  flow = value_flow f mode prefix info i.flow (fits_by f info inside i.cells) ++ rest.flow;
  cells = cells_by f info i ++ map (further (rows_by info (measured f.measure inside))) rest.cells;
}

-- of values one after another, where so many columns stand before each that is an item of a list
abbrev pub flowing : Fitting → WhiteSpace → (prefix : Option ℕ) → Values → Flowing
flowing f mode prefix none = record { flow = []; cells = [] }
flowing f mode prefix (value head inside rest) = then_flowing f (mode_in mode head) prefix head.info inside
    (flowing f (mode_in mode head) (items_prefix f head.info (number inside)) inside) (flowing f mode prefix rest)

-- what the columns of a value ask for, where it is a table
abbrev pub fits_of_value : Fitting → WhiteSpace → Head → (inside : Values) → List ColumnFit
fits_of_value f mode head inside =
    fits_by f head.info inside (flowing f (mode_in mode head) (items_prefix f head.info (number inside)) inside).cells

-- of each value, in the order of their nodes
abbrev pub table_fits : Fitting → WhiteSpace → Values → List (List ColumnFit)
table_fits f mode none = []
table_fits f mode (value head inside rest) =
    fits_of_value f mode head inside ∷ table_fits f (mode_in mode head) inside ++ table_fits f mode rest
