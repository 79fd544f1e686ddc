-- The pass over values that measures the flow of each cell: what a value changes where it begins and where it ends.
use Rattle.std.specs.Prelude.{ℕ, ◌+◌, [], ◌∷◌, ◌++◌, Bool, List, None, Option, Some, false, if◌then◌else◌}
use Rattle.std.specs.Prelude.{length, nat_lt, set, true}
use Rattle.std.specs.Option.{option_map}
use Rattle.block_trait.specs.declared.options.RenderOptions.{RenderOptions}
use Rattle.column_fits.specs.declared.fit.ColumnFit.{ColumnFit}
use Rattle.content_widths.specs.Flows.{FlowItem}
use Rattle.content_widths.specs.declared.widths.ContentWidths.{ContentWidths}
use Rattle.render_sizes.specs.Extents.{extent_of, number}
use Rattle.render_sizes.specs.RowCells.{cells_emitted, rows_emitted}
use Rattle.render_sizes.specs.declared.extent.Extent.{Extent}
use Rattle.render_values.specs.Values.{Values, none, value}
use Rattle.render_values.specs.declared.info.Head.{Head}
use Rattle.render_values.specs.declared.info.RenderInfo.{RenderInfo}
use Rattle.render_values.specs.declared.info.RenderInfo.TheVariants as infos
use Rattle.table_fits.specs.Flowing.{Fitting, following, items_prefix, leading, mode_in, placed, standing}
use Rattle.table_fits.specs.Flowing.{standing_flow}
use Rattle.table_fits.specs.Flowing.{widths_of}
use Rattle.text_pieces.specs.declared.white_space.WhiteSpace.TheVariants.{Normal}
use Rattle.table_fits.specs.TableFits.{fits_in_grid}
use Rattle.table_fits.specs.declared.standing.Around.{Around}
use Rattle.table_fits.specs.declared.standing.Standing.{Standing}
use Rattle.table_fits.specs.declared.standing.Standing.TheVariants.{Along, Cell, Table}
use Rattle.table_grid.specs.TheGrid.{grid}
use Rattle.table_grid.specs.declared.cell.Cell.{Cell as GridAsk}

-- a table as far as it was read: its rows, and the cells in them with what the flow in each asks for
pub record TableRead : Type 0 where
  pub rows : ℕ
  pub cells : List GridAsk
  pub widths : List ContentWidths

abbrev pub nothing_read : TableRead
nothing_read = record { rows = 0; cells = []; widths = [] }

-- the flow of the cell around, if there is one; the table around; what the columns of each value so far ask for
pub record State : Type 0 where
  pub flow : Option (List FlowItem)
  pub table : TableRead
  pub fits : List (List ColumnFit)

abbrev pub nothing_passed : State
nothing_passed = record { flow = None; table = nothing_read; fits = [] }

-- ---- a value begins

abbrev pub is_along : Standing → Bool
is_along Along = true
is_along _ = false

-- whether it has a flow of its own
abbrev pub is_own : Option ℕ → Standing → Bool
is_own (Some columns) s = true
is_own None Along = false
is_own None _ = true

abbrev pub fresh_flow : Standing → Option (List FlowItem) → Option (List FlowItem)
fresh_flow Cell flow = Some []
fresh_flow _ None = None
fresh_flow _ (Some items) = Some []

-- outside of cells nothing is measured
abbrev pub own_flow : Standing → (own : Bool) → Option (List FlowItem) → Option (List FlowItem)
own_flow stands false flow = flow
own_flow stands true flow = fresh_flow stands flow

abbrev pub added : List FlowItem → Option (List FlowItem) → Option (List FlowItem)
added more flow = option_map (λ items. items ++ more) flow

abbrev pub table_begun : Standing → TableRead → TableRead
table_begun Table t = nothing_read
table_begun _ t = t

abbrev pub rows_begun : (among_rows : Bool) → RenderInfo → TableRead → TableRead
rows_begun false info t = t
rows_begun true info t = record t { rows = t.rows + rows_emitted info }

abbrev pub opens : Fitting → Around → Head → State → State
opens f around head s = record {
  flow = added (leading f.options (mode_in around.mode head) head.info)
      (own_flow (standing head.info) (is_own around.prefix (standing head.info)) s.flow);
  table = rows_begun around.among_rows head.info (table_begun (standing head.info) s.table);
  fits = s.fits ++ [] ∷ [];
}

-- ---- what stands in it

-- groups and rows of a table are among its rows
abbrev pub enters : (among_rows : Bool) → RenderInfo → Bool
enters among_rows infos.Table = true
enters among_rows infos.TableGroup = among_rows
enters among_rows infos.TableRow = among_rows
enters among_rows _ = false

abbrev pub inside_of : Fitting → Around → Head → (items : ℕ) → Around
inside_of f around head items = record {
  mode = mode_in around.mode head;
  prefix = items_prefix f head.info items;
  among_rows = enters around.among_rows head.info;
}

-- ---- a value ends

abbrev pub inside_flow : Option (List FlowItem) → List FlowItem
inside_flow None = []
inside_flow (Some items) = items

abbrev pub widths_emitted : RenderInfo → ContentWidths → (rows : ℕ) → List ContentWidths
widths_emitted (infos.TableCell columns taken) w rows = if nat_lt 0 rows then w ∷ [] else []
widths_emitted _ w rows = []

-- a cell stands in the row that began last
abbrev pub with_cell : (among_rows : Bool) → RenderInfo → Extent → ContentWidths → TableRead → TableRead
with_cell false info e w t = t
with_cell true info e w t = record t {
  cells = t.cells ++ cells_emitted info e t.rows;
  widths = t.widths ++ widths_emitted info w t.rows;
}

-- the table around, where it was `outer` before the value
abbrev pub table_ended : RenderOptions → Around → Standing → RenderInfo → Extent → (outer : TableRead)
    → (inside : List FlowItem) → TableRead → TableRead
table_ended options around Table info e outer inside t = outer
table_ended options around Cell info e outer inside t = with_cell around.among_rows info e (widths_of options inside) t
table_ended options around _ info e outer inside t = t

-- what its columns ask for
abbrev pub fits_read : Standing → TableRead → List ColumnFit
fits_read Table t = fits_in_grid (grid t.cells) t.widths
fits_read _ t = []

-- what a value with a flow of its own adds to the one around it
abbrev pub own_ended : Fitting → Around → Head → List ColumnFit → (inside : List FlowItem) → List FlowItem
own_ended f around head fits inside = placed f around.prefix (standing_flow f head.info (standing head.info) inside fits
    ++ following f.options (mode_in around.mode head) head.info)

-- the flow around, where it was `outer` before the value
abbrev pub flow_ended : Fitting → Around → Head → (own : Bool) → List ColumnFit
    → (outer inside : Option (List FlowItem)) → Option (List FlowItem)
flow_ended f around head false fits outer inside =
    added (following f.options (mode_in around.mode head) head.info) inside
flow_ended f around head true fits outer inside = added (own_ended f around head fits (inside_flow inside)) outer

abbrev pub closes : Fitting → Around → Head → Extent → (outer : State) → State → State
closes f around head e outer s = record {
  flow = flow_ended f around head (is_own around.prefix (standing head.info))
      (fits_read (standing head.info) s.table) outer.flow s.flow;
  table = table_ended f.options around (standing head.info) head.info e outer.table (inside_flow s.flow) s.table;
  fits = set s.fits (length outer.fits) (fits_read (standing head.info) s.table);
}

-- ---- values

abbrev pub passed : Fitting → Around → Values → State → State
passed f around none s = s
passed f around (value head inside rest) s = passed f around rest
    (closes f around head (extent_of f.measure head inside) s
    (passed f (inside_of f around head (number inside)) inside (opens f around head s)))

-- around the values of a page
abbrev pub on_page : Around
on_page = record { mode = Normal; prefix = None; among_rows = false }
