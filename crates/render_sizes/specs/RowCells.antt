-- The pass over the nodes of a table: what each node adds, and what is skipped.
use Rattle.std.specs.Prelude.{ℕ, List, [], ◌∷◌, max, nat_lt, if◌then◌else◌}
use Rattle.render_values.specs.declared.info.RenderInfo.{RenderInfo}
use Rattle.render_values.specs.declared.info.RenderInfo.TheVariants as infos
use Rattle.render_sizes.specs.declared.extent.Extent.{Extent}
use Rattle.table_grid.specs.declared.cell.Cell.{Cell}

-- the rows that begin with a value
abbrev pub rows_emitted : RenderInfo → ℕ
rows_emitted infos.TableRow = 1
rows_emitted _ = 0

-- groups and rows are entered, and what stands in anything else is skipped
abbrev pub skipped : RenderInfo → (below : ℕ) → ℕ
skipped infos.TableGroup below = 0
skipped infos.TableRow below = 0
skipped _ below = below

-- a cell stands in the row that began last
abbrev pub cells_emitted : RenderInfo → Extent → (rows : ℕ) → List Cell
cells_emitted (infos.TableCell columns taken) extent rows = if nat_lt 0 rows then record {
  row = rows;
  colspan = max columns 1;
  rowspan = max taken 1;
  size = extent.size;
  least = extent.least;
} ∷ [] else []
cells_emitted _ extent rows = []
