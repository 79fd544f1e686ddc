use Rattle.render_sizes.specs.Extents.{in_rows, measured}
use Rattle.table_fits.proofs.GridLemmas.{grid_within}
use Rattle.table_fits.specs.TableFits.{in_grid}
use Rattle.table_grid.specs.TheGrid.{grid}
use Rattle.table_fits.proofs.laws.tables_have_fits.Goals as goal

pub returns : goal.returns
returns c = λ w inside widths.
    let g = grid (in_rows (measured w inside)) in
    c.columns_have_fits.ensures g.columns (in_grid g.cells widths) (grid_within (in_rows (measured w inside)) widths)
