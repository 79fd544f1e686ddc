use Rattle.table_grid.specs.TheGrid.{grid}
use Rattle.table_grid.proofs.SizeLemmas.{grid_sized}
use Rattle.table_grid.proofs.grid_laws.columns_of_a_grid_are_sized.Goals as goal

pub returns : goal.returns
returns c cells rows some less =
    grid_sized cells (grid cells).columns (grid cells).cells (grid cells).gaps some less
    (c.cells_have_a_grid.ensures cells rows)
