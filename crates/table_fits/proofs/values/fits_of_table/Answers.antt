use Rattle.std.proofs.Common.{◌∙◌, ap, length, subst, sym}
use Rattle.column_fits.specs.Fits.{AreWithin}
use Rattle.table_fits.proofs.GridLemmas.{grid_within}
use Rattle.table_fits.proofs.TableLemmas.{cells_of_table}
use Rattle.table_fits.specs.TableFits.{in_grid}
use Rattle.table_grid.specs.TheGrid.{grid}
use Rattle.table_fits.proofs.values.fits_of_table.Goals as goal

pub grid_of-requires-clause-rows : goal.grid_of-requires-clause-rows
grid_of-requires-clause-rows c =
    (cells_of_table c.args.table.now.rows c.args.table.now.cells.items c.as_slice.result.now c.as_slice.ensures.value
    c.requires).rows

pub grid_of-requires-clause-some : goal.grid_of-requires-clause-some
grid_of-requires-clause-some c =
    (cells_of_table c.args.table.now.rows c.args.table.now.cells.items c.as_slice.result.now c.as_slice.ensures.value
    c.requires).some

pub grid_of-requires-clause-tall : goal.grid_of-requires-clause-tall
grid_of-requires-clause-tall c =
    (cells_of_table c.args.table.now.rows c.args.table.now.cells.items c.as_slice.result.now c.as_slice.ensures.value
    c.requires).tall

pub grid_of-requires-clause-content : goal.grid_of-requires-clause-content
grid_of-requires-clause-content c =
    (cells_of_table c.args.table.now.rows c.args.table.now.cells.items c.as_slice.result.now c.as_slice.ensures.value
    c.requires).content

pub fits_of-requires : goal.fits_of-requires
fits_of-requires c =
    let cells = c.args.table.now.cells.items in
    let widths = c.as_slice-3.result.now in
    let columns_are = c.as_slice-4.ensures.value ∙ (c.in_ok-grid.ensures.exact.0 ∙ ap (λ l. (grid l).columns)
    c.as_slice.ensures.value) in
    let cells_are = c.as_slice-5.ensures.value ∙ (c.in_ok-cells.ensures ∙ ap (λ l. in_grid l widths)
    (c.as_slice-2.ensures.value ∙ (c.in_ok-grid.ensures.exact.1.0 ∙ ap (λ l. (grid l).cells)
    c.as_slice.ensures.value))) in
    record {
      within = subst (λ l. AreWithin (length l) c.as_slice-5.result.now) (sym columns_are)
          (subst (AreWithin (length (grid cells).columns)) (sym cells_are) (grid_within cells widths));
    }
