use Rattle.std.proofs.Common.{◌≡◌, arith, get_or, true, false}
use Rattle.std.proofs.lemmas.Bool.Decides.{nat_tests}
use Rattle.column_fits.specs.Fits.{is_over}
use Rattle.column_fits.specs.declared.cell.CellWidths.{CellWidths}
use Rattle.column_fits.proofs.WidenLemmas.{single_more, single_same, widened_first}
use Rattle.column_fits.proofs.widening.widen_by_single.Goals as goal
use Rattle.column_fits.proofs.widening.widen_by_single.Goals.{then-span-eq1, else-span-eq1}

abbrev no_cell : CellWidths
no_cell = record { first = 0; last = 0; narrowest = 0; widest = 0 }

pub loop-cell-init : goal.loop-cell-init
loop-cell-init c = widened_first c.args.fits.now c.requires.high

pub loop-cell-preserved : goal.loop-cell-preserved
loop-cell-preserved c =
    let within = c.requires.within c.loop-cell.cell-index no_cell (omega arith) in
    elim c.if-span-eq1.branch [
      | then-span-eq1 w ↦
          let one : is_over 1 (get_or c.args.cells.now c.loop-cell.cell-index no_cell) ≡ true =
          grind (arith, nat_tests, c.span.ensures, w.if-span-eq1) in
          rw w.fits-is
          (single_more c.args.fits.now c.loop-cell.fits w.widen.new.fits c.args.cells.now c.loop-cell.cell-index no_cell
          (omega arith) within.0 within.1 one w.widen.ensures c.loop-cell.invariant)
      | else-span-eq1 w ↦
          let no : is_over 1 (get_or c.args.cells.now c.loop-cell.cell-index no_cell) ≡ false =
          grind (arith, nat_tests, c.span.ensures, w.if-span-eq1) in
          rw w.fits-is
          (single_same c.args.fits.now c.loop-cell.fits c.args.cells.now c.loop-cell.cell-index no_cell
          (omega arith) no c.loop-cell.invariant)
    ]
