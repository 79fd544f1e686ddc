use Rattle.std.proofs.Common.{arith}
use Rattle.column_fits.specs.declared.cell.CellWidths.{CellWidths}
use Rattle.column_fits.proofs.WidenLemmas.{widened_first, widened_more}
use Rattle.column_fits.proofs.widening.widen_in_turn.Goals as goal

abbrev no_cell : CellWidths
no_cell = record { first = 0; last = 0; narrowest = 0; widest = 0 }

pub loop-cell-init : goal.loop-cell-init
loop-cell-init c = widened_first c.args.fits.now c.requires.high

pub loop-cell-preserved : goal.loop-cell-preserved
loop-cell-preserved c =
    let some = c.requires.some c.loop-cell.cell-index no_cell (omega arith) in
    let within = c.requires.within c.loop-cell.cell-index no_cell (omega arith) in
    widened_more c.args.fits.now c.loop-cell.fits c.widen.new.fits c.args.cells.now c.loop-cell.cell-index no_cell
    (omega arith) (omega arith) (omega arith) c.widen.ensures c.loop-cell.invariant
