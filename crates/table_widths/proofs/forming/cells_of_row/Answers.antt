use Rattle.std.proofs.Common.{◌+◌, arith, subst, sym}
use Rattle.table_widths.proofs.CellLemmas.{AreCellsTaken, cells_all, cells_first, cells_more, cells_skipped}
use Rattle.table_widths.proofs.forming.cells_of_row.Goals as goal
use Rattle.table_widths.proofs.forming.cells_of_row.Goals.{else-cells-test, else-earlier-test}
use Rattle.table_widths.proofs.forming.cells_of_row.Goals.{then-cells-test+else-cells-at-2}
use Rattle.table_widths.proofs.forming.cells_of_row.Goals.{then-earlier-test+else-cells-at}

pub earlier-preserved : goal.earlier-preserved
earlier-preserved c =
    cells_skipped c.args.cells.now c.args.placed.now c.requires.same c.args.row c.earlier.at (omega arith)
    (omega arith) c.earlier.invariant

pub cells-init : goal.cells-init
cells-init c =
    subst (AreCellsTaken c.args.cells.now c.args.placed.now c.args.row c.earlier.at)
    (sym c.new-slots.ensures.items)
    (cells_first c.args.cells.now c.args.placed.now c.requires.same c.args.row c.earlier.at
    (λ lt. elim c.earlier-test.branch [
      | then-earlier-test+else-cells-at w ↦ (let le = w.if-cells-at in omega arith)
      | else-earlier-test w ↦ absurd (omega (arith, w.earlier-test))
    ])
    c.earlier.invariant)

pub cells-preserved : goal.cells-preserved
cells-preserved c =
    subst (AreCellsTaken c.args.cells.now c.args.placed.now c.args.row (c.cells.at + 1))
    (sym c.in_ok-push.ensures.items)
    (cells_more c.args.cells.now c.args.placed.now c.requires.same c.args.row c.cells.at c.cells.slots.items
    c.requires.rows (omega arith) (omega arith) c.cells.invariant)

pub returns-clause-slots : goal.returns-clause-slots
returns-clause-slots c =
    cells_all c.args.cells.now c.args.placed.now c.requires.same c.args.row c.cells.at c.cells.slots.items
    c.requires.rows
    (λ lt e. elim c.cells-test.branch [
      | then-cells-test+else-cells-at-2 w ↦ w.if-cells-at-2.false e
      | else-cells-test w ↦ omega (arith, w.cells-test)
    ])
    c.cells.invariant
