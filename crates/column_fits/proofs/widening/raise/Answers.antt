use Rattle.std.proofs.Common.{◌-◌, arith, length}
use Rattle.column_fits.specs.Fits.{fit_of}
use Rattle.column_fits.specs.declared.fit.ColumnFit.{ColumnFit}
use Rattle.column_fits.proofs.PartLemmas.{raising_first, raising_last, raising_more, raising_next, some_columns}
use Rattle.column_fits.proofs.widening.raise.Goals as goal

abbrev no_fit : ColumnFit
no_fit = fit_of 0 0

pub loop-i-init : goal.loop-i-init
loop-i-init c =
    raising_first c.args.columns.now c.args.low_lack c.args.high_lack c.args.total c.requires.total
    c.requires.low c.requires.high

pub part-low_part-requires-clause-within : goal.part-low_part-requires-clause-within
part-low_part-requires-clause-within c =
    (raising_next c.args.columns.now c.loop-i.columns c.args.low_lack c.args.high_lack c.args.total c.loop-i.i
    c.loop-i.low_left c.loop-i.high_left no_fit c.requires.some c.loop-i.invariant (omega arith)).weight

pub overflow_add-columns : goal.overflow_add-columns
overflow_add-columns c =
    let next =
    raising_next c.args.columns.now c.loop-i.columns c.args.low_lack c.args.high_lack c.args.total c.loop-i.i
    c.loop-i.low_left c.loop-i.high_left no_fit c.requires.some c.loop-i.invariant (omega arith) in
    omega arith

pub overflow_add-columns-in-loop-i : goal.overflow_add-columns-in-loop-i
overflow_add-columns-in-loop-i c =
    let next =
    raising_next c.args.columns.now c.loop-i.columns c.args.low_lack c.args.high_lack c.args.total c.loop-i.i
    c.loop-i.low_left c.loop-i.high_left no_fit c.requires.some c.loop-i.invariant (omega arith) in
    omega arith

pub loop-i-preserved : goal.loop-i-preserved
loop-i-preserved c =
    rw (c.part-low_part.ensures, c.part-high_part.ensures)
    (raising_more c.args.columns.now c.loop-i.columns c.args.low_lack c.args.high_lack c.args.total c.loop-i.i
    c.loop-i.low_left c.loop-i.high_left no_fit c.requires.some c.loop-i.invariant (omega arith))

pub returns : goal.returns
returns c =
    let some = some_columns c.args.columns.now c.args.total c.requires.some c.requires.total in
    raising_last c.args.columns.now c.loop-i.columns c.args.low_lack c.args.high_lack c.args.total c.loop-i.i
    (length c.args.columns.now - 1) c.loop-i.low_left c.loop-i.high_left no_fit (omega arith) c.loop-i.invariant
    (omega arith)
