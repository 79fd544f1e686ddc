use Rattle.std.proofs.Common.{◌+◌, ◌-◌, ◌/◌, arith}
use Rattle.table_widths.proofs.LevelLemmas.{level_past, filled-room}
use Rattle.table_widths.proofs.levels.level_of.Goals as goal

pub loop-low-init : goal.loop-low-init
loop-low-init c = (omega arith, filled-room c.args.room c.args.columns.now c.requires, λ lower h. omega arith)

pub loop-low-preserved : goal.loop-low-preserved
loop-low-preserved c = (
  omega arith,
  c.loop-low.invariant.1,
  λ lower h. level_past c.args.room (c.loop-low.low + (c.loop-low.high - c.loop-low.low) / 2) lower c.args.columns.now
      (omega arith) h,
)
