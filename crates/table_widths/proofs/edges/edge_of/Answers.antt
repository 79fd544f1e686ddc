use Rattle.std.proofs.Common.{◌+◌, ◌-◌, ◌/◌, arith}
use Rattle.table_widths.proofs.LevelLemmas.{edge_past, wider-none}
use Rattle.table_widths.proofs.edges.edge_of.Goals as goal

pub loop-low-init : goal.loop-low-init
loop-low-init c =
    let none = wider-none c.args.level c.most_of-high.result c.args.columns.now c.most_of-high.ensures in
    (omega arith, omega arith, λ lower h. omega arith)

pub loop-low-preserved : goal.loop-low-preserved
loop-low-preserved c = (
  omega arith,
  c.loop-low.invariant.1,
  λ lower h. edge_past c.args.level c.args.less (c.loop-low.low + (c.loop-low.high - c.loop-low.low) / 2) lower
      c.args.columns.now (omega arith) h,
)
