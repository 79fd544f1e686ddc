use Rattle.std.proofs.Common.{arith}
use Rattle.table_grid.proofs.WithoutLemmas.{kept_end}
use Rattle.table_grid.proofs.without.covers_without.Goals as goal

pub returns : goal.returns
returns c =
    kept_end c.args.covers.now c.args.ended.now c.loop-i.i c.loop-i.at c.loop-i.trailing c.loop-i.kept.items (omega arith)
    c.loop-i.invariant
