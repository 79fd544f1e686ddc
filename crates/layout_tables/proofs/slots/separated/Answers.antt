use Rattle.std.proofs.Common.{arith}
use Rattle.layout_tables.specs.Tables.{separated}
use Rattle.layout_tables.proofs.TableWidthLemmas.{added_all}
use Rattle.layout_tables.proofs.slots.separated.Goals as goal

pub returns : goal.returns
returns c = added_all c.args.widths.now c.widths.width-index c.widths.columns (separated c.args.widths.now)
    (omega arith) c.widths.invariant.small c.widths.invariant.so_far
