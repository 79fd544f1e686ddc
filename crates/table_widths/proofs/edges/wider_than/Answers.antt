use Rattle.std.proofs.Common.{arith}
use Rattle.std.proofs.lemmas.Grind.{common_steps}
use Rattle.table_widths.specs.Widths.{wider}
use Rattle.table_widths.proofs.edges.wider_than.Goals as goal

pub returns : goal.returns
unfolding wider
returns c = grind (arith, common_steps)
