use Rattle.std.proofs.Common.{arith}
use Rattle.std.proofs.lemmas.Grind.{common_steps}
use Rattle.table_widths.specs.Widths.{filled}
use Rattle.table_widths.proofs.levels.filled_at.Goals as goal

pub returns : goal.returns
unfolding filled
returns c = grind (arith, common_steps)
