use Rattle.std.proofs.Common.{string_bytes}
use Rattle.std.proofs.lemmas.Result.{IfOk-weaker}
use Rattle.text_decorators.proofs.Characters.{ordered}
use Rattle.text_decorators.proofs.prefixes.ordered_item_prefix.Goals as goal

pub returns : goal.returns
returns c = IfOk-weaker c.format.result _ _ (λ s h. ordered c.args.i (string_bytes s) c.ranges.i h) c.format.ensures.ok
