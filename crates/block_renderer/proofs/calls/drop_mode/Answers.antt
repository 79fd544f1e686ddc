use Rattle.std.proofs.Common.{◌∙◌}
use Rattle.block_renderer.proofs.ModeLemmas.{all_but_last}
use Rattle.block_renderer.proofs.calls.drop_mode.Goals as goal

pub returns : goal.returns
returns c = c.pop-mode.ensures.rest ∙ all_but_last c.args.modes.now.items
