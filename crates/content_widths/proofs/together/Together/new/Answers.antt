use Rattle.content_widths.proofs.TogetherLemmas.{nothing_together}
use Rattle.content_widths.proofs.together.Together.new.Goals as goal

pub returns : goal.returns
returns c = nothing_together
