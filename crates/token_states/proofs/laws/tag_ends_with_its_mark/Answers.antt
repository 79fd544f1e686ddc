use Rattle.token_states.proofs.TagMarks.{tag_mark}
use Rattle.token_states.proofs.laws.tag_ends_with_its_mark.Goals as goal

pub returns : goal.returns
returns c = tag_mark
