use Rattle.command_line.proofs.OneAsked.{one_asked}
use Rattle.command_line.proofs.laws.words_ask_one_thing.Goals as goal

pub returns : goal.returns
returns c = one_asked
