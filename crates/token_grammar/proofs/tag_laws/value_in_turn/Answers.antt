use Rattle.token_grammar.proofs.ValuesInTurn.{value_is, value_only}
use Rattle.token_grammar.proofs.tag_laws.value_in_turn.Goals as goal

pub returns-clause-is : goal.returns-clause-is
returns-clause-is c = value_is

pub returns-clause-only : goal.returns-clause-only
returns-clause-only c = value_only
