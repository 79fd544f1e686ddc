use Rattle.token_grammar.proofs.FirstOfEach.{first_of_each_read}
use Rattle.token_grammar.proofs.FirstOfEachOnly.{first_of_each_only}
use Rattle.token_grammar.proofs.tag_laws.first_of_each_name.Goals as goal

pub returns-clause-is : goal.returns-clause-is
returns-clause-is c = first_of_each_read

pub returns-clause-only : goal.returns-clause-only
returns-clause-only c = first_of_each_only
