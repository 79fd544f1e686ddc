use Rattle.token_grammar.proofs.TagSlices.{tag_slice}
use Rattle.token_grammar.proofs.TagSlicesRead.{tag_read}
use Rattle.token_grammar.proofs.tag_laws.tag_is_its_slice.Goals as goal

pub returns-clause-is : goal.returns-clause-is
returns-clause-is c = tag_slice

pub returns-clause-only : goal.returns-clause-only
returns-clause-only c = tag_read
