use Rattle.std.proofs.Common.{arith}
use Rattle.token_grammar.proofs.NameLemmas.{contains_any}
use Rattle.token_grammar.proofs.references.is_closed.Goals as goal

pub returns : goal.returns
returns c = contains_any 59 c.args.name.now c.contains.result c.utf8.name (omega arith) c.contains.ensures.cases
