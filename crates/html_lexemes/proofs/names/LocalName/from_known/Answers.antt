use Rattle.html_lexemes.proofs.NameLemmas.{held_known}
use Rattle.html_lexemes.proofs.names.LocalName.from_known.Goals as goal

pub invariant_of-result : goal.invariant_of-result
invariant_of-result c = held_known c.args.known
