use Rattle.token_grammar.proofs.ShortestCuts.{cut_shortest, cut_no_mark}
use Rattle.token_grammar.proofs.slice_laws.cut_is_shortest.Goals as goal

pub returns-clause-shortest : goal.returns-clause-shortest
returns-clause-shortest c = cut_shortest

pub returns-clause-no_mark : goal.returns-clause-no_mark
returns-clause-no_mark c = cut_no_mark
