use Rattle.token_grammar.proofs.SliceLemmas.{stripped}
use Rattle.token_grammar.proofs.slices.trailing.Goals as goal

pub returns-clause-value : goal.returns-clause-value
returns-clause-value c =
    stripped c.args.mark.now c.args.text.now c.strip_prefix.result c.utf8.mark c.utf8.text c.strip_prefix.ensures.cases
