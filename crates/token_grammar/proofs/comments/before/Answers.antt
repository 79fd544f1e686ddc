use Rattle.token_grammar.proofs.MarkLemmas.{before_is}
use Rattle.token_grammar.proofs.comments.before.Goals as goal

pub returns-clause-value : goal.returns-clause-value
returns-clause-value c =
    before_is c.args.mark.now c.args.text.now _ c.utf8.text c.utf8.mark c.strip_suffix.ensures.cases
