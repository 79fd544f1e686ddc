use Rattle.token_grammar.proofs.CharacterCuts.{shown_tested}
use Rattle.token_grammar.proofs.references.is_shown.Goals as goal

pub returns-then-not-contains : goal.returns-then-not-contains
returns-then-not-contains c table emitted =
    shown_tested table c.args.text.now c.contains-then-not-contains.result c.utf8.text c.if-not-contains.ensures.cases
    c.contains-then-not-contains.ensures.cases emitted
