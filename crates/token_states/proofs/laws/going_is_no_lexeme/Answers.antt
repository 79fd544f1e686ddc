use Rattle.token_states.proofs.GoingOpen.{going_open}
use Rattle.token_states.proofs.laws.going_is_no_lexeme.Goals as goal

pub returns : goal.returns
returns c = λ foreign mode place held h. going_open c.args.table.now foreign mode place held c.names_are_names.ensures h
