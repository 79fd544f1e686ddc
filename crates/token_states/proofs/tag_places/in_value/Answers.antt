use Rattle.std.proofs.Common.{sym, ◌∙◌}
use Rattle.token_states.proofs.TagSteps.{value_ends}
use Rattle.token_states.proofs.tag_places.in_value.Goals as goal

pub returns-in_default : goal.returns-in_default
returns-in_default c = value_ends c.args.kind c.args.c c.in-Unquoted.is (sym c.has.ensures ∙ c.if-has.true)
