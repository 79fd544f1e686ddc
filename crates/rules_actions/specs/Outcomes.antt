-- What a token comes to in a mode, by a row of the rule table.
use Rattle.std.specs.Prelude.{ℕ}
use Rattle.html_lexemes.specs.declared.token.TokenSinkResult.{TokenSinkResult}
use Rattle.html_lexemes.specs.declared.token.TokenSinkResult.TheVariants.{Continue}
use Rattle.rules_actions.specs.declared.flow.Flow.{Flow}
use Rattle.rules_actions.specs.declared.flow.Flow.TheVariants as flows
use Rattle.rules_table.specs.Actions.{act_all}
use Rattle.rules_table.specs.Rows.{Row, again, asks, done}
use Rattle.rules_table.specs.Settling.{answer_of, entered}
use Rattle.rules_table.specs.State.{State}

-- it is taken, with an answer to the tokenizer, or the mode that stands takes it
pub data Outcome (H : Type 0) : Type 0 where
  finished : TokenSinkResult H → State → Outcome H
  goes_on : State → Outcome H

abbrev pub came_to : {H : Type 0} → Flow H → State → Outcome H
came_to flows.Done s = finished Continue s
came_to (flows.Asks answer) s = finished answer s
came_to flows.Again s = goes_on s

abbrev pub outcome : {H : Type 0} → (ℕ → H) → Row → State → Outcome H
outcome handle (done actions) s = finished Continue (act_all actions s)
outcome handle (asks ask actions) s = finished (answer_of handle ask) (entered ask (act_all actions s))
outcome handle (again actions) s = goes_on (act_all actions s)
