-- What a rule promises.
use Rattle.std.specs.Prelude.{◌≡◌, IfErr, IfOk, OnOk, Result}
use Rattle.tree_forest.specs.Sinks.{SinkView}
use Rattle.html_lexemes.specs.declared.fault.ParseFault.{ParseFault}
use Rattle.html_lexemes.specs.declared.fault.ParseFault.TheVariants.{Memory}
use Rattle.rules_actions.specs.Outcomes.{came_to, outcome}
use Rattle.rules_actions.specs.Parsed.{state_of}
use Rattle.rules_actions.specs.declared.flow.Flow.{Flow}
use Rattle.rules_actions.specs.declared.parse.Parse.{Parse}
use Rattle.rules_table.specs.Rows.{Row}
use Rattle.rules_table.specs.Settling.{Ready}

-- A rule that isn't refused comes to what its row says, and leaves a state in which the next item may be taken; it is
-- refused only if allocation fails.
pub record Follows {H S O : Type 0} (view : SinkView S H) (row : Row) (old new : Parse S H O)
    (result : Result (Flow H) ParseFault) : Type 0 where
  pub came : IfOk result (λ flow. came_to flow (state_of view new) ≡ outcome view.handle row (state_of view old))
  pub ready : OnOk result (Ready (state_of view new))
  pub memory : IfErr result (λ e. e ≡ Memory)
