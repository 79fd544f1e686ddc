-- What a mark comes to, as an answer to the tokenizer and a state.
use Rattle.std.specs.Prelude.{ℕ}
use Rattle.rules_actions.specs.Outcomes.{Outcome, finished}
use Rattle.rules_table.specs.Settling.{Settled, answer_of}

abbrev pub settled_as : {H : Type 0} → (ℕ → H) → Settled → Outcome H
settled_as handle settled = finished (answer_of handle settled.ask) settled.state
