-- When tree construction may be given an item of a page, and what it takes then: anything before the end; in the mode
-- "text" what is emitted in an element's text.
use Rattle.std.specs.Prelude.{◌≡◌, Bool, false, true}
use Rattle.token_grammar.specs.Items.{Item}
use Rattle.token_grammar.specs.Kinds.{IsOf}
use Rattle.token_grammar.specs.declared.modes.TextKind.TheVariants.{Plain}
use Rattle.rules_table.specs.Actions.{Action, act, is_text}
use Rattle.rules_table.specs.Settling.{Ready}
use Rattle.rules_table.specs.State.{State}

-- a law: each action keeps what holds between two items
abbrev pub ActionsKeep : Type 0
ActionsKeep = (action : Action) (s : State) → Ready s → Ready (act action s)

-- what holds between two items while no call was refused, and by which law it stays so
pub record IsReady (s : State) : Type 0 where
  pub works : s.has_failed ≡ false
  pub ready : Ready s
  pub actions : ActionsKeep

-- what is asked before a call, and holds after it whatever it answers
abbrev pub IsFit : State → Type 0
IsFit s = s.has_failed ≡ false → IsReady s

abbrev pub IsHeard : (is_in_text : Bool) → Item → Type 0
IsHeard true item = IsOf Plain item
IsHeard false item = Unit {0}

pub record IsWelcome (s : State) (item : Item) : Type 0 where
  pub works : s.has_failed ≡ false
  pub goes_on : s.is_over ≡ false
  pub heard : IsHeard (is_text s.mode) item
