-- What runs of characters come to, which are taken one by one: laws of the rule table (WHATWG HTML, 13.2.6.1 and
-- 13.2.6.4).
use Rattle.std.specs.Prelude.{◌≡◌, ℕ, ◌<◌, ◌&&◌, Bool, false, List, ◌∷◌, fold}
use Rattle.html_tree_state.specs.Insertions.{said}
use Rattle.rules_table.specs.Actions.{Action, act, act_all, keep_pending, reconstruct, say}
use Rattle.rules_table.specs.Asking.{all_are}
use Rattle.rules_table.specs.ForeignContent.{is_by_mode}
use Rattle.rules_table.specs.Rank.{rank}
use Rattle.rules_table.specs.Rows.{is_white_space, then_again}
use Rattle.rules_table.specs.Settling.{Ready, taken_character}
use Rattle.rules_table.specs.State.{State, character, null}
use Rattle.rules_table.specs.Table.{text_row}
use Rattle.rules_table_laws.specs.TextClasses.{AreByMode, AreOfClass}
use Rattle.rules_table_laws.specs.declared.text_class.TextClass.TheVariants as classes

-- characters, one after the other
abbrev pub took : List ℕ → State → State
took cs s = fold taken_character s cs

-- characters are inserted; others than white space refuse framesets
abbrev pub emitted : List ℕ → State → State
emitted cs s = record s { frameset_ok = all_are is_white_space cs && s.frameset_ok; tree = said cs s.tree }

-- no line feed is left out next
pub record IsCalm (s : State) : Type 0 where
  pub ready : Ready s
  pub flag : s.skip_lf ≡ false

-- text comes to the same in the mode that it was handed on to, and its rank has fallen
pub record IsPassedOn (is_space : Bool) (s t : State) : Type 0 where
  pub same : (c : ℕ) (cs : List ℕ) → is_white_space c ≡ is_space → took (c ∷ cs) t ≡ took (c ∷ cs) s
  pub less : rank null t < rank null s
  pub flag : t.skip_lf ≡ false

-- a run that a mode treats alike comes to what one action with all of it makes
pub record TextRuns : Type 0 where
  pub dropped : (s : State) (cs : List ℕ) → IsCalm s → AreByMode s → AreOfClass classes.Dropped cs s →
      took cs s ≡ s
  pub kept : (s : State) (cs : List ℕ) → IsCalm s → AreByMode s → AreOfClass classes.Kept cs s →
      took cs s ≡ fold (λ s c. act (keep_pending c) s) s cs
  pub inserted : (s : State) (cs : List ℕ) → IsCalm s → AreByMode s → AreOfClass classes.Inserted cs s →
      took cs s ≡ act (say cs) s
  pub in_body : (s : State) (c : ℕ) (cs : List ℕ) → IsCalm s → AreByMode s → AreOfClass classes.InBody (c ∷ cs) s →
      took (c ∷ cs) s ≡ emitted (c ∷ cs) (act reconstruct s)
  pub foreign : (s : State) (cs : List ℕ) → IsCalm s → ((c : ℕ) → is_by_mode (character c) s ≡ false) →
      took cs s ≡ emitted cs s
  pub passed_on : (is_space : Bool) (s : State) (actions : List Action) → IsCalm s → AreByMode s →
      text_row s.mode is_space s ≡ then_again actions → IsPassedOn is_space s (act_all actions s)
