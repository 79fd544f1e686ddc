-- How many rules may take a mark makes no difference past its rank (WHATWG HTML, 13.2.6).
use Rattle.std.proofs.Common.{◌≡◌, ℕ, ◌<◌, List, refl, arith, zero, suc}
use Rattle.rules_table_laws.proofs.ActionLemmas.{all_ready}
use Rattle.rules_table_laws.specs.Falls.{Falls}
use Rattle.rules_table.specs.Actions.{Action, act_all}
use Rattle.rules_table.specs.Rank.{rank}
use Rattle.rules_table.specs.Rows.{Row, again, asks, done}
use Rattle.rules_table.specs.Rule.{rule}
use Rattle.rules_table.specs.Settling.{Ready, Settled, given_by, settle, taken}
use Rattle.rules_table.specs.State.{TreeToken, State}
use Rattle.rules_table.specs.Welcome.{ActionsKeep}

abbrev pub EachFalls : Type 0
EachFalls = (mark : TreeToken) (s : State) → Ready s → Falls mark s (rule mark s)

further_down : (x y k : ℕ) → x < y → y < suc k → x < k
further_down x y k h i = omega (arith, h, i)

just_below : (x : ℕ) → x < suc x
just_below x = omega arith

none_below : (x : ℕ) → ¬ (x < 0)
none_below x h = omega (arith, h)

-- two ways to go on that agree at lower ranks
by_row : (mark : TreeToken) (s : State) (r : Row) (g h : State → Settled) → Falls mark s r →
    ((actions : List Action) → rank mark (act_all actions s) < rank mark s →
    g (act_all actions s) ≡ h (act_all actions s)) → given_by r s g ≡ given_by r s h
by_row mark s (done actions) g h falls same = refl
by_row mark s (asks ask actions) g h falls same = refl
by_row mark s (again actions) g h falls same = same actions falls

module _ (falls : EachFalls) (keep : ActionsKeep) where
  same_settled : (k l : ℕ) (mark : TreeToken) (s : State) → Ready s → rank mark s < k → rank mark s < l →
      settle k mark s ≡ settle l mark s
  same_settled zero l mark s ready low less = absurd (none_below (rank mark s) low)
  same_settled (suc k) zero mark s ready low less = absurd (none_below (rank mark s) less)
  same_settled (suc k) (suc l) mark s ready low less =
      by_row mark s (rule mark s) (settle k mark) (settle l mark) (falls mark s ready)
      (λ actions down. same_settled k l mark (act_all actions s) (all_ready keep actions s ready)
      (further_down _ (rank mark s) k down low) (further_down _ (rank mark s) l down less))

  pub taken_by_rule : (mark : TreeToken) (s : State) → Ready s → taken mark s ≡ given_by (rule mark s) s (taken mark)
  taken_by_rule mark s ready =
      by_row mark s (rule mark s) (settle (rank mark s) mark) (taken mark) (falls mark s ready)
      (λ actions down. same_settled (rank mark s) (suc (rank mark (act_all actions s))) mark (act_all actions s)
      (all_ready keep actions s ready) down (just_below (rank mark (act_all actions s))))
