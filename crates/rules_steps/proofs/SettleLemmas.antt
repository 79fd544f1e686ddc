-- A mark that a rule takes has come to what it comes to; one that is handed on comes to the same after it, and its
-- rank has fallen.
use Rattle.std.proofs.Common.{◌≡◌, ℕ, ◌<◌, refl, sym, ap, ◌∙◌, subst}
use Rattle.html_lexemes.specs.declared.token.TokenSinkResult.{TokenSinkResult}
use Rattle.html_lexemes.specs.declared.token.TokenSinkResult.TheVariants.{Continue}
use Rattle.rules_actions.specs.Outcomes.{Outcome, came_to, finished, goes_on, outcome}
use Rattle.rules_actions.specs.declared.flow.Flow.{Flow}
use Rattle.rules_actions.specs.declared.flow.Flow.TheVariants as flows
use Rattle.rules_table_laws.specs.Falls.{Falls}
use Rattle.rules_table.specs.Actions.{act_all}
use Rattle.rules_table.specs.Rank.{rank}
use Rattle.rules_table.specs.Rows.{Row, again, asks, done}
use Rattle.rules_table.specs.Rule.{rule}
use Rattle.rules_table.specs.Settling.{Ready, given_by, taken}
use Rattle.rules_table.specs.State.{TreeToken, State}
use Rattle.rules_steps.specs.Steps.{settled_as}

abbrev pub Comes : Type 0
Comes = (mark : TreeToken) (s : State) → Ready s → taken mark s ≡ given_by (rule mark s) s (taken mark)

abbrev pub Falling : Type 0
Falling = (mark : TreeToken) (s : State) → Ready s → Falls mark s (rule mark s)

abbrev state_in : {H : Type 0} → State → Outcome H → State
state_in other (finished answer s) = s
state_in other (goes_on s) = s

finished_by : {H : Type 0} → (handle : ℕ → H) → Comes → (mark : TreeToken) (s t : State) (answer : TokenSinkResult H)
    (r : Row) → Ready s → rule mark s ≡ r → finished answer t ≡ outcome handle r s →
    finished answer t ≡ settled_as handle (taken mark s)
finished_by handle comes mark s t answer (done actions) ready is e =
    e ∙ sym (ap (settled_as handle) (comes mark s ready ∙ ap (λ r. given_by r s (taken mark)) is))
finished_by handle comes mark s t answer (asks ask actions) ready is e =
    e ∙ sym (ap (settled_as handle) (comes mark s ready ∙ ap (λ r. given_by r s (taken mark)) is))
finished_by handle comes mark s t answer (again actions) ready is e = absurd (cc)

pub is_finished : {H : Type 0} → (handle : ℕ → H) → Comes → (mark : TreeToken) (s t : State)
    (answer : TokenSinkResult H) → Ready s → finished answer t ≡ outcome handle (rule mark s) s →
    finished answer t ≡ settled_as handle (taken mark s)
is_finished handle comes mark s t answer ready e =
    finished_by handle comes mark s t answer (rule mark s) ready refl e

-- what holds where it is handed on
pub record IsHandedOn (mark : TreeToken) (s t : State) : Type 0 where
  pub same : taken mark t ≡ taken mark s
  pub less : rank mark t < rank mark s

handed_by : {H : Type 0} → (handle : ℕ → H) → Comes → Falling → (mark : TreeToken) (s t : State) (r : Row) → Ready s →
    rule mark s ≡ r → goes_on t ≡ outcome handle r s → IsHandedOn mark s t
handed_by handle comes falls mark s t (done actions) ready is e = absurd (cc)
handed_by handle comes falls mark s t (asks ask actions) ready is e = absurd (cc)
handed_by handle comes falls mark s t (again actions) ready is e =
    let there : t ≡ act_all actions s = ap (state_in s) e in
    let fall : rank mark (act_all actions s) < rank mark s = subst (Falls mark s) is (falls mark s ready) in
    record {
      same = sym (comes mark s ready ∙ ap (λ r. given_by r s (taken mark)) is ∙ ap (taken mark) (sym there));
      less = subst (λ u. rank mark u < rank mark s) (sym there) fall;
    }

pub is_handed_on : {H : Type 0} → (handle : ℕ → H) → Comes → Falling → (mark : TreeToken) (s t : State) → Ready s →
    goes_on t ≡ outcome handle (rule mark s) s → IsHandedOn mark s t
is_handed_on handle comes falls mark s t ready e =
    handed_by handle comes falls mark s t (rule mark s) ready refl e

-- the same with what held when the loop began
pub is_settled : {H : Type 0} → (handle : ℕ → H) → Comes → (mark : TreeToken) (first s t : State)
    (answer : TokenSinkResult H) → Ready s → taken mark s ≡ taken mark first →
    finished answer t ≡ outcome handle (rule mark s) s → finished answer t ≡ settled_as handle (taken mark first)
is_settled handle comes mark first s t answer ready same e =
    is_finished handle comes mark s t answer ready e ∙ ap (settled_as handle) same

-- by a flow
pub came_done : {H : Type 0} → (handle : ℕ → H) (flow : Flow H) (t : State) (o : Outcome H) → flow ≡ flows.Done →
    came_to flow t ≡ o → finished Continue t ≡ o
came_done handle flow t o is e = ap (λ f. came_to f t) (sym is) ∙ e

pub came_asks : {H : Type 0} → (handle : ℕ → H) (flow : Flow H) (t : State) (o : Outcome H)
    (answer : TokenSinkResult H) → flow ≡ flows.Asks answer → came_to flow t ≡ o → finished answer t ≡ o
came_asks handle flow t o answer is e = ap (λ f. came_to f t) (sym is) ∙ e

pub came_again : {H : Type 0} → (handle : ℕ → H) (flow : Flow H) (t : State) (o : Outcome H) → flow ≡ flows.Again →
    came_to flow t ≡ o → goes_on t ≡ o
came_again handle flow t o is e = ap (λ f. came_to f t) (sym is) ∙ e
