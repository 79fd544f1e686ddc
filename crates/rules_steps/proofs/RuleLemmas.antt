-- A tag that breaks out of foreign content is taken by the rules of the mode after that.
use Rattle.std.proofs.Common.{◌≡◌, if◌then◌else◌, [], ◌∷◌, ◌∙◌, Bool, Err, IfOk, Ok, Result, ap, false, refl, sym, true}
use Rattle.std.proofs.Common.{ℕ}
use Rattle.html_lexemes.specs.declared.token.Tag.{Tag}
use Rattle.tree_names.specs.Groups.{tag_group}
use Rattle.tree_names.specs.declared.group.TagGroup.{TagGroup}
use Rattle.rules_actions.specs.Outcomes.{Outcome, came_to, outcome}
use Rattle.rules_actions.specs.declared.flow.Flow.{Flow}
use Rattle.rules_table.specs.Actions.{Action, act, break_out}
use Rattle.rules_table.specs.ForeignContent.{foreign_start, is_by_mode}
use Rattle.rules_table.specs.Rows.{Row, after, again, asks, done}
use Rattle.rules_table.specs.Rule.{broken_out_row, foreign_end, foreign_row, rule}
use Rattle.rules_table.specs.State.{TreeToken, State, finish, start}
use Rattle.rules_table.specs.Table.{end_row, row, start_row}
use Rattle.tree_predicates.specs.Foreign.{breaks_out}

after_one : {H : Type 0} → (handle : ℕ → H) (action : Action) (r : Row) (s : State) →
    outcome handle (after (action ∷ []) r) s ≡ outcome handle r (act action s)
after_one handle action (done actions) s = refl
after_one handle action (asks ask actions) s = refl
after_one handle action (again actions) s = refl

broken : {H : Type 0} → (handle : ℕ → H) (mark : TreeToken) (s : State) →
    outcome handle (row (act break_out s).mode mark (act break_out s)) (act break_out s)
    ≡ outcome handle (broken_out_row mark s) s
unfolding act
broken handle mark s = sym (after_one handle break_out (row s.mode mark (act break_out s)) s)

pub start_broken : {H : Type 0} → (handle : ℕ → H) (t : Tag) (group : TagGroup) (s mid : State) (o : Outcome H) →
    is_by_mode (start t) s ≡ false → breaks_out t ≡ true → tag_group t.name ≡ group → mid ≡ act break_out s →
    o ≡ outcome handle (start_row mid.mode group t mid) mid → o ≡ outcome handle (rule (start t) s) s
start_broken handle t group s mid o by breaks is there e =
    e ∙ (ap (λ g. outcome handle (start_row mid.mode g t mid) mid) (sym is)
    ∙ (ap (λ (m : State). outcome handle (row m.mode (start t) m) m) there
    ∙ (broken handle (start t) s
    ∙ sym (ap (λ b. outcome handle (if b then row s.mode (start t) s else foreign_row (start t) s) s) by
    ∙ ap (λ b. outcome handle (if b then broken_out_row (start t) s else foreign_start t s) s) breaks))))

pub end_broken : {H : Type 0} → (handle : ℕ → H) (t : Tag) (group : TagGroup) (s mid : State) (o : Outcome H) →
    is_by_mode (finish t) s ≡ false → breaks_out t ≡ true → tag_group t.name ≡ group → mid ≡ act break_out s →
    o ≡ outcome handle (end_row mid.mode group t mid) mid → o ≡ outcome handle (rule (finish t) s) s
end_broken handle t group s mid o by breaks is there e =
    e ∙ (ap (λ g. outcome handle (end_row mid.mode g t mid) mid) (sym is)
    ∙ (ap (λ (m : State). outcome handle (row m.mode (finish t) m) m) there
    ∙ (broken handle (finish t) s
    ∙ sym (ap (λ b. outcome handle (if b then row s.mode (finish t) s else foreign_row (finish t) s) s) by
    ∙ ap (λ b. outcome handle (if b then broken_out_row (finish t) s else foreign_end t s) s) breaks))))

-- the same of what a call gives
pub broken_start_came : {H E : Type 0} → (handle : ℕ → H) (t : Tag) (group : TagGroup) (s mid : State)
    (result : Result (Flow H) E) (new : State) → is_by_mode (start t) s ≡ false → breaks_out t ≡ true →
    tag_group t.name ≡ group → mid ≡ act break_out s →
    IfOk result (λ flow. came_to flow new ≡ outcome handle (start_row mid.mode group t mid) mid) →
    IfOk result (λ flow. came_to flow new ≡ outcome handle (rule (start t) s) s)
broken_start_came handle t group s mid (Ok flow) new by breaks is there e =
    start_broken handle t group s mid (came_to flow new) by breaks is there e
broken_start_came handle t group s mid (Err fault) new by breaks is there e = tt

pub broken_end_came : {H E : Type 0} → (handle : ℕ → H) (t : Tag) (group : TagGroup) (s mid : State)
    (result : Result (Flow H) E) (new : State) → is_by_mode (finish t) s ≡ false → breaks_out t ≡ true →
    tag_group t.name ≡ group → mid ≡ act break_out s →
    IfOk result (λ flow. came_to flow new ≡ outcome handle (end_row mid.mode group t mid) mid) →
    IfOk result (λ flow. came_to flow new ≡ outcome handle (rule (finish t) s) s)
broken_end_came handle t group s mid (Ok flow) new by breaks is there e =
    end_broken handle t group s mid (came_to flow new) by breaks is there e
broken_end_came handle t group s mid (Err fault) new by breaks is there e = tt

pub either_way : {A : Type 0} (b : Bool) (x : A) → (if b then x else x) ≡ x
either_way true x = refl
either_way false x = refl
