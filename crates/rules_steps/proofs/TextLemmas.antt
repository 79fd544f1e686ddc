-- How a mode takes runs of text: what each call makes, as a law of runs says it.
use Rattle.std.proofs.Common.{◌≡◌, ◌<◌, ◌&&◌, [], ◌∷◌, ◌++◌, ◌∙◌, Bool, List, ap, arith, chars, false, fold, length}
use Rattle.std.proofs.Common.{refl, subst, sym, true, ℕ}
use Rattle.std.proofs.lemmas.Str.{chars-nil}
use Rattle.token_grammar.specs.Slices.{first_passes, front_while, rest_while}
use Rattle.html_tree_state.specs.Insertions.{said}
use Rattle.rules_actions.specs.Outcomes.{Outcome, came_to, finished, goes_on, outcome}
use Rattle.rules_actions.specs.declared.flow.Flow.{Flow}
use Rattle.rules_actions.specs.declared.flow.Flow.TheVariants as flows
use Rattle.rules_table.specs.Actions.{Action, act, act_all, keep_pending, reconstruct, refuse_frameset, say}
use Rattle.rules_table.specs.Asking.{all_are}
use Rattle.rules_table.specs.ForeignContent.{is_by_mode}
use Rattle.rules_table.specs.Rows.{TextRow, dropped, for_null, is_white_space, kept, said_after, then_again}
use Rattle.rules_table.specs.State.{State, character}
use Rattle.rules_table.specs.Table.{text_row}
use Rattle.rules_table_laws.specs.TextClasses.{AreByMode, AreOfClass, IsHandedOn, IsOfClass}
use Rattle.rules_table_laws.specs.TextRuns.{IsCalm, IsPassedOn, TextRuns, emitted, took}
use Rattle.rules_table_laws.specs.declared.text_class.TextClass.{TextClass}
use Rattle.rules_table_laws.specs.declared.text_class.TextClass.TheVariants as classes
use Rattle.rules_steps.specs.Runs.{is_alike}
use Rattle.rules_steps.proofs.RunLemmas.{alike_is, front_passes, rest_less, took_on, whole}

-- what is emitted, by whether it is white space
abbrev emitted_by : Bool → List ℕ → State → State
emitted_by is_space cs s = record s { frameset_ok = is_space && s.frameset_ok; tree = said cs s.tree }

pub emitted_space : (text cs : List ℕ) (s t : State) → text ≡ cs → t ≡ act (say text) s →
    true ≡ all_are is_white_space cs → t ≡ emitted cs s
unfolding act
emitted_space text cs s t copied e is =
    e ∙ (ap (λ (l : List ℕ). act (say l) s) copied ∙ ap (λ x. emitted_by x cs s) is)

pub emitted_other : (text cs : List ℕ) (s t u : State) → text ≡ cs → t ≡ act (say text) s →
    u ≡ act refuse_frameset t → false ≡ all_are is_white_space cs → u ≡ emitted cs s
unfolding act
emitted_other text cs s t u copied e f is =
    f ∙ (ap (act refuse_frameset) (e ∙ ap (λ (l : List ℕ). act (say l) s) copied) ∙ ap (λ x. emitted_by x cs s) is)

-- no call changes whether a line feed is left out
pub flag_emitted : (cs : List ℕ) (s t : State) → t ≡ emitted cs s → s.skip_lf ≡ false → t.skip_lf ≡ false
flag_emitted cs s t e flag = ap (λ (u : State). u.skip_lf) e ∙ flag

pub flag_said : (cs : List ℕ) (s t : State) → t ≡ act (say cs) s → s.skip_lf ≡ false → t.skip_lf ≡ false
unfolding act
flag_said cs s t e flag = ap (λ (u : State). u.skip_lf) e ∙ flag

pub flag_reconstructed : (s t : State) → t ≡ act reconstruct s → s.skip_lf ≡ false → t.skip_lf ≡ false
unfolding act
flag_reconstructed s t e flag = ap (λ (u : State). u.skip_lf) e ∙ flag

flag_pending : (cs : List ℕ) (s : State) → (fold (λ s c. act (keep_pending c) s) s cs).skip_lf ≡ s.skip_lf
unfolding act
flag_pending [] s = refl
flag_pending (c ∷ cs) s = flag_pending cs (act (keep_pending c) s)

pub flag_kept : (cs : List ℕ) (s t : State) → t ≡ fold (λ s c. act (keep_pending c) s) s cs → s.skip_lf ≡ false →
    t.skip_lf ≡ false
flag_kept cs s t e flag = ap (λ (u : State). u.skip_lf) e ∙ (flag_pending cs s ∙ flag)

-- text is taken, and is not
pub false_true : false ≡ true → ⊥
false_true e = absurd (cc)

-- the state of an outcome
abbrev state_in : {H : Type 0} → State → Outcome H → State
state_in other (finished answer s) = s
state_in other (goes_on s) = s

given_by_flow : {H : Type 0} (handle : ℕ → H) (flow : Flow H) (actions : List Action) (s t : State) →
    came_to flow t ≡ goes_on (act_all actions s) → t ≡ act_all actions s
given_by_flow handle flows.Done actions s t e = absurd (cc)
given_by_flow handle (flows.Asks answer) actions s t e = absurd (cc)
given_by_flow handle flows.Again actions s t e = ap (state_in s) e

given_by_row : {H : Type 0} (handle : ℕ → H) (flow : Flow H) → TextRuns → (is_space : Bool) (s t : State)
    (row : TextRow) → text_row s.mode is_space s ≡ row → IsCalm s → AreByMode s → IsHandedOn row →
    came_to flow t ≡ outcome handle (for_null row) s → IsPassedOn is_space s t
given_by_row handle flow runs is_space s t dropped is calm here h e = absurd h
given_by_row handle flow runs is_space s t (said_after actions) is calm here h e = absurd h
given_by_row handle flow runs is_space s t kept is calm here h e = absurd h
given_by_row handle flow runs is_space s t (then_again actions) is calm here h e =
    let there : t ≡ act_all actions s = given_by_flow handle flow actions s t e in
    subst (IsPassedOn is_space s) (sym there) (runs.passed_on is_space s actions calm here is)

pub given_on : {H : Type 0} (handle : ℕ → H) (flow : Flow H) → TextRuns → (is_space : Bool) (s t : State) →
    IsCalm s → AreByMode s → IsHandedOn (text_row s.mode is_space s) →
    came_to flow t ≡ outcome handle (for_null (text_row s.mode is_space s)) s → IsPassedOn is_space s t
given_on handle flow runs is_space s t calm here h e =
    given_by_row handle flow runs is_space s t (text_row s.mode is_space s) refl calm here h e

-- all characters of a run are of a class
pub front_class : (class : TextClass) (is_space : Bool) (cs : List ℕ) (s : State) →
    IsOfClass class is_space (text_row s.mode is_space s) → AreOfClass class (front_while (is_alike is_space) cs) s
front_class class is_space cs s of c i =
    let is : is_white_space c ≡ is_space = alike_is is_space c (front_passes (is_alike is_space) cs c i) in
    subst (λ x. IsOfClass class x (text_row s.mode x s)) (sym is) of

-- what is left after a front comes to what the whole does
pub took_front : (p : ℕ → Bool) (cs front rest : List ℕ) (s t : State) → front ≡ front_while p cs →
    rest ≡ rest_while p cs → t ≡ took front s → took rest t ≡ took cs s
took_front p cs front rest s t f r e =
    ap (took rest) e ∙ (sym (took_on front rest s)
    ∙ ap (λ (all : List ℕ). took all s) (ap (λ (l : List ℕ). l ++ rest) f
    ∙ (ap (λ (l : List ℕ). front_while p cs ++ l) r ∙ whole p cs)))

-- a run of one kind of characters
pub same_of : (is_space : Bool) (cs : List ℕ) (s t : State) → first_passes (is_alike is_space) cs ≡ true →
    ((c : ℕ) (cs : List ℕ) → is_white_space c ≡ is_space → took (c ∷ cs) t ≡ took (c ∷ cs) s) →
    took cs t ≡ took cs s
same_of is_space [] s t first same = absurd (cc)
same_of is_space (c ∷ cs) s t first same = same c cs (alike_is is_space c first)

-- a run in the body is not empty
pub took_in_body : TextRuns → (s t u : State) (cs : List ℕ) → IsCalm s → AreByMode s →
    AreOfClass classes.InBody cs s → ¬ (cs ≡ []) → t ≡ act reconstruct s → u ≡ emitted cs t → u ≡ took cs s
took_in_body runs s t u [] calm here of some e f = absurd (some refl)
took_in_body runs s t u (c ∷ cs) calm here of some e f =
    f ∙ (ap (emitted (c ∷ cs)) e ∙ sym (runs.in_body s c cs calm here of))

-- a text whose first character is known is not empty
pub first_less : (p : ℕ → Bool) (cs : List ℕ) → first_passes p cs ≡ true → 0 < length cs
first_less p [] e = absurd (cc)
first_less p (c ∷ cs) e = omega arith

-- what is said of a run, by its class
of_class : (class other : TextClass) (cs : List ℕ) (s : State) → class ≡ other → AreOfClass class cs s →
    AreOfClass other cs s
of_class class other cs s e all = subst (λ x. AreOfClass x cs s) e all

pub as_dropped : TextRuns → (class : TextClass) (cs : List ℕ) (s : State) → class ≡ classes.Dropped → IsCalm s →
    AreByMode s → AreOfClass class cs s → s ≡ took cs s
as_dropped runs class cs s is calm here all =
    sym (runs.dropped s cs calm here (of_class class classes.Dropped cs s is all))

pub as_inserted : TextRuns → (class : TextClass) (text cs : List ℕ) (s t : State) → class ≡ classes.Inserted →
    IsCalm s → AreByMode s → AreOfClass class cs s → text ≡ cs → t ≡ act (say text) s → t ≡ took cs s
as_inserted runs class text cs s t is calm here all copied e =
    e ∙ (ap (λ (l : List ℕ). act (say l) s) copied
    ∙ sym (runs.inserted s cs calm here (of_class class classes.Inserted cs s is all)))

pub as_in_body : TextRuns → (class : TextClass) (cs : List ℕ) (s t u : State) → class ≡ classes.InBody → IsCalm s →
    AreByMode s → AreOfClass class cs s → ¬ (cs ≡ []) → t ≡ act reconstruct s → u ≡ emitted cs t → u ≡ took cs s
as_in_body runs class cs s t u is calm here all some e f =
    took_in_body runs s t u cs calm here (of_class class classes.InBody cs s is all) some e f

pub as_kept : TextRuns → (class : TextClass) (cs : List ℕ) (s t : State) → class ≡ classes.Kept → IsCalm s →
    AreByMode s → AreOfClass class cs s → t ≡ fold (λ s c. act (keep_pending c) s) s cs → t ≡ took cs s
as_kept runs class cs s t is calm here all e =
    e ∙ sym (runs.kept s cs calm here (of_class class classes.Kept cs s is all))

-- the run in front, which is split off
pub front_all : (class : TextClass) (is_space : Bool) (cs front : List ℕ) (s : State) →
    front ≡ front_while (is_alike is_space) cs → IsOfClass class is_space (text_row s.mode is_space s) →
    AreOfClass class front s
front_all class is_space cs front s f of =
    subst (λ (l : List ℕ). AreOfClass class l s) (sym f) (front_class class is_space cs s of)

pub after_less : (p : ℕ → Bool) (cs rest : List ℕ) → rest ≡ rest_while p cs → first_passes p cs ≡ true →
    length rest < length cs
after_less p cs rest r first = subst (λ (l : List ℕ). length l < length cs) (sym r) (rest_less p cs first)

-- where the rules for foreign content take text
pub as_foreign : TextRuns → (cs : List ℕ) (s t : State) (here : Bool) → IsCalm s →
    ((c : ℕ) → here ≡ is_by_mode (character c) s) → here ≡ false → t ≡ emitted cs s → t ≡ took cs s
as_foreign runs cs s t here calm is not_here e = e ∙ sym (runs.foreign s cs calm (λ c. sym (is c) ∙ not_here))

-- where nothing is left
pub none_left : (cs : List ℕ) (s t : State) → t ≡ took cs s → took (chars []) t ≡ took cs s
none_left cs s t e = ap (λ (left : List ℕ). took left t) chars-nil ∙ e

pub none_less : (p : ℕ → Bool) (cs : List ℕ) → first_passes p cs ≡ true → length (chars []) < length cs
none_less p cs first = subst (λ (left : List ℕ). length left < length cs) (sym chars-nil) (first_less p cs first)

pub all_taken : (left cs : List ℕ) (s t : State) → left ≡ [] → took left t ≡ took cs s → t ≡ took cs s
all_taken left cs s t none same = sym (ap (λ (l : List ℕ). took l t) none) ∙ same
