-- What a rule comes to where the body stands: the row of the mode, here or after breaking out of foreign content,
-- or one
-- of the rules for foreign content.
use Rattle.std.proofs.Common.{◌≡◌, ℕ, ◌||◌, Bool, true, false, if◌then◌else◌, List, [], ◌∷◌, is_some, refl}
use Rattle.html_tree_state.specs.Foreign.{named_foreign}
use Rattle.page_tree_laws.proofs.EarlyPhases.{ComesTo, comes_to_if}
use Rattle.page_tree_laws.proofs.EvenRows.{AreEven}
use Rattle.page_tree_laws.proofs.EvenRules.{inserted_even}
use Rattle.page_tree_laws.proofs.Fits.{FitAll}
use Rattle.page_tree_laws.proofs.FittingRules.{inserted_foreign}
use Rattle.page_tree_laws.proofs.Guards.{Guard}
use Rattle.rules_table.specs.Actions.{Action, act, act_all, break_out, close_foreign, insert_comment, insert_foreign}
use Rattle.rules_table.specs.Actions.{is_text, refuse_frameset, say}
use Rattle.rules_table.specs.ForeignContent.{foreign_start, foreign_text, is_by_mode, is_taken_at, namespace_at}
use Rattle.rules_table.specs.ForeignContent.{node_here}
use Rattle.rules_table.specs.Rows.{Row, after, again, asks, done, for_character, is_white_space}
use Rattle.rules_table.specs.Rule.{broken_out_row, foreign_end, foreign_row, rule}
use Rattle.rules_table.specs.State.{TreeToken, State, character, comment, doctype, end_of_file, finish, null, start}
use Rattle.rules_table.specs.Table.{row}
use Rattle.tree_predicates.specs.Foreign.{breaks_out}

after_comes : (P : State → Type 0) (s : State) (r : Row) → ComesTo P (act break_out s) r →
    ComesTo P s (after (break_out ∷ []) r)
after_comes P s (done actions) comes = comes
after_comes P s (asks ask actions) comes = comes
after_comes P s (again actions) comes = comes

-- what actions that fit come to
abbrev pub Leads : (State → Type 0) → Guard → State → Type 0
Leads P g s = (actions : List Action) → AreEven actions → FitAll g actions s → P (act_all actions s)

foreign_said : (P : State → Type 0) (is_space : Bool) (g : Guard) (c : ℕ) (s : State) → Leads P g s →
    ComesTo P s (for_character c (foreign_text is_space))
foreign_said P true g c s leads = leads (say (c ∷ []) ∷ []) (tt, tt) (tt, tt)
foreign_said P false g c s leads = leads (refuse_frameset ∷ say (c ∷ []) ∷ []) (tt, (tt, tt)) (tt, (tt, tt))

foreign_comes : (P : State → Type 0) (g : Guard) (mark : TreeToken) (s : State) → is_by_mode mark s ≡ false →
    Leads P g s → ComesTo P s (row s.mode mark s) →
    ComesTo P (act break_out s) (row s.mode mark (act break_out s)) → ComesTo P s (foreign_row mark s)
foreign_comes P g (character c) s off leads here out = foreign_said P (is_white_space c) g c s leads
foreign_comes P g null s off leads here out = leads (say (65533 ∷ []) ∷ []) (tt, tt) (tt, tt)
foreign_comes P g (comment cs) s off leads here out = leads (insert_comment cs ∷ []) (tt, tt) (tt, tt)
foreign_comes P g (doctype d) s off leads here out = leads [] tt tt
foreign_comes P g (start t) s off leads here out = comes_to_if (breaks_out t) P s
    (broken_out_row (start t) s) (foreign_start t s)
    (λ e. after_comes P s (row s.mode (start t) (act break_out s)) out)
    (λ e. leads (insert_foreign (namespace_at s.tree.forest (node_here s)) t ∷ []) (inserted_even t s off)
    (inserted_foreign g t s off))
foreign_comes P g (finish t) s off leads here out = comes_to_if (breaks_out t) P s
    (broken_out_row (finish t) s) (foreign_end t s)
    (λ e. after_comes P s (row s.mode (finish t) (act break_out s)) out)
    (λ e. comes_to_if (is_some (named_foreign t.name s.tree.forest s.tree.stack)) P s
    (done (close_foreign t.name ∷ [])) (row s.mode (finish t) s) (λ k. leads (close_foreign t.name ∷ []) (tt, tt)
    (tt, tt))
    (λ k. here))
foreign_comes P g end_of_file s off leads here out = here

pub rule_comes : (P : State → Type 0) (g : Guard) (mark : TreeToken) (s : State) → Leads P g s →
    ComesTo P s (row s.mode mark s) →
    ComesTo P (act break_out s) (row s.mode mark (act break_out s)) → ComesTo P s (rule mark s)
rule_comes P g mark s leads here out = comes_to_if (is_by_mode mark s) P s (row s.mode mark s)
    (foreign_row mark s) (λ e. here) (λ e. foreign_comes P g mark s e leads here out)

-- where the mode takes each mark
by_true : (P : State → Type 0) (b : Bool) (s : State) (x y : Row) → b ≡ true → ComesTo P s x →
    ComesTo P s (if b then x else y)
by_true P true s x y e comes = comes
by_true P false s x y e comes = absurd (let k : false ≡ true = e in cc)

or_true : (x y : Bool) → x ≡ true → (x || y) ≡ true
or_true true y e = refl
or_true false y e = absurd (let k : false ≡ true = e in cc)

pub mode_takes : (P : State → Type 0) (mark : TreeToken) (s : State) → is_by_mode mark s ≡ true →
    ComesTo P s (row s.mode mark s) → ComesTo P s (rule mark s)
mode_takes P mark s by comes =
    by_true P (is_by_mode mark s) s (row s.mode mark s) (foreign_row mark s) by comes

pub text_takes : (P : State → Type 0) (mark : TreeToken) (s : State) → is_text s.mode ≡ true →
    ComesTo P s (row s.mode mark s) → ComesTo P s (rule mark s)
text_takes P mark s e comes = mode_takes P mark s
    (or_true (is_text s.mode) (is_taken_at mark s.tree.forest (node_here s)) e) comes
