-- Actions that fit keep a guarded state held.
use Rattle.std.proofs.Common.{◌≡◌, ℕ, Bool, true, false, List, [], ◌∷◌, Option, None, Some, refl, sym, ap, subst, ◌∙◌}
use Rattle.tree_forest.specs.Places.{below}
use Rattle.html_tree_state.specs.Building.{Building}
use Rattle.html_tree_state.specs.Formatting.{name_for}
use Rattle.html_tree_state.specs.Insertions.{here, root_of}
use Rattle.html_tree_state.specs.OpenElements.{first_of}
use Rattle.page_tree_laws.proofs.Fits.{AreLater, FitAll, Fits, GoesTo, IsHeld, IsPushed, MayReset}
use Rattle.page_tree_laws.proofs.Guards.{Guard, HasFreeCurrent, IsFree, IsGuard, IsGuarded, is_of_templates}
use Rattle.page_tree_laws.proofs.GuardedAdoption.{adopted_in_scope_guarded, adoption_guarded}
use Rattle.page_tree_laws.proofs.GuardedLists.{cleared_guarded, listed_guarded, marked_guarded, reconstructed_guarded}
use Rattle.page_tree_laws.proofs.GuardedLists.{unlisted_guarded}
use Rattle.page_tree_laws.proofs.GuardedPops.{broken_out_guarded, closed_foreign_guarded, closed_item_guarded}
use Rattle.page_tree_laws.proofs.GuardedPops.{closed_other_guarded, closed_p_guarded, implied_guarded}
use Rattle.page_tree_laws.proofs.GuardedPops.{popped_down_guarded, popped_guarded, popped_if_guarded, popped_to_guarded}
use Rattle.page_tree_laws.proofs.GuardedPops.{taken_off_guarded}
use Rattle.page_tree_laws.proofs.GuardedWords.{attributes_guarded, comment_guarded, doctype_guarded, foreign_guarded}
use Rattle.page_tree_laws.proofs.GuardedWords.{foster_guarded, inserted_guarded, into_head_guarded}
use Rattle.page_tree_laws.proofs.GuardedWords.{out_of_place_guarded, quirks_guarded, said_guarded, void_guarded}
use Rattle.page_tree_laws.proofs.GuardedWords.{void_into_head_guarded}
use Rattle.rules_table.specs.Actions.{Action, act, act_all, add_attributes, adopt, adopt_in_scope, append_doctype}
use Rattle.rules_table.specs.Actions.{break_out, but_text, clear_to_marker, close_foreign, close_item, close_other}
use Rattle.rules_table.specs.Actions.{close_p, comment_to_document, comment_to_root, forget_form, forget_pending}
use Rattle.rules_table.specs.Actions.{foster, go_back, go_to, hold_mode, imply_but, in_html, insert, insert_comment}
use Rattle.rules_table.specs.Actions.{insert_foreign, insert_formatting, insert_named, insert_void, inserted_into}
use Rattle.rules_table.specs.Actions.{inserted_void_into, is_of_text, is_text, keep_form, keep_head, keep_pending}
use Rattle.rules_table.specs.Actions.{later_modes, mode_by_elements, out_of_text, pop, pop_down_to, pop_if}
use Rattle.rules_table.specs.Actions.{pop_template_mode, pop_to, push_template_mode, put_marker, reconstruct}
use Rattle.rules_table.specs.Actions.{refuse_frameset, reset, say, set_quirks, skip_next_line_feed, take_off, take_out}
use Rattle.rules_table.specs.Actions.{unlist, with_tree}
use Rattle.rules_table.specs.State.{State}
use Rattle.rules_table.specs.declared.target.Target.TheVariants as targets
use Rattle.tree_predicates.specs.declared.modes.InsertionMode.{InsertionMode}
use Rattle.tree_predicates.specs.declared.modes.InsertionMode.TheVariants as modes

-- the mode that the open elements ask for may stand, where it is set by them
abbrev pub ResetsWell : Guard → Type 0
ResetsWell g = (s : State) → IsHeld g s → MayReset g s.template_modes →
    (g.allows (but_text (mode_by_elements s)) ≡ true) × (is_of_text (but_text (mode_by_elements s)) ≡ false)

-- a word on the tree alone
tree_held : (g : Guard) (s : State) (b : Building) → IsHeld g s → IsGuarded g b → IsHeld g (with_tree (λ k. b) s)
tree_held g s b held tree = record {
  tree = tree;
  head = held.head;
  form = held.form;
  page = held.page;
  mode = held.mode;
  original = held.original;
  templates = held.templates;
}

mode_held : (g : Guard) (s : State) (mode : InsertionMode) → IsHeld g s → g.allows mode ≡ true →
    (is_of_text mode ≡ true → g.allows (out_of_text s.original) ≡ true) → IsHeld g (record s { mode = mode })
mode_held g s mode held allowed back = record {
  tree = held.tree;
  head = held.head;
  form = held.form;
  page = held.page;
  mode = λ e. allowed;
  original = back;
  templates = held.templates;
}

-- where a mode that is gone to is one of text
goes_to : (g : Guard) (b : Bool) (mode : InsertionMode) (s : State) → GoesTo g b mode s →
    g.allows (but_text mode) ≡ true
goes_to g false mode s goes = goes
goes_to g true mode s goes = goes.0

goes_back : (g : Guard) (mode : InsertionMode) (s : State) → GoesTo g (is_of_text mode) mode s →
    is_of_text (but_text mode) ≡ true → g.allows (out_of_text s.original) ≡ true
goes_back g modes.InTableText s goes e = goes.1
goes_back g modes.Text s goes e = absurd (let k : false ≡ true = e in cc)
goes_back g mode s goes e = absurd (let k : false ≡ true = e in cc)

no_text_left : (mode : InsertionMode) → is_of_text (out_of_text mode) ≡ false
no_text_left modes.Text = refl
no_text_left modes.InTableText = refl
no_text_left mode = refl

never : {A : Type 0} (b : Bool) → b ≡ false → b ≡ true → A
never b e h = absurd (let k : true ≡ false = sym h ∙ e in cc)

is_pushed : (g : Guard) (b : Bool) (mode : InsertionMode) → is_of_templates mode ≡ b → IsPushed g b mode →
    is_of_templates mode ≡ true
is_pushed g true mode e pushed = e
is_pushed g false mode e pushed = absurd pushed

original_held : (g : Guard) (s : State) (mode : InsertionMode) → IsHeld g s → g.allows (out_of_text mode) ≡ true →
    IsHeld g (record s { original = mode })
original_held g s mode held allowed = record {
  tree = held.tree;
  head = held.head;
  form = held.form;
  page = held.page;
  mode = held.mode;
  original = λ e. allowed;
  templates = held.templates;
}

templates_held : (g : Guard) (s : State) (known : List InsertionMode) → IsHeld g s →
    AreLater known → IsHeld g (record s { template_modes = known })
templates_held g s known held are = record {
  tree = held.tree;
  head = held.head;
  form = held.form;
  page = held.page;
  mode = held.mode;
  original = held.original;
  templates = are;
}

form_held : (g : Guard) (s : State) (form : Option ℕ) → IsHeld g s → ((n : ℕ) → form ≡ Some n → IsFree g n) →
    IsHeld g (record s { form = form })
form_held g s form held free = record {
  tree = held.tree;
  head = held.head;
  form = free;
  page = held.page;
  mode = held.mode;
  original = held.original;
  templates = held.templates;
}

-- what is none of these
pub flags_held : (g : Guard) (s t : State) → IsHeld g s → t.tree ≡ s.tree → t.head ≡ s.head → t.form ≡ s.form →
    t.context ≡ s.context → t.mode ≡ s.mode → t.original ≡ s.original → t.template_modes ≡ s.template_modes → IsHeld g t
flags_held g s t held tree head form context mode original templates = record {
  tree = subst (IsGuarded g) (sym tree) held.tree;
  head = head ∙ held.head;
  form = λ n e. held.form n (sym form ∙ e);
  page = context ∙ held.page;
  mode = λ e. ap g.allows mode ∙ held.mode (ap is_text (sym mode) ∙ e);
  original = λ e. ap (λ m. g.allows (out_of_text m)) original ∙ held.original (ap is_of_text (sym mode) ∙ e);
  templates = subst AreLater (sym templates) held.templates;
}

still_later : (known : List InsertionMode) → AreLater known → AreLater (later_modes known)
still_later [] are = are
still_later (mode ∷ more) are = are.1

current_free : (g : Guard) (ns : List ℕ) → HasFreeCurrent g ns → (n : ℕ) → first_of ns ≡ Some n → IsFree g n
current_free g [] free n e = absurd free
current_free g (m ∷ ms) free n e = let same : m ≡ n = cc in subst (IsFree g) same free

known_head : (g : Guard) (tag : _) (b : Building) (known : Option ℕ) → known ≡ Some g.head →
    IsGuarded g (inserted_into (Some g.head) tag b) → IsGuarded g (inserted_into known tag b)
known_head g tag b known e is = subst (λ k. IsGuarded g (inserted_into k tag b)) (sym e) is

void_known_head : (g : Guard) (tag : _) (b : Building) (known : Option ℕ) → known ≡ Some g.head →
    IsGuarded g (inserted_void_into (Some g.head) tag b) → IsGuarded g (inserted_void_into known tag b)
void_known_head g tag b known e is = subst (λ k. IsGuarded g (inserted_void_into k tag b)) (sym e) is

module _ (g : Guard) (is : IsGuard g) (resets : ResetsWell g) where
  pub act_held : (action : Action) (s : State) → Fits g action s → IsHeld g s → IsHeld g (act action s)
  unfolding act
  act_held (insert targets.AtPlace tag) s fits held =
      tree_held g s _ held (inserted_guarded (name_for tag) tag.attrs g s.tree is held.tree fits)
  act_held (insert targets.IntoHead tag) s fits held =
      tree_held g s _ held (known_head g tag s.tree s.head held.head (into_head_guarded tag g s.tree is held.tree fits))
  act_held (insert_void targets.AtPlace tag) s fits held =
      tree_held g s _ held (void_guarded (name_for tag) tag.attrs g s.tree is held.tree)
  act_held (insert_void targets.IntoHead tag) s fits held =
      tree_held g s _ held (void_known_head g tag s.tree s.head held.head (void_into_head_guarded tag g s.tree is
      held.tree))
  act_held (insert_named name) s fits held =
      tree_held g s _ held (inserted_guarded (in_html name) [] g s.tree is held.tree fits)
  act_held (insert_foreign ns tag) s fits held =
      tree_held g s _ held (foreign_guarded ns tag g s.tree is held.tree fits)
  act_held (insert_comment cs) s fits held =
      tree_held g s _ held (comment_guarded (here s.tree) cs g s.tree is held.tree)
  act_held (comment_to_document cs) s fits held =
      tree_held g s _ held (comment_guarded (below 0) cs g s.tree is held.tree)
  act_held (comment_to_root cs) s fits held =
      tree_held g s _ held (comment_guarded (below (root_of s.tree.stack)) cs g s.tree is held.tree)
  act_held (append_doctype doctype) s fits held = tree_held g s _ held (doctype_guarded doctype g s.tree is held.tree)
  act_held (set_quirks mode) s fits held =
      flags_held g (with_tree (λ b. record b { quirks = mode }) s) _
      (tree_held g s _ held (quirks_guarded mode g s.tree is held.tree)) refl refl refl refl refl refl refl
  act_held (say cs) s fits held = tree_held g s _ held (said_guarded cs g s.tree is held.tree)
  act_held (add_attributes n attributes) s fits held =
      tree_held g s _ held (attributes_guarded n attributes g s.tree is held.tree)
  act_held (take_out n) s fits held = tree_held g s _ held (out_of_place_guarded n g s.tree is held.tree fits)
  act_held (foster is_on) s fits held = tree_held g s _ held (foster_guarded is_on g s.tree is held.tree fits)
  act_held pop s fits held = tree_held g s _ held (popped_guarded g s.tree is held.tree fits)
  act_held (pop_if set) s fits held = tree_held g s _ held (popped_if_guarded set g s.tree is held.tree fits)
  act_held (pop_to set) s fits held = tree_held g s _ held (popped_to_guarded set g s.tree is held.tree fits)
  act_held (pop_down_to set) s fits held = tree_held g s _ held (popped_down_guarded set g s.tree is held.tree fits)
  act_held (take_off n) s fits held = tree_held g s _ held (taken_off_guarded n g s.tree is held.tree fits)
  act_held (imply_but set) s fits held = tree_held g s _ held (implied_guarded set g s.tree is held.tree)
  act_held close_p s fits held = tree_held g s _ held (closed_p_guarded g s.tree is held.tree)
  act_held (close_item set) s fits held = tree_held g s _ held (closed_item_guarded set g s.tree is held.tree fits)
  act_held (close_other name) s fits held = tree_held g s _ held (closed_other_guarded name g s.tree is held.tree fits)
  act_held break_out s fits held = tree_held g s _ held (broken_out_guarded g s.tree is held.tree)
  act_held (close_foreign name) s fits held = tree_held g s _ held (closed_foreign_guarded name g s.tree is held.tree)
  act_held (insert_formatting tag) s fits held = tree_held g s _ held (listed_guarded tag g s.tree is held.tree fits)
  act_held reconstruct s fits held = tree_held g s _ held (reconstructed_guarded g s.tree is held.tree)
  act_held put_marker s fits held = tree_held g s _ held (marked_guarded g s.tree is held.tree)
  act_held clear_to_marker s fits held = tree_held g s _ held (cleared_guarded g s.tree is held.tree)
  act_held (unlist n) s fits held = tree_held g s _ held (unlisted_guarded n g s.tree is held.tree)
  act_held (adopt name) s fits held = tree_held g s _ held (adoption_guarded name g s.tree is held.tree fits)
  act_held (adopt_in_scope name) s fits held =
      tree_held g s _ held (adopted_in_scope_guarded name g s.tree is held.tree fits)
  act_held (go_to mode) s fits held =
      mode_held g s (but_text mode) held (goes_to g (is_of_text mode) mode s fits) (goes_back g mode s fits)
  act_held hold_mode s fits held = original_held g s s.mode held (is.text_left s.mode (held.mode fits))
  act_held go_back s fits held = mode_held g s (out_of_text s.original) held (held.original fits)
      (λ e. never (is_of_text (out_of_text s.original)) (no_text_left s.original) e)
  act_held (push_template_mode mode) s fits held =
      templates_held g s (mode ∷ s.template_modes) held
      (is_pushed g (is_of_templates mode) mode refl fits, held.templates)
  act_held pop_template_mode s fits held =
      templates_held g s (later_modes s.template_modes) held
      (still_later s.template_modes held.templates)
  act_held reset s fits held = mode_held g s (but_text (mode_by_elements s)) held (resets s held fits).0
      (λ e. never (is_of_text (but_text (mode_by_elements s))) (resets s held fits).1 e)
  act_held keep_head s fits held = absurd fits
  act_held keep_form s fits held = form_held g s (first_of s.tree.stack) held (current_free g s.tree.stack fits)
  act_held forget_form s fits held = form_held g s None held (λ n e. absurd (let k : None ≡ Some n = e in cc))
  act_held refuse_frameset s fits held = flags_held g s _ held refl refl refl refl refl refl refl
  act_held skip_next_line_feed s fits held = flags_held g s _ held refl refl refl refl refl refl refl
  act_held (keep_pending c) s fits held = flags_held g s _ held refl refl refl refl refl refl refl
  act_held forget_pending s fits held = flags_held g s _ held refl refl refl refl refl refl refl

  pub all_held : (actions : List Action) (s : State) → FitAll g actions s → IsHeld g s → IsHeld g (act_all actions s)
  all_held [] s fit held = held
  all_held (action ∷ more) s fit held = all_held more (act action s) fit.1 (act_held action s fit.0 held)
