-- What each action asks of a state, so that what is guarded stays; and rows of such actions.
use Rattle.std.proofs.Common.{◌≡◌, ℕ, Bool, true, false, List, [], ◌∷◌, None, Some, codes}
use Rattle.html_tree_state.specs.Formatting.{name_for}
use Rattle.tree_names.specs.Wanted.{one}
use Rattle.page_tree_laws.proofs.Guards.{Guard, HasFree, HasFreeCurrent, IsAboveBase, IsFree, IsGuarded, MayPop}
use Rattle.page_tree_laws.proofs.Guards.{StopsAbove, StopsAtBase, is_barred, is_of_templates}
use Rattle.tree_names.specs.Groups.{tag_group}
use Rattle.tree_names.specs.declared.group.TagGroup.{TagGroup}
use Rattle.tree_names.specs.declared.group.TagGroup.TheVariants as groups
use Rattle.rules_table.specs.Actions.{Action, act, add_attributes, adopt, adopt_in_scope, append_doctype, break_out}
use Rattle.rules_table.specs.Actions.{but_text, clear_to_marker, close_foreign, close_item, close_other, close_p}
use Rattle.rules_table.specs.Actions.{comment_to_document, comment_to_root, forget_form, forget_pending, foster}
use Rattle.rules_table.specs.Actions.{go_back, go_to, hold_mode, imply_but, in_html, insert, insert_comment}
use Rattle.rules_table.specs.Actions.{insert_foreign, insert_formatting, insert_named, insert_void, is_of_text, is_text}
use Rattle.rules_table.specs.Actions.{keep_form, keep_head, keep_pending, later_modes, out_of_text, pop, pop_down_to}
use Rattle.rules_table.specs.Actions.{pop_if, pop_template_mode, pop_to, push_template_mode, put_marker, reconstruct}
use Rattle.rules_table.specs.Actions.{refuse_frameset, reset, say, set_quirks, skip_next_line_feed, take_off, take_out}
use Rattle.rules_table.specs.Actions.{unlist}
use Rattle.rules_table.specs.Asking.{has_template, in_scope}
use Rattle.rules_table.specs.Rows.{Row, TextRow, again, asks, done, dropped, kept, said_after, then_again}
use Rattle.rules_table.specs.State.{Ask, State, TreeToken, encoding, end_of_file, finish, nothing, plaintext, raw}
use Rattle.rules_table.specs.State.{script}
use Rattle.rules_table.specs.declared.target.Target.TheVariants as targets
use Rattle.tree_predicates.specs.declared.modes.InsertionMode.{InsertionMode}
use Rattle.tree_predicates.specs.declared.modes.InsertionMode.TheVariants as modes

-- the modes of open templates are such
abbrev pub AreLater : List InsertionMode → Type 0
AreLater [] = Unit {0}
AreLater (mode ∷ more) = (is_of_templates mode ≡ true) × AreLater more

-- A state whose tree is guarded: the head is known, the form pointer free, and the modes may stand, "text" aside; so
-- may
-- the one that a mode of text goes back to.
pub record IsHeld (g : Guard) (s : State) : Type 0 where
  pub tree : IsGuarded g s.tree
  pub head : s.head ≡ Some g.head
  pub form : (n : ℕ) → s.form ≡ Some n → IsFree g n
  pub page : s.context ≡ None
  pub mode : is_text s.mode ≡ false → g.allows s.mode ≡ true
  pub original : is_of_text s.mode ≡ true → g.allows (out_of_text s.original) ≡ true
  pub templates : AreLater s.template_modes

-- the mode may be set by the open elements: where the topmost guarded element is a template, its mode is known
abbrev pub MayReset : Guard → List InsertionMode → Type 0
MayReset g known = (g.resets ≡ true) × (g.is_open ≡ false → ¬ (known ≡ []))

-- a mode is gone to: to a mode of text only where what it goes back to may stand
abbrev pub GoesTo : Guard → (is_of_text : Bool) → InsertionMode → State → Type 0
GoesTo g false mode s = g.allows (but_text mode) ≡ true
GoesTo g true mode s = (g.allows (but_text mode) ≡ true) × (g.allows (out_of_text s.original) ≡ true)

-- a template has a mode of templates
abbrev pub IsPushed : Guard → (is_of_templates : Bool) → InsertionMode → Type 0
IsPushed g true mode = g.allows mode ≡ true
IsPushed g false mode = ⊥

abbrev pub Fits : Guard → Action → State → Type 0
Fits g (insert targets.AtPlace tag) s = is_barred g (name_for tag) ≡ false
Fits g (insert targets.IntoHead tag) s = is_barred g (name_for tag) ≡ false
Fits g (insert_void targets.AtPlace tag) s = Unit {0}
Fits g (insert_void targets.IntoHead tag) s = Unit {0}
Fits g (insert_named name) s = is_barred g (in_html name) ≡ false
Fits g (insert_foreign ns tag) s = is_barred g (record { ns = ns; local = tag.name }) ≡ false
Fits g (insert_comment cs) s = Unit {0}
Fits g (comment_to_document cs) s = Unit {0}
Fits g (comment_to_root cs) s = Unit {0}
Fits g (append_doctype doctype) s = Unit {0}
Fits g (set_quirks mode) s = Unit {0}
Fits g (say cs) s = Unit {0}
Fits g (add_attributes n attributes) s = Unit {0}
Fits g (take_out n) s = IsFree g n
Fits g (foster is_on) s = g.fosters ≡ false → is_on ≡ false
Fits g pop s = MayPop g s.tree.stack
Fits g (pop_if set) s = IsAboveBase g set
Fits g (pop_to set) s = HasFree g set s.tree.forest s.tree.stack
Fits g (pop_down_to set) s = StopsAtBase g set
Fits g (take_off n) s = IsFree g n
Fits g (imply_but set) s = Unit {0}
Fits g close_p s = Unit {0}
Fits g (close_item set) s = IsAboveBase g set
Fits g (close_other name) s = StopsAbove g name
Fits g break_out s = Unit {0}
Fits g (close_foreign name) s = Unit {0}
Fits g (insert_formatting tag) s = is_barred g (name_for tag) ≡ false
Fits g reconstruct s = Unit {0}
Fits g put_marker s = Unit {0}
Fits g clear_to_marker s = Unit {0}
Fits g (unlist n) s = Unit {0}
Fits g (adopt name) s = StopsAbove g name
Fits g (adopt_in_scope name) s = StopsAbove g name
Fits g (go_to mode) s = GoesTo g (is_of_text mode) mode s
Fits g hold_mode s = is_text s.mode ≡ false
Fits g go_back s = is_of_text s.mode ≡ true
Fits g (push_template_mode mode) s = IsPushed g (is_of_templates mode) mode
Fits g pop_template_mode s = Unit {0}
Fits g reset s = MayReset g s.template_modes
Fits g keep_head s = ⊥
Fits g keep_form s = HasFreeCurrent g s.tree.stack
Fits g forget_form s = Unit {0}
Fits g refuse_frameset s = Unit {0}
Fits g skip_next_line_feed s = Unit {0}
Fits g (keep_pending c) s = Unit {0}
Fits g forget_pending s = Unit {0}

-- one after the other, each where the earlier ones were done
abbrev pub FitAll : Guard → List Action → State → Type 0
FitAll g [] s = Unit {0}
FitAll g (action ∷ more) s = Fits g action s × FitAll g more (act action s)

-- Whether the element that was inserted last is the current node after some actions: what asks for an element's text
-- ends so.
abbrev pub opens_by : Bool → Action → Bool
opens_by is_new (insert at tag) = true
opens_by is_new (foster is_on) = is_new
opens_by is_new refuse_frameset = is_new
opens_by is_new skip_next_line_feed = is_new
opens_by is_new _ = false

abbrev pub opens : Bool → List Action → Bool
opens is_new [] = is_new
opens is_new (action ∷ more) = opens (opens_by is_new action) more

abbrev pub OpensFor : Ask → List Action → Type 0
OpensFor nothing actions = Unit {0}
OpensFor plaintext actions = Unit {0}
OpensFor (raw kind) actions = opens false actions ≡ true
OpensFor (script n) actions = Unit {0}
OpensFor (encoding name) actions = Unit {0}

abbrev pub FitsRow : Guard → State → Row → Type 0
FitsRow g s (done actions) = FitAll g actions s
FitsRow g s (asks ask actions) = FitAll g actions s × OpensFor ask actions
FitsRow g s (again actions) = FitAll g actions s

-- rows of text: what is said follows
abbrev pub FitsText : Guard → State → TextRow → Type 0
FitsText g s dropped = Unit {0}
FitsText g s (said_after actions) = FitAll g actions s
FitsText g s kept = Unit {0}
FitsText g s (then_again actions) = FitAll g actions s

-- What holds where the rules of the body and of tables take a mark. The modes of tables and templates may stand;
pub record HasTables (g : Guard) : Type 0 where
  pub fosters : g.fosters ≡ true
  pub in_body : g.allows modes.InBody ≡ true
  pub in_table : g.allows modes.InTable ≡ true
  pub in_table_text : g.allows modes.InTableText ≡ true
  pub in_caption : g.allows modes.InCaption ≡ true
  pub in_column_group : g.allows modes.InColumnGroup ≡ true
  pub in_table_body : g.allows modes.InTableBody ≡ true
  pub in_row : g.allows modes.InRow ≡ true
  pub in_cell : g.allows modes.InCell ≡ true
  pub in_template : g.allows modes.InTemplate ≡ true

-- the body may go on, and a body that is in scope may end;
pub record CanGoOn (g : Guard) (s : State) : Type 0 where
  pub held : IsHeld g s
  pub in_body : g.allows modes.InBody ≡ true
  pub ends : in_scope (one (codes "body")) s ≡ true → g.allows modes.AfterBody ≡ true

-- and no frameset may come
pub record CanBuild (g : Guard) (s : State) : Type 0 where
  pub goes_on : CanGoOn g s
  pub tables : HasTables g
  pub resets : MayReset g s.template_modes
  pub unframed : s.frameset_ok ≡ false

-- What closes a template asks that, where one is open, a free one is, and that the mode may be set by the open elements
-- then;
abbrev pub ClosesTemplate : Guard → State → Type 0
ClosesTemplate g s = has_template s ≡ true →
    HasFree g (one (codes "template")) s.tree.forest s.tree.stack × MayReset g (later_modes s.template_modes)

-- of end tags only that of a template closes one;
abbrev pub Closes : Guard → State → TagGroup → Type 0
Closes g s groups.Template = ClosesTemplate g s
Closes g s _ = Unit {0}

-- and so does the end of the page.
abbrev pub ClosesMark : Guard → State → TreeToken → Type 0
ClosesMark g s (finish t) = Closes g s (tag_group t.name)
ClosesMark g s end_of_file = ClosesTemplate g s
ClosesMark g s _ = Unit {0}
