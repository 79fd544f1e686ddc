-- What rows that fit make of a held state: the element whose text is asked for is the current node, and free.
use Rattle.std.proofs.Common.{◌≡◌, ◌<◌, [], ◌∷◌, ◌∙◌, Bool, List, None, Option, Some, arith, false, refl, sym, true, ℕ}
use Rattle.tree_forest.specs.Forest.{nodes}
use Rattle.html_tree_state.specs.Building.{Building}
use Rattle.page_tree_laws.proofs.Acting.{ResetsWell, act_held, all_held}
use Rattle.page_tree_laws.proofs.Fits.{FitAll, FitsRow, IsHeld, OpensFor, opens, opens_by}
use Rattle.page_tree_laws.proofs.Guards.{Guard, HasFreeCurrent, IsFree, IsGuard, IsGuarded}
use Rattle.rules_table.specs.Actions.{Action, act, act_all, but_text, foster, go_back, go_to, insert, insert_void}
use Rattle.rules_table.specs.Actions.{inserted_into, is_text, mode_by_elements, out_of_text, refuse_frameset, reset}
use Rattle.rules_table.specs.Actions.{skip_next_line_feed}
use Rattle.rules_table.specs.Rows.{Row, again, asks, done}
use Rattle.rules_table.specs.Settling.{entered}
use Rattle.rules_table.specs.State.{Ask, State, encoding, nothing, plaintext, raw, script}
use Rattle.rules_table.specs.declared.target.Target.TheVariants as targets
use Rattle.tree_predicates.specs.declared.modes.InsertionMode.{InsertionMode}
use Rattle.tree_predicates.specs.declared.modes.InsertionMode.TheVariants as modes

-- a held state, in which the current node of the mode "text" is free
pub record IsSteady (g : Guard) (s : State) : Type 0 where
  pub held : IsHeld g s
  pub current : is_text s.mode ≡ true → HasFreeCurrent g s.tree.stack

pub never_text : (mode : InsertionMode) → is_text (but_text mode) ≡ false
never_text modes.Text = refl
never_text modes.Initial = refl
never_text mode = refl

pub left_text : (mode : InsertionMode) → is_text (out_of_text mode) ≡ false
left_text modes.Text = refl
left_text modes.InTableText = refl
left_text mode = refl

-- no action leads into the mode "text"
pub act_apart : (action : Action) (s : State) → is_text s.mode ≡ false → is_text (act action s).mode ≡ false
unfolding act
act_apart (insert targets.AtPlace tag) s e = e
act_apart (insert targets.IntoHead tag) s e = e
act_apart (insert_void targets.AtPlace tag) s e = e
act_apart (insert_void targets.IntoHead tag) s e = e
act_apart (go_to mode) s e = never_text mode
act_apart go_back s e = left_text s.original
act_apart reset s e = never_text (mode_by_elements s)
act_apart action s e = e

pub all_apart : (actions : List Action) (s : State) → is_text s.mode ≡ false → is_text (act_all actions s).mode ≡ false
all_apart [] s e = e
all_apart (action ∷ more) s e = all_apart more (act action s) (act_apart action s e)

-- a frameset that is refused stays refused
pub act_refused : (action : Action) (s : State) → s.frameset_ok ≡ false → (act action s).frameset_ok ≡ false
unfolding act
act_refused (insert targets.AtPlace tag) s e = e
act_refused (insert targets.IntoHead tag) s e = e
act_refused (insert_void targets.AtPlace tag) s e = e
act_refused (insert_void targets.IntoHead tag) s e = e
act_refused refuse_frameset s e = refl
act_refused action s e = e

pub all_refused : (actions : List Action) (s : State) → s.frameset_ok ≡ false →
    (act_all actions s).frameset_ok ≡ false
all_refused [] s e = e
all_refused (action ∷ more) s e = all_refused more (act action s) (act_refused action s e)

-- a new node is free
pub new_free : (g : Guard) (b : Building) → IsGuarded g b → IsFree g (nodes b.forest)
new_free g b tree i = below_itself (nodes b.forest) (tree.nodes.held (nodes b.forest) i) where
  below_itself : (n : ℕ) → n < n → ⊥
  below_itself n h = omega (arith, h)

none : {A : Type 0} → false ≡ true → A
none e = absurd (cc)

module _ (g : Guard) (is : IsGuard g) (resets : ResetsWell g) where
  -- what was inserted last is the current node
  opened : (is_new : Bool) (action : Action) (s : State) → IsHeld g s →
      (is_new ≡ true → HasFreeCurrent g s.tree.stack) → opens_by is_new action ≡ true →
      HasFreeCurrent g (act action s).tree.stack
  unfolding act
  opened is_new (insert targets.AtPlace tag) s held before e = new_free g s.tree held.tree
  opened is_new (insert targets.IntoHead tag) s held before e = into s.head s.tree (new_free g s.tree held.tree) where
    into : (known : Option ℕ) (b : Building) → IsFree g (nodes b.forest) →
        HasFreeCurrent g (inserted_into known tag b).stack
    into None b free = free
    into (Some n) b free = free
  opened is_new (foster is_on) s held before e = before e
  opened is_new refuse_frameset s held before e = before e
  opened is_new skip_next_line_feed s held before e = before e
  opened is_new (insert_void targets.AtPlace tag) s held before e = none e
  opened is_new (insert_void targets.IntoHead tag) s held before e = none e
  opened is_new action s held before e = none e

  all_opened : (is_new : Bool) (actions : List Action) (s : State) → FitAll g actions s → IsHeld g s →
      (is_new ≡ true → HasFreeCurrent g s.tree.stack) → opens is_new actions ≡ true →
      HasFreeCurrent g (act_all actions s).tree.stack
  all_opened is_new [] s fit held before e = before e
  all_opened is_new (action ∷ more) s fit held before e =
      all_opened (opens_by is_new action) more (act action s) fit.1 (act_held g is resets action s fit.0 held)
      (opened is_new action s held before) e

  steady_by : (s : State) → IsHeld g s → is_text s.mode ≡ false → IsSteady g s
  steady_by s held apart =
      record { held = held; current = λ e. absurd (let k : true ≡ false = sym e ∙ apart in cc) }

  pub all_steady : (actions : List Action) (s : State) → FitAll g actions s → IsHeld g s → is_text s.mode ≡ false →
      IsSteady g (act_all actions s)
  all_steady actions s fit held apart = steady_by (act_all actions s) (all_held g is resets actions s fit held)
      (all_apart actions s apart)

  entered_steady : (ask : Ask) (actions : List Action) (s : State) → FitAll g actions s → OpensFor ask actions →
      IsHeld g s → is_text s.mode ≡ false → IsSteady g (entered ask (act_all actions s))
  entered_steady nothing actions s fit ends held apart = all_steady actions s fit held apart
  entered_steady plaintext actions s fit ends held apart = all_steady actions s fit held apart
  entered_steady (script n) actions s fit ends held apart = all_steady actions s fit held apart
  entered_steady (encoding name) actions s fit ends held apart = all_steady actions s fit held apart
  entered_steady (raw kind) actions s fit ends held apart =
      let t = act_all actions s in
      let now : IsHeld g t = all_held g is resets actions s fit held in
      record {
        held = record {
          tree = now.tree;
          head = now.head;
          form = now.form;
          page = now.page;
          mode = λ e. absurd (let k : true ≡ false = e in cc);
          original = λ e. is.text_left t.mode (now.mode (all_apart actions s apart));
          templates = now.templates;
        };
        current = λ e. all_opened false actions s fit held (λ h. none h) ends;
      }

  -- a row that fits, outside the mode "text"
  abbrev pub Keeps : State → Row → Type 0
  Keeps s (done actions) = IsSteady g (act_all actions s)
  Keeps s (asks ask actions) = IsSteady g (entered ask (act_all actions s))
  Keeps s (again actions) = IsSteady g (act_all actions s)

  pub row_keeps : (r : Row) (s : State) → FitsRow g s r → IsHeld g s → is_text s.mode ≡ false → Keeps s r
  row_keeps (done actions) s fits held apart = all_steady actions s fits held apart
  row_keeps (asks ask actions) s fits held apart = entered_steady ask actions s fits.0 fits.1 held apart
  row_keeps (again actions) s fits held apart = all_steady actions s fits held apart
