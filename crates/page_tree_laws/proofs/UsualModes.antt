-- Modes in which no text is dropped or kept back, and actions that lead from such a mode to such a mode.
use Rattle.std.proofs.Common.{◌≡◌, ◌&&◌, ◌||◌, if◌then◌else◌, [], ◌∷◌, ◌∙◌, ◌+◌, Bool, List, None, Option, Some, ap}
use Rattle.std.proofs.Common.{arith, bytes_eq, codes, false, inl, inr, map, not, option_map, refl, sym, true, ℕ}
use Rattle.tree_forest.specs.Forest.{Forest, name_of}
use Rattle.html_lexemes.specs.declared.names.Namespace.{Namespace}
use Rattle.html_lexemes.specs.declared.names.Namespace.TheVariants.{Html, MathMl, Other, Svg}
use Rattle.html_lexemes.specs.declared.names.QualName.{QualName}
use Rattle.html_tree_state.specs.Formatting.{name_for}
use Rattle.tree_names.specs.ElementSets.{table_cells, table_sections}
use Rattle.tree_names.specs.Sets.{is_element_of, is_html}
use Rattle.rules_table.specs.Actions.{Action, act, act_all, but_text, first_mode, forget_pending, go_back, go_to}
use Rattle.rules_table.specs.Actions.{hold_mode, in_html, insert, insert_foreign, insert_formatting, insert_named}
use Rattle.rules_table.specs.Actions.{insert_void, is_known, keep_pending, mode_by_elements, out_of_text, reset, say}
use Rattle.rules_table.specs.State.{State}
use Rattle.rules_table.specs.declared.target.Target.TheVariants as targets
use Rattle.tree_predicates.specs.Modes.{first_case, mode_above, or_else, own_mode, reset_mode, root_mode}
use Rattle.tree_predicates.specs.declared.modes.InsertionMode.{InsertionMode}
use Rattle.tree_predicates.specs.declared.modes.InsertionMode.TheVariants as modes
use Rattle.page_tree_laws.proofs.CleanLists.{is_barred}
use Rattle.page_tree_laws.proofs.CleanWords.{AreFree, IsClean}
use Rattle.page_tree_laws.proofs.SpokenActions.{IsNamed, act_spoken, said_by}
use Rattle.page_tree_laws.specs.KeptText.{how_often, in_texts}

abbrev pub is_usual : InsertionMode → Bool
is_usual modes.InTableText = false
is_usual modes.InColumnGroup = false
is_usual modes.InTemplate = false
is_usual modes.InFrameset = false
is_usual modes.AfterFrameset = false
is_usual modes.AfterAfterFrameset = false
is_usual _ = true

pub but_text_usual : (mode : InsertionMode) → is_usual mode ≡ true → is_usual (but_text mode) ≡ true
but_text_usual modes.Text is = refl
but_text_usual mode is = is

pub out_usual : (mode : InsertionMode) → is_usual mode ≡ true → is_usual (out_of_text mode) ≡ true
out_usual modes.Text is = refl
out_usual modes.InTableText is = refl
out_usual mode is = is

-- a barred name is none of its words
none_first : (x y z : Bool) → (x || (y || (z || false))) ≡ false → (x || false) ≡ false
none_first true y z e = e
none_first false y z e = refl

none_second : (x y z : Bool) → (x || (y || (z || false))) ≡ false → (y || false) ≡ false
none_second true y z e = absurd (let k : true ≡ false = e in cc)
none_second false true z e = e
none_second false false z e = refl

none_third : (x y z : Bool) → (x || (y || (z || false))) ≡ false → (z || false) ≡ false
none_third true y z e = absurd (let k : true ≡ false = e in cc)
none_third false true z e = absurd (let k : true ≡ false = e in cc)
none_third false false z e = e

template_by : (ns : Namespace) (local : List ℕ) → is_barred (record { ns = ns; local = local }) ≡ false →
    is_html (codes "template") (record { ns = ns; local = local }) ≡ false
template_by Html local e = none_first (bytes_eq local (codes "template")) (bytes_eq local (codes "frameset"))
    (bytes_eq local (codes "colgroup")) e
template_by MathMl local e = refl
template_by Svg local e = refl
template_by (Other text) local e = refl

frameset_by : (ns : Namespace) (local : List ℕ) → is_barred (record { ns = ns; local = local }) ≡ false →
    is_html (codes "frameset") (record { ns = ns; local = local }) ≡ false
frameset_by Html local e = none_second (bytes_eq local (codes "template")) (bytes_eq local (codes "frameset"))
    (bytes_eq local (codes "colgroup")) e
frameset_by MathMl local e = refl
frameset_by Svg local e = refl
frameset_by (Other text) local e = refl

colgroup_by : (ns : Namespace) (local : List ℕ) → is_barred (record { ns = ns; local = local }) ≡ false →
    is_html (codes "colgroup") (record { ns = ns; local = local }) ≡ false
colgroup_by Html local e = none_third (bytes_eq local (codes "template")) (bytes_eq local (codes "frameset"))
    (bytes_eq local (codes "colgroup")) e
colgroup_by MathMl local e = refl
colgroup_by Svg local e = refl
colgroup_by (Other text) local e = refl

pub no_template : (name : QualName) → is_barred name ≡ false → is_html (codes "template") name ≡ false
no_template name e = template_by name.ns name.local e

pub no_frameset : (name : QualName) → is_barred name ≡ false → is_html (codes "frameset") name ≡ false
no_frameset name e = frameset_by name.ns name.local e

pub no_colgroup : (name : QualName) → is_barred name ≡ false → is_html (codes "colgroup") name ≡ false
no_colgroup name e = colgroup_by name.ns name.local e

-- which mode the open elements ask for, where none has a barred name
abbrev IsUsualOption : Option InsertionMode → Type 0
IsUsualOption None = Unit {0}
IsUsualOption (Some mode) = is_usual mode ≡ true

abbrev AreUsualCases : List (Bool × Option InsertionMode) → Type 0
AreUsualCases [] = Unit {0}
AreUsualCases (c ∷ rest) = (c.0 ≡ true → IsUsualOption c.1) × AreUsualCases rest

case_by : (b : Bool) (o p : Option InsertionMode) → (b ≡ true → IsUsualOption o) → IsUsualOption p →
    IsUsualOption (if b then o else p)
case_by true o p f g = f refl
case_by false o p f g = g

first_usual : (cases : List (Bool × Option InsertionMode)) → AreUsualCases cases → IsUsualOption (first_case cases)
first_usual [] are = tt
first_usual (c ∷ rest) are = case_by c.0 c.1 (first_case rest) are.0 (first_usual rest are.1)

html_usual : (has_head : Bool) → is_usual (if has_head then modes.AfterHead else modes.BeforeHead) ≡ true
html_usual true = refl
html_usual false = refl

never : {A : Type 0} (b : Bool) → b ≡ false → b ≡ true → A
never b e h = absurd (let k : true ≡ false = sym h ∙ e in cc)

own_usual : (name : QualName) (is_root has_head : Bool) (template : Option InsertionMode) → is_barred name ≡ false →
    IsUsualOption (own_mode name is_root has_head template)
own_usual name is_root has_head template free = first_usual (
    (is_element_of table_cells name && not is_root, Some modes.InCell)
    ∷ (is_html (codes "tr") name, Some modes.InRow)
    ∷ (is_element_of table_sections name, Some modes.InTableBody)
    ∷ (is_html (codes "caption") name, Some modes.InCaption)
    ∷ (is_html (codes "colgroup") name, Some modes.InColumnGroup)
    ∷ (is_html (codes "table") name, Some modes.InTable)
    ∷ (is_html (codes "template") name, template)
    ∷ (is_html (codes "head") name && not is_root, Some modes.InHead)
    ∷ (is_html (codes "body") name, Some modes.InBody)
    ∷ (is_html (codes "frameset") name, Some modes.InFrameset)
    ∷ (is_html (codes "html") name, Some (if has_head then modes.AfterHead else modes.BeforeHead))
    ∷ []) (
      (λ e. refl),
      (
        (λ e. refl),
        (
          (λ e. refl),
          (
            (λ e. refl),
            (
              (λ e. never (is_html (codes "colgroup") name) (no_colgroup name free) e),
              (
                (λ e. refl),
                (
                  (λ e. never (is_html (codes "template") name) (no_template name free) e),
                  (
                    (λ e. refl),
                    (
                      (λ e. refl),
                      (
                        (λ e. never (is_html (codes "frameset") name) (no_frameset name free) e),
                        ((λ e. html_usual has_head), tt),
                      ),
                    ),
                  ),
                ),
              ),
            ),
          ),
        ),
      ),
    )

or_usual : (own : Option InsertionMode) (mode : InsertionMode) → IsUsualOption own → is_usual mode ≡ true →
    is_usual (or_else own mode) ≡ true
or_usual None mode f g = g
or_usual (Some own) mode f g = f

above_usual : (rest : List QualName) (root : InsertionMode) (own : Option InsertionMode) (further : InsertionMode) →
    is_usual root ≡ true → IsUsualOption own → is_usual further ≡ true →
    is_usual (mode_above rest root own further) ≡ true
above_usual [] root own further f g h = f
above_usual (name ∷ rest) root own further f g h = or_usual own further g h

reset_usual : (has_head : Bool) (template : Option InsertionMode) (f : Forest) (ns : List ℕ) → AreFree f ns →
    is_usual (reset_mode None has_head template (map (λ n. name_of n f) ns)) ≡ true
reset_usual has_head template f [] free = refl
reset_usual has_head template f (n ∷ ns) free =
    let name = name_of n f in
    let is : is_barred name ≡ false = (free n (inl refl)).1 in
    above_usual (map (λ m. name_of m f) ns) (root_mode None name has_head template)
    (own_mode name false has_head template) (reset_mode None has_head template (map (λ m. name_of m f) ns))
    (or_usual (own_mode name true has_head template) modes.InBody (own_usual name true has_head template is) refl)
    (own_usual name false has_head template is)
    (reset_usual has_head template f ns (λ m i. free m (inr i)))

reset_by : (s : State) (context : Option ℕ) → context ≡ None → IsClean s.tree →
    is_usual (reset_mode (option_map (λ n. name_of n s.tree.forest) context) (is_known s.head)
    (first_mode s.template_modes) (map (λ n. name_of n s.tree.forest) s.tree.stack)) ≡ true
reset_by s None e clean =
    reset_usual (is_known s.head) (first_mode s.template_modes) s.tree.forest s.tree.stack clean.free
reset_by s (Some n) e clean = absurd (let k : Some n ≡ None = e in cc)

-- a state without text that waits, in a usual mode, that goes back to a usual mode
pub record HasUsualModes (s : State) : Type 0 where
  pub page : s.context ≡ None
  pub mode : is_usual s.mode ≡ true
  pub original : is_usual s.original ≡ true
  pub pending : s.pending ≡ []

-- an action that keeps such a state one, and says nothing
abbrev pub IsMild : Action → Type 0
IsMild (insert at tag) = is_barred (name_for tag) ≡ false
IsMild (insert_named name) = is_barred (in_html name) ≡ false
IsMild (insert_foreign ns tag) = is_barred (record { ns = ns; local = tag.name }) ≡ false
IsMild (insert_formatting tag) = is_barred (name_for tag) ≡ false
IsMild (say cs) = ⊥
IsMild (go_to mode) = is_usual mode ≡ true
IsMild (keep_pending c) = ⊥
IsMild forget_pending = ⊥
IsMild _ = Unit {0}

mild_named : (action : Action) → IsMild action → IsNamed action
mild_named (insert at tag) is = is
mild_named (insert_named name) is = is
mild_named (insert_foreign ns tag) is = is
mild_named (insert_formatting tag) is = is
mild_named (say cs) is = absurd is
mild_named (keep_pending c) is = absurd is
mild_named forget_pending is = absurd is
mild_named action is = tt

mild_silent : (action : Action) → IsMild action → said_by action ≡ []
mild_silent (say cs) is = absurd is
mild_silent action is = refl

mild_modes : (action : Action) → IsMild action → (s : State) → IsClean s.tree → HasUsualModes s →
    HasUsualModes (act action s)
unfolding act
mild_modes (insert targets.AtPlace tag) is s clean has =
    record { page = has.page; mode = has.mode; original = has.original; pending = has.pending }
mild_modes (insert targets.IntoHead tag) is s clean has =
    record { page = has.page; mode = has.mode; original = has.original; pending = has.pending }
mild_modes (insert_void targets.AtPlace tag) is s clean has =
    record { page = has.page; mode = has.mode; original = has.original; pending = has.pending }
mild_modes (insert_void targets.IntoHead tag) is s clean has =
    record { page = has.page; mode = has.mode; original = has.original; pending = has.pending }
mild_modes (say cs) is s clean has = absurd is
mild_modes (go_to mode) is s clean has = record {
  page = has.page;
  mode = but_text_usual mode is;
  original = has.original;
  pending = has.pending;
}
mild_modes hold_mode is s clean has =
    record { page = has.page; mode = has.mode; original = has.mode; pending = has.pending }
mild_modes go_back is s clean has = record {
  page = has.page;
  mode = out_usual s.original has.original;
  original = has.original;
  pending = has.pending;
}
mild_modes reset is s clean has = record {
  page = has.page;
  mode = but_text_usual (mode_by_elements s) (reset_by s s.context has.page clean);
  original = has.original;
  pending = has.pending;
}
mild_modes (keep_pending c) is s clean has = absurd is
mild_modes forget_pending is s clean has = absurd is
mild_modes action is s clean has =
    record { page = has.page; mode = has.mode; original = has.original; pending = has.pending }

-- a state in a usual mode
pub record IsUsual (s : State) : Type 0 where
  pub modes : HasUsualModes s
  pub clean : IsClean s.tree

-- and one that comes of it, which says the same
pub record IsMeek (s s' : State) : Type 0 where
  pub usual : IsUsual s'
  pub texts : (c : ℕ) → in_texts c s'.tree.forest ≡ in_texts c s.tree.forest

abbrev pub AreMild : List Action → Type 0
AreMild [] = Unit {0}
AreMild (action ∷ actions) = IsMild action × AreMild actions

silent_said : (x y : ℕ) (c : ℕ) (cs : List ℕ) → cs ≡ [] → y ≡ x + how_often c cs → y ≡ x
silent_said x y c cs none e = omega (arith, e, ap (how_often c) none)

pub mild_meek : (action : Action) → IsMild action → (s : State) → IsUsual s → IsMeek s (act action s)
mild_meek action is s usual =
    let spoken = act_spoken action (mild_named action is) s usual.clean in
    record {
      usual = record { modes = mild_modes action is s usual.clean usual.modes; clean = spoken.clean };
      texts = λ c. silent_said (in_texts c s.tree.forest) (in_texts c (act action s).tree.forest) c (said_by action)
          (mild_silent action is) (spoken.texts c);
    }

pub all_meek : (actions : List Action) → AreMild actions → (s : State) → IsUsual s → IsMeek s (act_all actions s)
all_meek [] are s usual = record { usual = usual; texts = λ c. refl }
all_meek (action ∷ actions) are s usual =
    let first = mild_meek action are.0 s usual in
    let rest = all_meek actions are.1 (act action s) first.usual in
    record { usual = rest.usual; texts = λ c. rest.texts c ∙ first.texts c }
