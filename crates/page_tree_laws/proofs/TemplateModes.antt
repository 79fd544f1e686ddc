-- Which mode the open elements ask for in a template in front of the body: one that may stand there; and after it.
use Rattle.std.proofs.Common.{◌≡◌, ◌&&◌, if◌then◌else◌, [], ◌∷◌, ◌∙◌, Bool, List, None, Option, Some, ap, codes, false}
use Rattle.std.proofs.Common.{inl, inr, map, not, option_map, refl, sym, true, ℕ}
use Rattle.tree_forest.specs.Forest.{Forest, name_of}
use Rattle.tree_forest.specs.Orders.{IsIn}
use Rattle.html_lexemes.specs.declared.names.QualName.{QualName}
use Rattle.html_tree_state.specs.Names.{names_of}
use Rattle.tree_names.specs.ElementSets.{table_cells, table_sections}
use Rattle.tree_names.specs.Sets.{html_elements, is_element_of, is_html}
use Rattle.page_tree_laws.proofs.Acting.{ResetsWell}
use Rattle.page_tree_laws.proofs.Fits.{AreLater}
use Rattle.page_tree_laws.proofs.GroupNames.{element_passes}
use Rattle.page_tree_laws.proofs.GuardKinds.{AreApart, lowest_below, stands_in_template, template_guard, template_names}
use Rattle.page_tree_laws.proofs.GuardKinds.{third_title}
use Rattle.page_tree_laws.proofs.Guards.{IsFree, IsStack, bare, is_of_templates, nearer, stands}
use Rattle.rules_table.specs.Actions.{but_text, first_mode, in_html, is_known, is_of_text, mode_by_elements}
use Rattle.rules_table.specs.State.{State}
use Rattle.tree_predicates.specs.Modes.{first_case, mode_above, or_else, own_mode, reset_mode, root_mode}
use Rattle.tree_predicates.specs.declared.modes.InsertionMode.{InsertionMode}
use Rattle.tree_predicates.specs.declared.modes.InsertionMode.TheVariants as modes

-- what an element asks for is a mode of templates
abbrev MayStand : Option InsertionMode → Type 0
MayStand None = Unit {0}
MayStand (Some mode) = is_of_templates mode ≡ true

abbrev MayStandIn : List (Bool × Option InsertionMode) → Type 0
MayStandIn [] = Unit {0}
MayStandIn (c ∷ rest) = (c.0 ≡ true → MayStand c.1) × MayStandIn rest

case_by : (b : Bool) (o p : Option InsertionMode) → (b ≡ true → MayStand o) → MayStand p →
    MayStand (if b then o else p)
case_by true o p f g = f refl
case_by false o p f g = g

first_stands : (cases : List (Bool × Option InsertionMode)) → MayStandIn cases → MayStand (first_case cases)
first_stands [] are = tt
first_stands (c ∷ rest) are = case_by c.0 c.1 (first_case rest) are.0 (first_stands rest are.1)

never : {A : Type 0} (b : Bool) → b ≡ false → b ≡ true → A
never b e h = absurd (let k : true ≡ false = sym h ∙ e in cc)

never_both : {A : Type 0} (b c : Bool) → b ≡ false → (b && c) ≡ true → A
never_both true c e h = absurd (let k : true ≡ false = e in cc)
never_both false c e h = absurd (let k : false ≡ true = h in cc)

-- a name that isn't barred is none of the four
apart_from : (word : List ℕ) (name : QualName) → is_element_of (html_elements template_names) name ≡ false →
    ((is_html word name ≡ true) → is_element_of (html_elements template_names) name ≡ true) → is_html word name ≡ false
apart_from word name free passes = by (is_html word name) refl where
  by : (b : Bool) → is_html word name ≡ b → b ≡ false
  by true e = never (is_element_of (html_elements template_names) name) free (passes e)
  by false e = refl

own_stands : (name : QualName) (template : Option InsertionMode) →
    is_element_of (html_elements template_names) name ≡ false → MayStand template →
    MayStand (own_mode name false true template)
own_stands name template free may = first_stands (
    (is_element_of table_cells name && not false, Some modes.InCell)
    ∷ (is_html (codes "tr") name, Some modes.InRow)
    ∷ (is_element_of table_sections name, Some modes.InTableBody)
    ∷ (is_html (codes "caption") name, Some modes.InCaption)
    ∷ (is_html (codes "colgroup") name, Some modes.InColumnGroup)
    ∷ (is_html (codes "table") name, Some modes.InTable)
    ∷ (is_html (codes "template") name, template)
    ∷ (is_html (codes "head") name && not false, Some modes.InHead)
    ∷ (is_html (codes "body") name, Some modes.InBody)
    ∷ (is_html (codes "frameset") name, Some modes.InFrameset)
    ∷ (is_html (codes "html") name, Some (if true then modes.AfterHead else modes.BeforeHead))
    ∷ []) (
      (λ e. refl),
      (
        (λ e. refl),
        (
          (λ e. refl),
          (
            (λ e. refl),
            (
              (λ e. refl),
              (
                (λ e. refl),
                (
                  (λ e. may),
                  (
                    (λ e. never_both (is_html (codes "head") name) (not false)
                        (apart_from (codes "head") name free
                        (element_passes (codes "head" ∷ []) template_names name refl)) e),
                    (
                      (λ e. refl),
                      (
                        (λ e. never (is_html (codes "frameset") name)
                            (apart_from (codes "frameset") name free
                            (element_passes (codes "frameset" ∷ []) template_names name refl)) e),
                        (
                          (λ e. never (is_html (codes "html") name)
                              (apart_from (codes "html") name free
                              (element_passes (codes "html" ∷ []) template_names name refl)) e),
                          tt,
                        ),
                      ),
                    ),
                  ),
                ),
              ),
            ),
          ),
        ),
      ),
    )

or_stands : (own : Option InsertionMode) (mode : InsertionMode) → MayStand own → is_of_templates mode ≡ true →
    is_of_templates (or_else own mode) ≡ true
or_stands None mode f g = g
or_stands (Some own) mode f g = f

-- an element of some with others below it
above_some : (y : QualName) (ys names : List QualName) (root : InsertionMode) (own : Option InsertionMode)
    (further : InsertionMode) → names ≡ y ∷ ys → mode_above names root own further ≡ or_else own further
above_some y ys names root own further e = ap (λ ns. mode_above ns root own further) e

record IsSome (names : List QualName) : Type 0 where
  pub first : QualName
  pub others : List QualName
  pub same : names ≡ first ∷ others

module _ (in_head : Bool) (root head top : ℕ) (apart : AreApart root head top) where
  some_lowest : (f : Forest) (b : Bool) → IsSome (map (λ n. name_of n f) (lowest_below b root head))
  some_lowest f true = record {
    first = name_of head f;
    others = name_of root f ∷ [];
    same = refl;
  }
  some_lowest f false = record { first = name_of root f; others = []; same = refl }

  some_open : (f : Forest) (ns : List ℕ) → IsStack (template_guard in_head root head top) ns →
      IsSome (map (λ n. name_of n f) ns)
  some_open f _ stands = record {
    first = name_of top f;
    others = map (λ n. name_of n f) (lowest_below in_head root head);
    same = refl;
  }
  some_open f _ (bare e) = absurd (let k : false ≡ true = e in cc)
  some_open f _ (nearer n ns free rest) = record {
    first = name_of n f;
    others = map (λ m. name_of m f) ns;
    same = refl;
  }

  reset_stands : (mode : InsertionMode) (f : Forest) (ns : List ℕ) → is_of_templates mode ≡ true →
      name_of top f ≡ in_html (codes "template") → IsStack (template_guard in_head root head top) ns →
      ((n : ℕ) → IsIn n ns → IsFree (template_guard in_head root head top) n →
      is_element_of (html_elements template_names) (name_of n f) ≡ false) →
      is_of_templates (reset_mode None true (Some mode) (map (λ n. name_of n f) ns)) ≡ true
  reset_stands mode f _ may named stands free =
      let below = some_lowest f in_head in
      ap is_of_templates (above_some below.first below.others (map (λ n. name_of n f) (lowest_below in_head root head))
      (root_mode None (name_of top f) true (Some mode)) (own_mode (name_of top f) false true (Some mode))
      (reset_mode None true (Some mode) (map (λ n. name_of n f) (lowest_below in_head root head))) below.same
      ∙ ap (λ name. or_else (own_mode name false true (Some mode))
      (reset_mode None true (Some mode) (map (λ n. name_of n f) (lowest_below in_head root head)))) named) ∙ may
  reset_stands mode f _ may named (bare e) free = absurd (let k : false ≡ true = e in cc)
  reset_stands mode f _ may named (nearer n ns own rest) free =
      let below = some_open f ns rest in
      ap is_of_templates (above_some below.first below.others (map (λ m. name_of m f) ns)
      (root_mode None (name_of n f) true (Some mode)) (own_mode (name_of n f) false true (Some mode))
      (reset_mode None true (Some mode) (map (λ m. name_of m f) ns)) below.same)
      ∙ or_stands (own_mode (name_of n f) false true (Some mode))
      (reset_mode None true (Some mode) (map (λ m. name_of m f) ns))
      (own_stands (name_of n f) (Some mode) (free n (inl refl) own) may)
      (reset_stands mode f ns may named rest (λ m i k. free m (inr i) k))

  first_known : (known : List InsertionMode) → AreLater known → ¬ (known ≡ []) →
      (mode : InsertionMode) × ((first_mode known ≡ Some mode) × (is_of_templates mode ≡ true))
  first_known [] are some = absurd (some refl)
  first_known (mode ∷ more) are some = (mode, (refl, are.0))

  past_text : (mode : InsertionMode) → is_of_templates mode ≡ true →
      (stands_in_template (but_text mode) ≡ true) × (is_of_text (but_text mode) ≡ false)
  past_text modes.InBody is = (refl, refl)
  past_text modes.InTable is = (refl, refl)
  past_text modes.InCaption is = (refl, refl)
  past_text modes.InColumnGroup is = (refl, refl)
  past_text modes.InTableBody is = (refl, refl)
  past_text modes.InRow is = (refl, refl)
  past_text modes.InCell is = (refl, refl)
  past_text modes.InTemplate is = (refl, refl)
  past_text mode is = absurd (let k : false ≡ true = is in cc)

-- the mode by what is known of a state
by_known : (s : State) (context : Option ℕ) (is_known_head : Bool) (template : Option InsertionMode)
    (names : List QualName) → context ≡ None → is_known_head ≡ true →
    reset_mode (option_map (λ n. name_of n s.tree.forest) context) is_known_head template names
    ≡ reset_mode None true template names
by_known s None true template names e h = refl
by_known s None false template names e h = absurd (let k : false ≡ true = h in cc)
by_known s (Some n) is_known_head template names e h = absurd (let k : Some n ≡ None = e in cc)

pub reset_by : (s : State) (head : ℕ) → s.context ≡ None → s.head ≡ Some head →
    mode_by_elements s ≡ reset_mode None true (first_mode s.template_modes) (names_of s.tree)
reset_by s head page known = by_known s s.context (is_known s.head) (first_mode s.template_modes) (names_of s.tree) page
    (ap is_known known)

pub template_resets : (in_head : Bool) (root head top : ℕ) → AreApart root head top →
    ResetsWell (template_guard in_head root head top)
template_resets in_head root head top apart s held may =
    let first = first_known in_head root head top apart s.template_modes held.templates (may.1 refl) in
    let stands_there : is_of_templates (mode_by_elements s) ≡ true =
    ap is_of_templates (reset_by s head held.page held.head
    ∙ ap (λ template. reset_mode None true template (names_of s.tree)) first.1.0)
    ∙ reset_stands in_head root head top apart first.0 s.tree.forest s.tree.stack first.1.1
    (held.tree.nodes.named top (inr (inr (inl refl))) ∙ third_title root head top (codes "template") apart)
    held.tree.standing (λ n i free. (held.tree.unbarred n i free).1) in
    past_text in_head root head top apart (mode_by_elements s) stands_there
