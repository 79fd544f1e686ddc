-- Which mode the open elements ask for after the head: one that may stand there.
use Rattle.std.proofs.Common.{◌≡◌, ◌⊎◌, ◌||◌, ◌&&◌, if◌then◌else◌, [], ◌∷◌, ◌∙◌, Bool, List, None, Option, Some, ap}
use Rattle.std.proofs.Common.{codes, false, inl, inr, map, not, option_map, refl, subst, sym, true, ℕ}
use Rattle.tree_forest.specs.Forest.{Forest, name_of}
use Rattle.tree_forest.specs.Orders.{IsIn}
use Rattle.html_lexemes.specs.declared.names.Namespace.{Namespace}
use Rattle.html_lexemes.specs.declared.names.Namespace.TheVariants.{Html, MathMl, Other, Svg}
use Rattle.html_lexemes.specs.declared.names.QualName.{QualName}
use Rattle.tree_names.specs.ElementSets.{table_cells, table_sections}
use Rattle.tree_names.specs.Sets.{html_elements, is_element_of, is_html}
use Rattle.page_tree_laws.proofs.Acting.{ResetsWell}
use Rattle.page_tree_laws.proofs.Fits.{AreLater}
use Rattle.page_tree_laws.proofs.Guards.{Guard, IsFree, IsGuarded, IsStack, bare, is_of_templates, may_stand, nearer}
use Rattle.page_tree_laws.proofs.Guards.{stands}
use Rattle.page_tree_laws.proofs.GuardKinds.{AreApart, body_guard, early_names, frames_guard, going_guard, root_title}
use Rattle.page_tree_laws.proofs.GuardKinds.{third_title}
use Rattle.rules_table.specs.Actions.{but_text, first_mode, in_html, is_known, is_of_text, mode_by_elements}
use Rattle.rules_table.specs.State.{State}
use Rattle.tree_predicates.specs.Modes.{first_case, mode_above, or_else, own_mode, reset_mode, root_mode}
use Rattle.tree_predicates.specs.declared.modes.InsertionMode.{InsertionMode}
use Rattle.tree_predicates.specs.declared.modes.InsertionMode.TheVariants as modes

pub stack_member : (g : Guard) (ns : List ℕ) → IsStack g ns → (n : ℕ) → IsIn n ns →
    (IsFree g n) ⊎ IsIn n (g.top ∷ g.lowest)
stack_member g _ stands n i = inr i
stack_member g _ (bare e) n i = inr (inr i)
stack_member g _ (nearer m ms free rest) n (inl e) = inl (subst (IsFree g) (sym e) free)
stack_member g _ (nearer m ms free rest) n (inr i) = stack_member g ms rest n i

-- a name that isn't barred is no head
second_of : (x y : Bool) → (x || (y || false)) ≡ false → (y || false) ≡ false
second_of true y e = absurd (let k : true ≡ false = e in cc)
second_of false y e = e

head_by : (ns : Namespace) (local : List ℕ) →
    is_element_of (html_elements early_names) (record { ns = ns; local = local }) ≡ false →
    is_html (codes "head") (record { ns = ns; local = local }) ≡ false
head_by Html local e = second_of _ _ e
head_by MathMl local e = refl
head_by Svg local e = refl
head_by (Other text) local e = refl

pub no_head : (name : QualName) → is_element_of (html_elements early_names) name ≡ false →
    is_html (codes "head") name ≡ false
no_head name e = head_by name.ns name.local e

-- a mode that may stand, and is none of text
abbrev may_go_on : InsertionMode → Bool
may_go_on modes.InTableText = false
may_go_on mode = may_stand mode

-- what an element asks for may stand
abbrev MayStand : Option InsertionMode → Type 0
MayStand None = Unit {0}
MayStand (Some mode) = may_go_on mode ≡ true

abbrev MayStandIn : List (Bool × Option InsertionMode) → Type 0
MayStandIn [] = Unit {0}
MayStandIn (c ∷ rest) = (c.0 ≡ true → MayStand c.1) × MayStandIn rest

case_by : (b : Bool) (o p : Option InsertionMode) → (b ≡ true → MayStand o) → MayStand p →
    MayStand (if b then o else p)
case_by true o p f g = f refl
case_by false o p f g = g

first_stands : (cases : List (Bool × Option InsertionMode)) → MayStandIn cases → MayStand (first_case cases)
first_stands [] are = tt
first_stands (c ∷ rest) are = case_by c.0 c.1 (first_case rest) are.0 (first_stands rest are.1)

never : {A : Type 0} (b c : Bool) → b ≡ false → (b && c) ≡ true → A
never true c e h = absurd (let k : true ≡ false = e in cc)
never false c e h = absurd (let k : false ≡ true = h in cc)

own_stands : (name : QualName) (is_root : Bool) (template : Option InsertionMode) →
    is_html (codes "head") name ≡ false → MayStand template → MayStand (own_mode name is_root true template)
own_stands name is_root template none may = first_stands (
    (is_element_of table_cells name && not is_root, Some modes.InCell)
    ∷ (is_html (codes "tr") name, Some modes.InRow)
    ∷ (is_element_of table_sections name, Some modes.InTableBody)
    ∷ (is_html (codes "caption") name, Some modes.InCaption)
    ∷ (is_html (codes "colgroup") name, Some modes.InColumnGroup)
    ∷ (is_html (codes "table") name, Some modes.InTable)
    ∷ (is_html (codes "template") name, template)
    ∷ (is_html (codes "head") name && not is_root, Some modes.InHead)
    ∷ (is_html (codes "body") name, Some modes.InBody)
    ∷ (is_html (codes "frameset") name, Some modes.InFrameset)
    ∷ (is_html (codes "html") name, Some (if true then modes.AfterHead else modes.BeforeHead))
    ∷ []) (
      (λ e. refl),
      (
        (λ e. refl),
        (
          (λ e. refl),
          (
            (λ e. refl),
            (
              (λ e. refl),
              (
                (λ e. refl),
                (
                  (λ e. may),
                  (
                    (λ e. never (is_html (codes "head") name) (not is_root) none e),
                    ((λ e. refl), ((λ e. refl), ((λ e. refl), tt))),
                  ),
                ),
              ),
            ),
          ),
        ),
      ),
    )

or_stands : (own : Option InsertionMode) (mode : InsertionMode) → MayStand own → may_go_on mode ≡ true →
    may_go_on (or_else own mode) ≡ true
or_stands None mode f g = g
or_stands (Some own) mode f g = f

above_stands : (rest : List QualName) (root : InsertionMode) (own : Option InsertionMode) (further : InsertionMode) →
    may_go_on root ≡ true → MayStand own → may_go_on further ≡ true →
    may_go_on (mode_above rest root own further) ≡ true
above_stands [] root own further f g h = f
above_stands (name ∷ rest) root own further f g h = or_stands own further g h

reset_stands : (template : Option InsertionMode) (f : Forest) (ns : List ℕ) → MayStand template →
    ((n : ℕ) → IsIn n ns → is_html (codes "head") (name_of n f) ≡ false) →
    may_go_on (reset_mode None true template (map (λ n. name_of n f) ns)) ≡ true
reset_stands template f [] may none = refl
reset_stands template f (n ∷ ns) may none =
    let name = name_of n f in
    above_stands (map (λ m. name_of m f) ns) (root_mode None name true template) (own_mode name false true template)
    (reset_mode None true template (map (λ m. name_of m f) ns))
    (or_stands (own_mode name true true template) modes.InBody (own_stands name true template (none n (inl refl)) may)
    refl)
    (own_stands name false template (none n (inl refl)) may)
    (reset_stands template f ns may (λ m i. none m (inr i)))

template_goes_on : (mode : InsertionMode) → is_of_templates mode ≡ true → may_go_on mode ≡ true
template_goes_on modes.InBody is = refl
template_goes_on modes.InTable is = refl
template_goes_on modes.InCaption is = refl
template_goes_on modes.InColumnGroup is = refl
template_goes_on modes.InTableBody is = refl
template_goes_on modes.InRow is = refl
template_goes_on modes.InCell is = refl
template_goes_on modes.InTemplate is = refl
template_goes_on mode is = absurd (let k : false ≡ true = is in cc)

first_may_stand : (known : List InsertionMode) → AreLater known → MayStand (first_mode known)
first_may_stand [] are = tt
first_may_stand (mode ∷ more) are = template_goes_on mode are.0

stands_past : (mode : InsertionMode) → may_go_on mode ≡ true →
    (may_stand (but_text mode) ≡ true) × (is_of_text (but_text mode) ≡ false)
stands_past modes.Text is = (refl, refl)
stands_past modes.InTableText is = absurd (let k : false ≡ true = is in cc)
stands_past mode is = (is, refl)

mode_at : (s : State) (context : Option ℕ) (is_known_head : Bool) → context ≡ None → is_known_head ≡ true →
    MayStand (first_mode s.template_modes) →
    ((n : ℕ) → IsIn n s.tree.stack → is_html (codes "head") (name_of n s.tree.forest) ≡ false) →
    may_go_on (reset_mode (option_map (λ n. name_of n s.tree.forest) context) is_known_head
    (first_mode s.template_modes) (map (λ n. name_of n s.tree.forest) s.tree.stack)) ≡ true
mode_at s None true e h may none = reset_stands (first_mode s.template_modes) s.tree.forest s.tree.stack may none
mode_at s None false e h may none = absurd (let k : false ≡ true = h in cc)
mode_at s (Some n) is_known_head e h may none = absurd (let k : Some n ≡ None = e in cc)

-- what stands lowest is no head
lowest_no_head : (name : List ℕ) (root head body : ℕ) → is_html (codes "head") (in_html name) ≡ false →
    AreApart root head body → (n : ℕ) → IsIn n (body ∷ root ∷ []) →
    is_html (codes "head") ((going_guard name root head body).title n) ≡ false
lowest_no_head name root head body is apart n (inl e) =
    subst (λ k. is_html (codes "head") ((going_guard name root head body).title k) ≡ false) (sym e)
    (ap (is_html (codes "head")) (third_title root head body name apart) ∙ is)
lowest_no_head name root head body is apart n (inr (inl e)) =
    subst (λ k. is_html (codes "head") ((going_guard name root head body).title k) ≡ false) (sym e)
    (ap (is_html (codes "head")) (root_title root head body name))
lowest_no_head name root head body is apart n (inr (inr i)) = absurd i

open_no_head : (name : List ℕ) (root head body : ℕ) (s : State) → is_html (codes "head") (in_html name) ≡ false →
    AreApart root head body → IsGuarded (going_guard name root head body) s.tree → (n : ℕ) → IsIn n s.tree.stack →
    (IsFree (going_guard name root head body) n) ⊎ IsIn n (body ∷ root ∷ []) →
    is_html (codes "head") (name_of n s.tree.forest) ≡ false
open_no_head name root head body s is apart tree n i (inl free) =
    no_head (name_of n s.tree.forest) (tree.unbarred n i free).1
open_no_head name root head body s is apart tree n i (inr low) =
    ap (is_html (codes "head")) (tree.nodes.named n (kept_low low)) ∙ lowest_no_head name root head body is apart n low
  where
    kept_low : IsIn n (body ∷ root ∷ []) → IsIn n (0 ∷ root ∷ body ∷ head ∷ body ∷ root ∷ [])
    kept_low (inl e) = inr (inr (inl e))
    kept_low (inr (inl e)) = inr (inl e)
    kept_low (inr (inr j)) = absurd j

known : (o : Option ℕ) (n : ℕ) → o ≡ Some n → is_known o ≡ true
known o n e = ap is_known e

pub going_resets : (name : List ℕ) (root head body : ℕ) → is_html (codes "head") (in_html name) ≡ false →
    AreApart root head body → ResetsWell (going_guard name root head body)
going_resets name root head body is apart s held may = stands_past (mode_by_elements s)
    (mode_at s s.context (is_known s.head) held.page (known s.head head held.head)
    (first_may_stand s.template_modes held.templates)
    (λ n i. open_no_head name root head body s is apart held.tree n i
    (stack_member (going_guard name root head body) s.tree.stack held.tree.standing n i)))

pub frames_resets : (root head frameset : ℕ) → ResetsWell (frames_guard root head frameset)
frames_resets root head frameset s held may = absurd (let k : false ≡ true = may.0 in cc)

pub body_resets : (root head body : ℕ) → ResetsWell (body_guard root head body)
body_resets root head body s held may = absurd (let k : false ≡ true = may.0 in cc)
