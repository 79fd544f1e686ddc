-- States in which templates are open in front of the body, and how such a state begins and ends.
use Rattle.std.proofs.Common.{◌≡◌, ◌≤◌, ◌||◌, [], ◌∷◌, ◌∙◌, Bool, List, None, Option, ap, arith, bytes_eq, codes, false}
use Rattle.std.proofs.Common.{inl, inr, length, map, refl, subst, suc, sym, true, ℕ}
use Rattle.tree_formatting.specs.Entries.{before_marker}
use Rattle.tree_forest.specs.Forest.{Forest, name_of}
use Rattle.tree_forest.specs.Orders.{IsIn}
use Rattle.html_lexemes.specs.declared.names.QualName.{QualName}
use Rattle.html_tree_state.specs.Insertions.{is_template}
use Rattle.tree_names.specs.Sets.{is_html, is_one_of}
use Rattle.tree_names.specs.Wanted.{one}
use Rattle.page_tree_laws.proofs.Acting.{ResetsWell}
use Rattle.page_tree_laws.proofs.EvenRows.{AreEven}
use Rattle.page_tree_laws.proofs.Fits.{AreLater, CanBuild, HasTables, IsHeld}
use Rattle.page_tree_laws.proofs.FittingSteps.{BuildFacts, RowFacts}
use Rattle.page_tree_laws.proofs.FreeElements.{scope_has_free}
use Rattle.page_tree_laws.proofs.GoingRows.{stack_facts}
use Rattle.page_tree_laws.proofs.GroupNames.{element_passes}
use Rattle.page_tree_laws.proofs.GuardKinds.{AreApart, document_title, head_title, lowest_below, root_title}
use Rattle.page_tree_laws.proofs.GuardKinds.{template_guard, template_guards, template_names, third_title, titled_head}
use Rattle.page_tree_laws.proofs.GuardedLists.{cleared_guarded}
use Rattle.page_tree_laws.proofs.Guards.{AreFreeEntries, HasFree, IsAboveBase, IsFree, IsGuard, IsKept, IsKeptForest}
use Rattle.page_tree_laws.proofs.Guards.{base_names}
use Rattle.page_tree_laws.proofs.Phases.{IsEarly, IsEarlyStack, IsPhase, body_to_come, head_guard}
use Rattle.page_tree_laws.proofs.Phases.{in_head as stands_in_head, past_head}
use Rattle.page_tree_laws.proofs.TemplateClosings.{some_template}
use Rattle.page_tree_laws.proofs.TemplateCounts.{act_none, modes_stay, templates_in}
use Rattle.page_tree_laws.proofs.TemplateLists.{fewer_on}
use Rattle.page_tree_laws.proofs.TemplateModes.{reset_by, template_resets}
use Rattle.page_tree_laws.proofs.TemplateWords.{IsPresent}
use Rattle.rules_table.specs.Actions.{Action, act, act_all, but_text, first_mode, in_html, later_modes}
use Rattle.rules_table.specs.Actions.{mode_by_elements}
use Rattle.rules_table.specs.Asking.{in_scope}
use Rattle.rules_table.specs.State.{State}
use Rattle.tree_predicates.specs.Modes.{reset_mode}
use Rattle.tree_predicates.specs.declared.modes.InsertionMode.{InsertionMode}
use Rattle.tree_predicates.specs.declared.modes.InsertionMode.TheVariants as modes

none : {A : Type 0} → false ≡ true → A
none e = absurd (cc)

-- even actions leave at most as many templates open, and their modes
pub all_none : (actions : List Action) (s : State) → AreEven actions → IsPresent s.tree →
    (templates_in (act_all actions s).tree.forest (act_all actions s).tree.stack
    ≤ templates_in s.tree.forest s.tree.stack) × ((act_all actions s).template_modes ≡ s.template_modes)
all_none [] s are present = (itself (templates_in s.tree.forest s.tree.stack), refl) where
  itself : (x : ℕ) → x ≤ x
  itself x = omega arith
all_none (action ∷ more) s are present =
    let first = act_none action are.0 s present in
    let rest = all_none more (act action s) are.1 first.present in (
      fewer_on (templates_in (act_all more (act action s)).tree.forest (act_all more (act action s)).tree.stack)
          (templates_in (act action s).tree.forest (act action s).tree.stack)
          (templates_in s.tree.forest s.tree.stack) rest.0 first.fewer,
      rest.1 ∙ modes_stay action are.0 s,
    )

-- modes are known for each template
empty_none : (x : ℕ) (known : List InsertionMode) → 1 ≤ x → x ≤ length known → ¬ (known ≡ [])
empty_none x known some counted e = too_few x (length known) some counted (ap length e) where
  too_few : (n m : ℕ) → 1 ≤ n → n ≤ m → m ≡ 0 → ⊥
  too_few n m h i k = omega (arith, h, i, k)

pub later_length : (known : List InsertionMode) → ¬ (known ≡ []) → suc (length (later_modes known)) ≡ length known
later_length [] some = absurd (some refl)
later_length (mode ∷ more) some = refl

template_base : (name : List ℕ) → is_one_of template_names name ≡ true → is_one_of base_names name ≡ true
template_base name e = first_four (bytes_eq name (codes "html")) (bytes_eq name (codes "head"))
    (bytes_eq name (codes "body")) (bytes_eq name (codes "frameset")) (bytes_eq name (codes "template")) e where
      first_four : (a b c d k : Bool) → (a || (b || (c || (d || false)))) ≡ true →
          (a || (b || (c || (d || (k || false))))) ≡ true
      first_four true b c d k e = refl
      first_four false true c d k e = refl
      first_four false false true d k e = refl
      first_four false false false true k e = refl
      first_four false false false false k e = none e

-- what is lowest, by its names, and the mode that it asks for
abbrev names_below : Bool → List QualName
names_below true = in_html (codes "head") ∷ in_html (codes "html") ∷ []
names_below false = in_html (codes "html") ∷ []

abbrev mode_below : Bool → InsertionMode
mode_below true = modes.InHead
mode_below false = modes.AfterHead

no_text : (b : Bool) → but_text (mode_below b) ≡ mode_below b
no_text true = refl
no_text false = refl

both : {x y a b : QualName} → x ≡ a → y ≡ b → x ∷ y ∷ [] ≡ a ∷ b ∷ []
both {x} {y} {a} {b} e h = ap (λ name. name ∷ y ∷ []) e ∙ ap (λ name. a ∷ name ∷ []) h

still_later : (known : List InsertionMode) → AreLater known → AreLater (later_modes known)
still_later [] are = are
still_later (mode ∷ more) are = are.1

module _ (in_head : Bool) (root head top : ℕ) (apart : AreApart root head top) where
  pub own_is : IsGuard (template_guard in_head root head top)
  own_is = template_guards in_head root head top apart

  pub own_reset : ResetsWell (template_guard in_head root head top)
  own_reset = template_resets in_head root head top apart

  pub own_rows : RowFacts (template_guard in_head root head top)
  own_rows = record {
    guard = own_is;
    stack = stack_facts (template_guard in_head root head top) own_is;
    barred_names = template_base;
  }

  pub own_facts : BuildFacts (template_guard in_head root head top)
  own_facts = record {
    rows = own_rows;
    top = record {
      no_head = λ e. ap (is_html (codes "head")) (third_title root head top (codes "template") apart);
      no_frameset = λ e. ap (is_html (codes "frameset")) (third_title root head top (codes "template") apart);
    };
    template = refl;
  }

  own_tables : HasTables (template_guard in_head root head top)
  own_tables = record {
    fosters = refl;
    in_body = refl;
    in_table = refl;
    in_table_text = refl;
    in_caption = refl;
    in_column_group = refl;
    in_table_body = refl;
    in_row = refl;
    in_cell = refl;
    in_template = refl;
  }

  -- no body is open
  no_body : IsAboveBase (template_guard in_head root head top) (one (codes "body"))
  no_body n (inl e) = subst
      (λ k. is_html (codes "body") ((template_guard in_head root head top).title k) ≡ false) (sym e)
      (ap (is_html (codes "body")) (third_title root head top (codes "template") apart))
  no_body n (inr i) = lower in_head n i where
    lower : (b : Bool) (k : ℕ) → IsIn k (lowest_below b root head) →
        is_html (codes "body") ((template_guard in_head root head top).title k) ≡ false
    lower true k (inl e) = subst
        (λ m. is_html (codes "body") ((template_guard in_head root head top).title m) ≡ false) (sym e)
        (ap (is_html (codes "body")) (head_title root head top (codes "template") apart))
    lower true k (inr (inl e)) = subst
        (λ m. is_html (codes "body") ((template_guard in_head root head top).title m) ≡ false) (sym e)
        (ap (is_html (codes "body")) (root_title root head top (codes "template")))
    lower true k (inr (inr j)) = absurd j
    lower false k (inl e) = subst
        (λ m. is_html (codes "body") ((template_guard in_head root head top).title m) ≡ false) (sym e)
        (ap (is_html (codes "body")) (root_title root head top (codes "template")))
    lower false k (inr j) = absurd j

  body_closed : (s : State) → IsHeld (template_guard in_head root head top) s →
      in_scope (one (codes "body")) s ≡ true → (template_guard in_head root head top).allows modes.AfterBody ≡ true
  body_closed s held e =
      let has : HasFree (template_guard in_head root head top) (one (codes "body")) s.tree.forest s.tree.stack =
      scope_has_free _ (one (codes "body")) (template_guard in_head root head top) s.tree own_is held.tree no_body e in
      none (sym (held.tree.unbarred has.node has.is_open has.free).1
      ∙ element_passes (codes "body" ∷ []) template_names (name_of has.node s.tree.forest) refl has.named)

  -- the template that is open lowest
  pub top_named : (s : State) → IsHeld (template_guard in_head root head top) s →
      is_template top s.tree.forest ≡ true
  top_named s held = ap (is_html (codes "template"))
      (held.tree.nodes.named top (inr (inr (inl refl))) ∙ third_title root head top (codes "template") apart)

  pub one_open : (s : State) → IsHeld (template_guard in_head root head top) s →
      1 ≤ templates_in s.tree.forest s.tree.stack
  one_open s held = some_template (template_guard in_head root head top) s.tree.forest s.tree.stack refl
      (top_named s held) held.tree.standing

  pub modes_known : (s : State) → IsHeld (template_guard in_head root head top) s →
      templates_in s.tree.forest s.tree.stack ≤ length s.template_modes → ¬ (s.template_modes ≡ [])
  modes_known s held counted =
      empty_none (templates_in s.tree.forest s.tree.stack) s.template_modes (one_open s held) counted

  pub can_build : (s : State) → IsHeld (template_guard in_head root head top) s → s.frameset_ok ≡ false →
      templates_in s.tree.forest s.tree.stack ≤ length s.template_modes →
      CanBuild (template_guard in_head root head top) s
  can_build s held refused counted = record {
    goes_on = record { held = held; in_body = refl; ends = body_closed s held };
    tables = own_tables;
    resets = (refl, λ e. modes_known s held counted);
    unframed = refused;
  }

  -- after the outermost template the head, or what follows it, goes on
  kept_too : (n : ℕ) → IsKept (head_guard root head) n → IsKept (template_guard in_head root head top) n
  kept_too n (inl e) = inl e
  kept_too n (inr (inl e)) = inr (inl e)
  kept_too n (inr (inr (inl e))) = inr (inr (inr (inl e)))
  kept_too n (inr (inr (inr (inl e)))) = inr (inr (inr (inl e)))
  kept_too n (inr (inr (inr (inr (inl e))))) = inr (inl e)
  kept_too n (inr (inr (inr (inr (inr i))))) = absurd i

  free_too : (n : ℕ) → IsFree (template_guard in_head root head top) n → IsFree (head_guard root head) n
  free_too n free i = free (kept_too n i)

  at_root : (n : ℕ) → n ≡ root →
      (template_guard in_head root head top).title n ≡ (head_guard root head).title n
  at_root n e = subst (λ k. (template_guard in_head root head top).title k ≡ (head_guard root head).title k) (sym e)
      (root_title root head top (codes "template") ∙ sym (root_title root head head (codes "head")))

  at_head : (n : ℕ) → n ≡ head →
      (template_guard in_head root head top).title n ≡ (head_guard root head).title n
  at_head n e = subst (λ k. (template_guard in_head root head top).title k ≡ (head_guard root head).title k) (sym e)
      (head_title root head top (codes "template") apart ∙ sym (titled_head root head (codes "head") apart.head_root))

  same_title : (n : ℕ) → IsKept (head_guard root head) n →
      (template_guard in_head root head top).title n ≡ (head_guard root head).title n
  same_title n (inl e) = subst
      (λ k. (template_guard in_head root head top).title k ≡ (head_guard root head).title k) (sym e)
      (document_title root head top (codes "template") apart.root_made apart.head_made apart.third_made
      ∙ sym (document_title root head head (codes "head") apart.root_made apart.head_made apart.head_made))
  same_title n (inr (inl e)) = at_root n e
  same_title n (inr (inr (inl e))) = at_head n e
  same_title n (inr (inr (inr (inl e)))) = at_head n e
  same_title n (inr (inr (inr (inr (inl e))))) = at_root n e
  same_title n (inr (inr (inr (inr (inr i))))) = absurd i

  forest_after : (f : Forest) → IsKeptForest (template_guard in_head root head top) f →
      IsKeptForest (head_guard root head) f
  forest_after f held = record {
    held = λ n i. held.held n (kept_too n i);
    named = λ n i. held.named n (kept_too n i) ∙ same_title n i;
    others = held.others;
    below_document = held.below_document;
    below_root = held.below_root;
    closed = held.closed;
    within = held.within;
    contents = λ n c e. let was = held.contents n c e in (free_too c was.0, was.1);
  }

  early_after : (s u : State) → IsHeld (template_guard in_head root head top) s → s.frameset_ok ≡ false →
      u.tree.forest ≡ s.tree.forest → u.tree.formatting ≡ before_marker s.tree.formatting → u.head ≡ s.head →
      u.form ≡ s.form → u.template_modes ≡ later_modes s.template_modes → u.frameset_ok ≡ s.frameset_ok →
      IsEarly root head u
  early_after s u held refused forest formatting known form templates ok = record {
    root_made = apart.root_made;
    head_made = apart.head_made;
    head_root = apart.head_root;
    nodes = subst (IsKeptForest (head_guard root head)) (sym forest) (forest_after s.tree.forest held.tree.nodes);
    listed = subst (λ f. AreFreeEntries (head_guard root head) f u.tree.formatting) (sym forest)
        (subst (AreFreeEntries (head_guard root head) s.tree.forest) (sym formatting)
        (λ n tag i.
        let is = (cleared_guarded (template_guard in_head root head top) s.tree own_is held.tree).listed n tag i in
        (free_too n is.0, is.1)));
    known = known ∙ held.head;
    form = λ n e. free_too n (held.form n (sym form ∙ e));
    templates = subst AreLater (sym templates) (still_later s.template_modes held.templates);
    calm = λ e. none (sym (ok ∙ refused) ∙ e);
  }

  -- the mode that is asked for there
  names_there : (s : State) → IsHeld (template_guard in_head root head top) s → (b : Bool) →
      map (λ n. name_of n s.tree.forest) (lowest_below b root head) ≡ names_below b
  names_there s held true = both
      (held.tree.nodes.named head (inr (inr (inr (inl refl)))) ∙ head_title root head top (codes "template") apart)
      (held.tree.nodes.named root (inr (inl refl)) ∙ root_title root head top (codes "template"))
  names_there s held false = ap (λ name. name ∷ [])
      (held.tree.nodes.named root (inr (inl refl)) ∙ root_title root head top (codes "template"))

  mode_there : (template : Option InsertionMode) (b : Bool) →
      reset_mode None true template (names_below b) ≡ mode_below b
  mode_there template true = refl
  mode_there template false = refl

  stack_there : (b : Bool) (u : State) → u.mode ≡ mode_below b → u.tree.stack ≡ lowest_below b root head →
      IsEarlyStack root head u
  stack_there true u m e = stands_in_head m e
  stack_there false u m e = past_head m e

  -- a state w, in which what is lowest is open, and u after setting its mode
  pub trailing : (is_framed : Bool) (s w u : State) → IsHeld (template_guard in_head root head top) s →
      s.frameset_ok ≡ false → w.tree.forest ≡ s.tree.forest → w.tree.formatting ≡ before_marker s.tree.formatting →
      w.tree.stack ≡ lowest_below in_head root head → w.head ≡ s.head → w.form ≡ s.form → w.context ≡ s.context →
      w.template_modes ≡ later_modes s.template_modes → w.frameset_ok ≡ s.frameset_ok →
      u ≡ record w { mode = but_text (mode_by_elements w) } → IsPhase is_framed u
  trailing is_framed s w u held refused forest formatting stack known form page templates ok same =
      let mode : but_text (mode_by_elements w) ≡ mode_below in_head =
      ap but_text (reset_by w head (page ∙ held.page) (known ∙ held.head)
      ∙ (ap (reset_mode None true (first_mode w.template_modes))
      (ap (λ (f : Forest). map (λ n. name_of n f) w.tree.stack) forest
      ∙ (ap (map (λ n. name_of n s.tree.forest)) stack ∙ names_there s held in_head))
      ∙ mode_there (first_mode w.template_modes) in_head)) ∙ no_text in_head in
      subst (IsPhase is_framed) (sym same) (body_to_come root head
      (early_after s (record w { mode = but_text (mode_by_elements w) }) held refused forest formatting known form
      templates ok)
      (stack_there in_head (record w { mode = but_text (mode_by_elements w) }) mode stack))
