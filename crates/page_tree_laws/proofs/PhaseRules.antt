-- What a mark comes to, by how far the page is built.
use Rattle.std.proofs.Common.{◌≡◌, ◌||◌, if◌then◌else◌, [], ◌∷◌, ◌⊎◌, ◌∙◌, Bool, List, None, Option, Some, ap, codes}
use Rattle.std.proofs.Common.{false, inl, inr, refl, subst, suc, sym, true, zero, ℕ}
use Rattle.tree_forest.specs.Forest.{is_integration_point, name_of}
use Rattle.html_tree_state.specs.Foreign.{adjusted_current}
use Rattle.html_tree_state.specs.OpenElements.{first_of}
use Rattle.page_tree_laws.proofs.BareRows.{before_html_row, initial_row}
use Rattle.page_tree_laws.proofs.BodyRows.{body_rule}
use Rattle.page_tree_laws.proofs.EarlyModes.{IsEmittedMark, head_row, in_place_of_head, in_the_head, root_named}
use Rattle.page_tree_laws.proofs.EarlyPhases.{Comes, ComesTo, head_named}
use Rattle.page_tree_laws.proofs.Forms.{IsFormed, all_formed}
use Rattle.page_tree_laws.proofs.GoingRows.{frames_rule, going_rule, only_text}
use Rattle.page_tree_laws.proofs.GuardKinds.{AreApart, root_title, stands_in_template, template_guard}
use Rattle.page_tree_laws.proofs.NoscriptRows.{after_head_text, after_noscript_text, after_text, noscript_row, text_row}
use Rattle.page_tree_laws.proofs.PastHeadRows.{past_head_row}
use Rattle.page_tree_laws.proofs.Phases.{IsBuilt, IsEarly, IsEarlyStack, IsPhase, body_open, body_to_come, built}
use Rattle.page_tree_laws.proofs.Phases.{doctype_to_come, going_on, head_to_come, in_head, in_noscript, of_frames}
use Rattle.page_tree_laws.proofs.Phases.{past_head, root_to_come, template_open, text_of_head, text_of_noscript}
use Rattle.page_tree_laws.proofs.Phases.{text_past_head}
use Rattle.page_tree_laws.proofs.RootRows.{before_head_row}
use Rattle.page_tree_laws.proofs.PageReady.{ActionsKeep, Ready}
use Rattle.rules_table.specs.Actions.{act_all, in_html, is_text}
use Rattle.rules_table.specs.ForeignContent.{is_by_mode, is_taken_at, node_here, takes}
use Rattle.rules_table.specs.Rows.{Row, again, asks, done}
use Rattle.rules_table.specs.Rule.{foreign_row, rule}
use Rattle.rules_table.specs.Settling.{Settled, entered, given_by, settle}
use Rattle.rules_table.specs.State.{Ask, State, TreeToken, character, comment, doctype, encoding, end_of_file, finish}
use Rattle.rules_table.specs.State.{nothing, null, plaintext, raw, script, start}
use Rattle.rules_table.specs.Table.{row}
use Rattle.tree_predicates.specs.declared.modes.InsertionMode.{InsertionMode}
use Rattle.tree_predicates.specs.declared.modes.InsertionMode.TheVariants as modes
use Rattle.page_tree_laws.proofs.Steady.{IsSteady}
use Rattle.page_tree_laws.proofs.TemplateClosings.{has_one}
use Rattle.page_tree_laws.proofs.TemplateEntries.{template_started}
use Rattle.page_tree_laws.proofs.TemplateRules.{template_rule}
use Rattle.page_tree_laws.proofs.TemplateSteps.{top_named}
use Rattle.rules_table.specs.Asking.{has_template}
use Rattle.rules_table.specs.InBody.{in_template_end_of_file}
use Rattle.rules_table.specs.declared.target.Target.TheVariants as targets

-- where nothing, or an element of HTML, is the current node, the mode takes each mark
or_right : (x y : Bool) → y ≡ true → (x || y) ≡ true
or_right true y e = refl
or_right false y e = e

html_takes : (mark : TreeToken) (word : List ℕ) (p : Bool) → takes mark (in_html word) p ≡ true
html_takes (character c) word p = refl
html_takes null word p = refl
html_takes (comment cs) word p = refl
html_takes (doctype d) word p = refl
html_takes (start t) word p = refl
html_takes (finish t) word p = refl
html_takes end_of_file word p = refl

here_first : (context : Option ℕ) (ns : List ℕ) → context ≡ None → adjusted_current context ns ≡ first_of ns
here_first None ns e = refl
here_first (Some n) ns e = absurd (let k : Some n ≡ None = e in cc)

none_here : (mark : TreeToken) (s : State) → s.context ≡ None → s.tree.stack ≡ [] → is_by_mode mark s ≡ true
none_here mark s page e = or_right (is_text s.mode) (is_taken_at mark s.tree.forest (node_here s))
    (ap (is_taken_at mark s.tree.forest) (here_first s.context s.tree.stack page ∙ ap first_of e))

html_here : (mark : TreeToken) (n : ℕ) (ns word : List ℕ) (s : State) → s.context ≡ None → s.tree.stack ≡ n ∷ ns →
    name_of n s.tree.forest ≡ in_html word → is_by_mode mark s ≡ true
html_here mark n ns word s page e named = or_right (is_text s.mode) (is_taken_at mark s.tree.forest (node_here s))
    (ap (is_taken_at mark s.tree.forest) (here_first s.context s.tree.stack page ∙ ap first_of e)
    ∙ (ap (λ name. takes mark name (is_integration_point n s.tree.forest)) named
    ∙ html_takes mark word (is_integration_point n s.tree.forest)))

by_true : (P : State → Type 0) (b : Bool) (s : State) (x y : Row) → b ≡ true → ComesTo P s x →
    ComesTo P s (if b then x else y)
by_true P true s x y e comes = comes
by_true P false s x y e comes = absurd (let k : false ≡ true = e in cc)

-- the rule of a mode
by_mode : (P : State → Type 0) (mark : TreeToken) (m : InsertionMode) (s : State) → is_by_mode mark s ≡ true → s.mode
    ≡ m →
    ComesTo P s (row m mark s) → ComesTo P s (rule mark s)
by_mode P mark m s by at comes = by_true P (is_by_mode mark s) s (row s.mode mark s) (foreign_row mark s) by
    (subst (λ k. ComesTo P s (row k mark s)) (sym at) comes)

or_left : (x y : Bool) → x ≡ true → (x || y) ≡ true
or_left true y e = refl
or_left false y e = absurd (let k : false ≡ true = e in cc)

text_by_mode : (mark : TreeToken) (s : State) → s.mode ≡ modes.Text → is_by_mode mark s ≡ true
text_by_mode mark s at =
    or_left (is_text s.mode) (is_taken_at mark s.tree.forest (node_here s)) (ap is_text at)

module _ (is_framed : Bool) (keep : ActionsKeep) where
  early_rule : (root head : ℕ) (mark : TreeToken) (s : State) → IsEmittedMark is_framed mark → Ready s → IsFormed s →
      IsEarly root head s → IsEarlyStack root head s → Comes is_framed s (rule mark s)
  early_rule root head mark s emitted ready formed early (in_head m e) =
      by_mode (IsPhase is_framed) mark modes.InHead s
      (html_here mark head (root ∷ []) (codes "head") s ready.page e (head_named is_framed root head s early)) m
      (head_row is_framed root head mark s (λ t named. template_started is_framed true root head keep targets.AtPlace
      t s
      named early ready formed (in_place_of_head is_framed root head s (root ∷ []) early e) e) early m e)
  early_rule root head mark s emitted ready formed early (in_noscript n m e other held named) =
      by_mode (IsPhase is_framed) mark modes.InHeadNoscript s
      (html_here mark n (head ∷ root ∷ []) (codes "noscript") s ready.page e named) m
      (noscript_row is_framed root head mark n s early m e other held named)
  early_rule root head mark s emitted ready formed early (past_head m e) =
      by_mode (IsPhase is_framed) mark modes.AfterHead s
      (html_here mark root [] (codes "html") s ready.page e (root_named is_framed root head s early)) m
      (past_head_row is_framed root head mark s emitted (λ t named. template_started is_framed false root head keep
      targets.IntoHead t s named early ready formed (in_the_head is_framed root head s early) e) early ready.page
      formed m
      e)
  early_rule root head mark s emitted ready formed early (text_of_head n m o e) =
      by_mode (IsPhase is_framed) mark modes.Text s (text_by_mode mark s m) m
      (text_row is_framed root head mark s early (text_of_head n m o e) (after_head_text is_framed root head n s o e))
  early_rule root head mark s emitted ready formed early (text_of_noscript k n m o e other held named) =
      by_mode (IsPhase is_framed) mark modes.Text s (text_by_mode mark s m) m
      (text_row is_framed root head mark s early (text_of_noscript k n m o e other held named)
      (after_noscript_text is_framed root head k n s o e other held named))
  early_rule root head mark s emitted ready formed early (text_past_head n m o e) =
      by_mode (IsPhase is_framed) mark modes.Text s (text_by_mode mark s m) m
      (text_row is_framed root head mark s early (text_past_head n m o e) (after_text is_framed root head n s o e))

  pub built_rule : (mark : TreeToken) (s : State) → IsEmittedMark is_framed mark → Ready s → IsFormed s →
      IsBuilt is_framed s →
      ComesTo (IsBuilt is_framed) s (rule mark s)
  built_rule mark s emitted ready formed (body_open root head body apart steady) =
      body_rule is_framed root head body apart keep mark s emitted steady ready formed
  built_rule mark s emitted ready formed (going_on root head body apart steady refused) =
      going_rule root head body apart is_framed mark s steady refused
  built_rule mark s emitted ready formed (of_frames root head frameset apart framed steady) =
      frames_rule root head frameset apart is_framed mark s framed steady

  as_phase : (r : Row) (s : State) → ComesTo (IsBuilt is_framed) s r → Comes is_framed s r
  as_phase (done actions) s comes = built comes
  as_phase (asks ask actions) s comes = built comes
  as_phase (again actions) s comes = built comes

  pub phase_rule : (mark : TreeToken) (s : State) → IsEmittedMark is_framed mark → Ready s → IsFormed s →
      IsPhase is_framed s →
      Comes is_framed s (rule mark s)
  phase_rule mark s emitted ready formed (doctype_to_come m bare) = by_mode (IsPhase is_framed) mark modes.Initial s
      (none_here mark s ready.page bare.stack) m (initial_row is_framed mark s ready.sound.forest m bare)
  phase_rule mark s emitted ready formed (root_to_come m bare) = by_mode (IsPhase is_framed) mark modes.BeforeHtml s
      (none_here mark s ready.page bare.stack) m (before_html_row is_framed mark s ready.sound.forest m bare)
  phase_rule mark s emitted ready formed (head_to_come root is) = by_mode (IsPhase is_framed) mark modes.BeforeHead s
      (html_here mark root [] (codes "html") s ready.page is.stack
      (is.nodes.named root (inr (inl refl)) ∙ root_title root root root (codes "html"))) is.mode
      (before_head_row is_framed root mark s is)
  phase_rule mark s emitted ready formed (body_to_come root head early stack) =
      early_rule root head mark s emitted ready formed early stack
  phase_rule mark s emitted ready formed (template_open within_head root head top apart steady refused counted) =
      template_rule is_framed within_head root head top apart mark s steady refused counted
  phase_rule mark s emitted ready formed (built is) =
      as_phase (rule mark s) s (built_rule mark s emitted ready formed is)

  -- after what is asked for
  pub entered_ready : (ask : Ask) (s : State) → Ready s → Ready (entered ask s)
  entered_ready nothing s ready = ready
  entered_ready plaintext s ready = ready
  entered_ready (raw kind) s ready = record { sound = ready.sound; head = ready.head; page = ready.page }
  entered_ready (script n) s ready = ready
  entered_ready (encoding name) s ready = ready

  pub entered_formed : (ask : Ask) (s : State) → IsFormed s → IsFormed (entered ask s)
  entered_formed nothing s formed = formed
  entered_formed plaintext s formed = formed
  entered_formed (raw kind) s formed = formed
  entered_formed (script n) s formed = formed
  entered_formed (encoding name) s formed = formed

  -- what holds between two marks
  pub record IsOn (P : State → Type 0) (s : State) : Type 0 where
    pub ready : Ready s
    pub formed : IsFormed s
    pub phase : P s

  given_on : (P : State → Type 0) (r : Row) (s : State) (further : State → Settled) → Ready s → IsFormed s →
      ComesTo P s r → ((t : State) → IsOn P t → IsOn P (further t).state) → IsOn P (given_by r s further).state
  given_on P (done actions) s further ready formed comes more =
      let trailing = all_formed keep actions s ready formed in
      record { ready = trailing.0; formed = trailing.1; phase = comes }
  given_on P (asks ask actions) s further ready formed comes more =
      let trailing = all_formed keep actions s ready formed in
      record {
        ready = entered_ready ask (act_all actions s) trailing.0;
        formed = entered_formed ask (act_all actions s) trailing.1;
        phase = comes;
      }
  given_on P (again actions) s further ready formed comes more =
      let trailing = all_formed keep actions s ready formed in
      more (act_all actions s) (record { ready = trailing.0; formed = trailing.1; phase = comes })

  -- a mark is taken by as many rules as it takes
  pub settled_on : (k : ℕ) (mark : TreeToken) (s : State) → IsEmittedMark is_framed mark → IsOn (IsPhase is_framed) s →
      IsOn (IsPhase is_framed) (settle k mark s).state
  settled_on zero mark s emitted on = on
  settled_on (suc k) mark s emitted on = given_on (IsPhase is_framed) (rule mark s) s (settle k mark) on.ready on.formed
      (phase_rule mark s emitted on.ready on.formed on.phase) (λ t now. settled_on k mark t emitted now)

-- in front of the body the end of the page is handed on
abbrev pub is_again : Row → Bool
is_again (done actions) = false
is_again (asks ask actions) = false
is_again (again actions) = true

again_if : (b : Bool) (x y : Row) → b ≡ true → is_again x ≡ true → is_again (if b then x else y) ≡ true
again_if true x y e is = is
again_if false x y e is = absurd (let k : false ≡ true = e in cc)

again_by : (m : InsertionMode) (s : State) → is_by_mode end_of_file s ≡ true → s.mode ≡ m →
    is_again (row m end_of_file s) ≡ true → is_again (rule end_of_file s) ≡ true
again_by m s by at is = again_if (is_by_mode end_of_file s) (row s.mode end_of_file s) (foreign_row end_of_file s) by
    (subst (λ k. is_again (row k end_of_file s) ≡ true) (sym at) is)

early_again_row : (is_framed : Bool) (root head : ℕ) (s : State) → Ready s → IsEarly root head s →
    IsEarlyStack root head s → is_again (rule end_of_file s) ≡ true
early_again_row is_framed root head s ready early (in_head m e) = again_by modes.InHead s
    (html_here end_of_file head (root ∷ []) (codes "head") s ready.page e (head_named is_framed root head s early)) m
    refl
early_again_row is_framed root head s ready early (in_noscript n m e other held named) = again_by modes.InHeadNoscript s
    (html_here end_of_file n (head ∷ root ∷ []) (codes "noscript") s ready.page e named) m refl
early_again_row is_framed root head s ready early (past_head m e) = again_by modes.AfterHead s
    (html_here end_of_file root [] (codes "html") s ready.page e (root_named is_framed root head s early)) m refl
early_again_row is_framed root head s ready early (text_of_head n m o e) =
    again_by modes.Text s (text_by_mode end_of_file s m) m refl
early_again_row is_framed root head s ready early (text_of_noscript k n m o e other held named) =
    again_by modes.Text s (text_by_mode end_of_file s m) m refl
early_again_row is_framed root head s ready early (text_past_head n m o e) =
    again_by modes.Text s (text_by_mode end_of_file s m) m refl

-- where a template is open it closes it, whatever the mode
none : {A : Type 0} → false ≡ true → A
none e = absurd (cc)

file_again : (s : State) → has_template s ≡ true → is_again (in_template_end_of_file s) ≡ true
file_again s e = again_if (has_template s) _ _ e refl

template_file : (m : InsertionMode) (s : State) → is_text m ≡ false → stands_in_template m ≡ true →
    has_template s ≡ true → is_again (row m end_of_file s) ≡ true
template_file modes.InTableText s off is e = refl
template_file modes.InBody s off is e = file_again s e
template_file modes.InTable s off is e = file_again s e
template_file modes.InCaption s off is e = file_again s e
template_file modes.InColumnGroup s off is e = file_again s e
template_file modes.InTableBody s off is e = file_again s e
template_file modes.InRow s off is e = file_again s e
template_file modes.InCell s off is e = file_again s e
template_file modes.InTemplate s off is e = file_again s e
template_file m s off is e = none is

ends_by_mode : (s : State) → is_by_mode end_of_file s ≡ true
ends_by_mode s = or_right (is_text s.mode) (is_taken_at end_of_file s.tree.forest (node_here s))
    (ends_taken (node_here s)) where
      ends_taken : (found : Option ℕ) → is_taken_at end_of_file s.tree.forest found ≡ true
      ends_taken None = refl
      ends_taken (Some n) = refl

template_again : (within_head : Bool) (root head top : ℕ) (apart : AreApart root head top) (s : State) →
    IsSteady (template_guard within_head root head top) s → is_again (rule end_of_file s) ≡ true
template_again within_head root head top apart s steady = by (is_text s.mode) refl where
  by : (b : Bool) → is_text s.mode ≡ b → is_again (rule end_of_file s) ≡ true
  by true e = again_by modes.Text s (text_by_mode end_of_file s (only_text s.mode e)) (only_text s.mode e) refl
  by false off = again_by s.mode s (ends_by_mode s) refl
      (template_file s.mode s off (steady.held.mode off)
      (has_one (template_guard within_head root head top) s.tree.forest s.tree.stack refl
      (top_named within_head root head top apart s steady.held) steady.held.tree.standing))

-- a body, or a frameset, stands, or the end is handed on
pub again_before : (is_framed : Bool) (s : State) → Ready s → IsPhase is_framed s →
    IsBuilt is_framed s ⊎ (is_again (rule end_of_file s) ≡ true)
again_before is_framed s ready (doctype_to_come m bare) =
    inr (again_by modes.Initial s (none_here end_of_file s ready.page bare.stack) m refl)
again_before is_framed s ready (root_to_come m bare) =
    inr (again_by modes.BeforeHtml s (none_here end_of_file s ready.page bare.stack) m refl)
again_before is_framed s ready (head_to_come root is) = inr (again_by modes.BeforeHead s
    (html_here end_of_file root [] (codes "html") s ready.page is.stack
    (is.nodes.named root (inr (inl refl)) ∙ root_title root root root (codes "html"))) is.mode refl)
again_before is_framed s ready (body_to_come root head early stack) =
    inr (early_again_row is_framed root head s ready early stack)
again_before is_framed s ready (template_open within_head root head top apart steady refused counted) =
    inr (template_again within_head root head top apart s steady)
again_before is_framed s ready (built is) = inl is
