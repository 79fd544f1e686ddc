-- What a mark comes to where the body stands and no frameset may come, and in a page of frames.
use Rattle.std.proofs.Common.{◌≡◌, ◌||◌, ◌∙◌, Bool, List, ap, bytes_eq, codes, false, inl, inr, refl, subst, sym, true}
use Rattle.std.proofs.Common.{ℕ}
use Rattle.tree_names.specs.Sets.{is_html, is_one_of}
use Rattle.tree_names.specs.Wanted.{one}
use Rattle.page_tree_laws.proofs.Acting.{ResetsWell, act_held}
use Rattle.page_tree_laws.proofs.EarlyPhases.{ComesTo}
use Rattle.page_tree_laws.proofs.Fits.{CanBuild, Closes, ClosesMark, ClosesTemplate, FitsRow, HasTables, IsHeld}
use Rattle.page_tree_laws.proofs.FittingPages.{FrameFacts, OpenFacts}
use Rattle.page_tree_laws.proofs.FittingRows.{after_after_body_row, after_after_frameset_row, after_body_row}
use Rattle.page_tree_laws.proofs.FittingRows.{after_frameset_row, after_head_row, body_row, in_frameset_row}
use Rattle.page_tree_laws.proofs.FittingRules.{rule_fits}
use Rattle.page_tree_laws.proofs.FittingSteps.{BuildFacts, RowFacts, StackFacts}
use Rattle.page_tree_laws.proofs.FreeElements.{listed_is_free, open_has_free, scope_has_free}
use Rattle.page_tree_laws.proofs.GuardKinds.{AreApart, early_names, frames_guard, frames_guards, going_guard}
use Rattle.page_tree_laws.proofs.GuardKinds.{going_guards, is_of_frames, root_title, third_title}
use Rattle.page_tree_laws.proofs.GuardModes.{frames_resets, going_resets}
use Rattle.page_tree_laws.proofs.Guards.{Guard, IsAboveBase, IsGuard, base_names, may_stand}
use Rattle.page_tree_laws.proofs.Phases.{IsBuilt, going_on, of_frames}
use Rattle.page_tree_laws.proofs.StandingTexts.{text_rule}
use Rattle.page_tree_laws.proofs.Steady.{IsSteady, Keeps, all_refused, row_keeps}
use Rattle.tree_names.specs.Groups.{tag_group}
use Rattle.tree_names.specs.declared.group.TagGroup.{TagGroup}
use Rattle.tree_names.specs.declared.group.TagGroup.TheVariants as groups
use Rattle.rules_table.specs.Actions.{act, act_all, break_out, is_text}
use Rattle.rules_table.specs.Rows.{Row, again, asks, done}
use Rattle.rules_table.specs.Rule.{rule}
use Rattle.rules_table.specs.Settling.{entered}
use Rattle.rules_table.specs.State.{Ask, State, TreeToken, character, comment, doctype, encoding, end_of_file, finish}
use Rattle.rules_table.specs.State.{nothing, null, plaintext, raw, script, start}
use Rattle.rules_table.specs.Table.{row}
use Rattle.tree_predicates.specs.declared.modes.InsertionMode.{InsertionMode}
use Rattle.tree_predicates.specs.declared.modes.InsertionMode.TheVariants as modes

-- the guard after which the body goes on
abbrev pub going : (root head body : ℕ) → Guard
going root head body = going_guard (codes "body") root head body

none : {A : Type 0} → false ≡ true → A
none e = absurd (cc)

-- facts of any guard
pub stack_facts : (g : Guard) → IsGuard g → StackFacts g
stack_facts g is = record {
  scope_has_free = λ barriers set b guarded above e. scope_has_free barriers set g b is guarded above e;
  listed_is_free = λ name n b guarded e. listed_is_free name n g b is guarded e;
}

early_base : (name : List ℕ) → is_one_of early_names name ≡ true → is_one_of base_names name ≡ true
early_base name e = first_two (bytes_eq name (codes "html")) (bytes_eq name (codes "head"))
    (bytes_eq name (codes "body")) (bytes_eq name (codes "frameset")) (bytes_eq name (codes "template")) e where
      first_two : (a b c d k : Bool) → (a || (b || false)) ≡ true → (a || (b || (c || (d || (k || false))))) ≡ true
      first_two true b c d k e = refl
      first_two false true c d k e = refl
      first_two false false c d k e = none e

-- breaking out of foreign content changes neither mode nor flags
pub broken_mode : (s : State) → (act break_out s).mode ≡ s.mode
unfolding act
broken_mode s = refl

broken_refused : (s : State) → s.frameset_ok ≡ false → (act break_out s).frameset_ok ≡ false
unfolding act
broken_refused s e = e

-- after what is asked for flags are as they were
entered_refused : (ask : Ask) (s : State) → s.frameset_ok ≡ false → (entered ask s).frameset_ok ≡ false
entered_refused nothing s e = e
entered_refused plaintext s e = e
entered_refused (raw kind) s e = e
entered_refused (script n) s e = e
entered_refused (encoding name) s e = e

-- the mode "text" alone is one of text
pub only_text : (mode : InsertionMode) → is_text mode ≡ true → mode ≡ modes.Text
only_text modes.Text e = refl
only_text mode e = none e

module _ (root head body : ℕ) (apart : AreApart root head body) where
  pub going_is : IsGuard (going root head body)
  going_is = going_guards (codes "body") root head body refl apart

  pub going_reset : ResetsWell (going root head body)
  going_reset = going_resets (codes "body") root head body refl apart

  pub going_rows : RowFacts (going root head body)
  going_rows = record {
    guard = going_is;
    stack = stack_facts (going root head body) going_is;
    barred_names = early_base;
  }

  pub going_facts : BuildFacts (going root head body)
  going_facts = record {
    rows = going_rows;
    top = record { no_head = λ e. none (sym e); no_frameset = λ e. none (sym e) };
    template = refl;
  }

  going_open : OpenFacts (going root head body)
  going_open = record { body = refl; frameset = refl; in_body = refl; in_frameset = refl }

  going_frames : FrameFacts (going root head body)
  going_frames = record { is_open = refl; frameset = refl; after_frameset = refl; after_after_frameset = refl }

  going_tables : HasTables (going root head body)
  going_tables = record {
    fosters = refl;
    in_body = refl;
    in_table = refl;
    in_table_text = refl;
    in_caption = refl;
    in_column_group = refl;
    in_table_body = refl;
    in_row = refl;
    in_cell = refl;
    in_template = refl;
  }

  -- neither the body nor the root is a template
  no_template : IsAboveBase (going root head body) (one (codes "template"))
  no_template n (inl e) = subst (λ k. is_html (codes "template") ((going root head body).title k) ≡ false)
      (sym e) (ap (is_html (codes "template")) (third_title root head body (codes "body") apart))
  no_template n (inr (inl e)) = subst
      (λ k. is_html (codes "template") ((going root head body).title k) ≡ false) (sym e)
      (ap (is_html (codes "template")) (root_title root head body (codes "body")))
  no_template n (inr (inr i)) = absurd i

  going_closes : (s : State) → IsHeld (going root head body) s →
      ClosesTemplate (going root head body) s
  going_closes s held e = (
    open_has_free (one (codes "template")) (going root head body) s.tree going_is held.tree
        no_template e,
    (refl, λ k. none (sym k)),
  )

  going_can : (s : State) → IsHeld (going root head body) s → s.frameset_ok ≡ false →
      CanBuild (going root head body) s
  going_can s held refused = record {
    goes_on = record { held = held; in_body = refl; ends = λ e. refl };
    tables = going_tables;
    resets = (refl, λ k. none (sym k));
    unframed = refused;
  }

  closes_mark : (mark : TreeToken) (s : State) → IsHeld (going root head body) s →
      ClosesMark (going root head body) s mark
  closes_mark (character c) s held = tt
  closes_mark null s held = tt
  closes_mark (comment cs) s held = tt
  closes_mark (doctype d) s held = tt
  closes_mark (start t) s held = tt
  closes_mark (finish t) s held = by (tag_group t.name) where
    by : (group : TagGroup) → Closes (going root head body) s group
    by groups.Template = going_closes s held
    by group = tt
  closes_mark end_of_file s held = going_closes s held

  going_row : (m : InsertionMode) (mark : TreeToken) (s : State) → s.mode ≡ m → may_stand m ≡ true → is_text s.mode
      ≡ false →
      IsHeld (going root head body) s → s.frameset_ok ≡ false →
      FitsRow (going root head body) s (row m mark s)
  going_row modes.AfterHead mark s at is off held refused = after_head_row (going root head body)
      going_facts going_open mark s (going_can s held refused) (closes_mark mark s held)
  going_row modes.InBody mark s at is off held refused = body_row (going root head body) going_facts
      modes.InBody refl mark s (going_can s held refused) off at (closes_mark mark s held)
  going_row modes.InTable mark s at is off held refused = body_row (going root head body) going_facts
      modes.InTable refl mark s (going_can s held refused) off at (closes_mark mark s held)
  going_row modes.InTableText mark s at is off held refused = body_row (going root head body)
      going_facts modes.InTableText refl mark s (going_can s held refused) off at (closes_mark mark s held)
  going_row modes.InCaption mark s at is off held refused = body_row (going root head body)
      going_facts modes.InCaption refl mark s (going_can s held refused) off at (closes_mark mark s held)
  going_row modes.InColumnGroup mark s at is off held refused = body_row (going root head body)
      going_facts modes.InColumnGroup refl mark s (going_can s held refused) off at (closes_mark mark s held)
  going_row modes.InTableBody mark s at is off held refused = body_row (going root head body)
      going_facts modes.InTableBody refl mark s (going_can s held refused) off at (closes_mark mark s held)
  going_row modes.InRow mark s at is off held refused = body_row (going root head body) going_facts
      modes.InRow refl mark s (going_can s held refused) off at (closes_mark mark s held)
  going_row modes.InCell mark s at is off held refused = body_row (going root head body) going_facts
      modes.InCell refl mark s (going_can s held refused) off at (closes_mark mark s held)
  going_row modes.InTemplate mark s at is off held refused = body_row (going root head body)
      going_facts modes.InTemplate refl mark s (going_can s held refused) off at (closes_mark mark s held)
  going_row modes.AfterBody mark s at is off held refused = after_body_row (going root head body) mark
      s (going_can s held refused).goes_on refl
  going_row modes.AfterAfterBody mark s at is off held refused = after_after_body_row
      (going root head body) mark s (going_can s held refused).goes_on
  going_row modes.InFrameset mark s at is off held refused = in_frameset_row (going root head body)
      going_rows going_frames mark s held
  going_row modes.AfterFrameset mark s at is off held refused = after_frameset_row
      (going root head body) going_rows going_frames mark s
  going_row modes.AfterAfterFrameset mark s at is off held refused = after_after_frameset_row
      (going root head body) going_rows mark s
  going_row m mark s at is off held refused = none is

  going_keeps : (is_framed : Bool) (r : Row) (s : State) → s.frameset_ok ≡ false →
      Keeps (going root head body) going_is going_reset s r → ComesTo (IsBuilt is_framed) s r
  going_keeps is_framed (done actions) s refused keeps =
      (going_on root head body apart keeps (all_refused actions s refused))
  going_keeps is_framed (asks ask actions) s refused keeps = (going_on root head body apart keeps
      (entered_refused ask (act_all actions s) (all_refused actions s refused)))
  going_keeps is_framed (again actions) s refused keeps =
      (going_on root head body apart keeps (all_refused actions s refused))

  broken_held : (s : State) → IsHeld (going root head body) s →
      IsHeld (going root head body) (act break_out s)
  broken_held s held = act_held (going root head body) going_is going_reset break_out s tt held

  going_broken : (mark : TreeToken) (s : State) → is_text s.mode ≡ false →
      IsHeld (going root head body) s → s.frameset_ok ≡ false →
      FitsRow (going root head body) (act break_out s) (row s.mode mark (act break_out s))
  going_broken mark s off held refused = going_row s.mode mark (act break_out s) (broken_mode s)
      (held.mode off) (ap is_text (broken_mode s) ∙ off) (broken_held s held) (broken_refused s refused)

  pub going_rule : (is_framed : Bool) (mark : TreeToken) (s : State) → IsSteady (going root head body) s →
      s.frameset_ok ≡ false → ComesTo (IsBuilt is_framed) s (rule mark s)
  going_rule is_framed mark s steady refused = by (is_text s.mode) refl where
    by : (b : Bool) → is_text s.mode ≡ b → ComesTo (IsBuilt is_framed) s (rule mark s)
    by true e = text_rule (going root head body) going_is going_reset s (only_text s.mode e) steady (IsBuilt is_framed)
        (λ actions even now. (going_on root head body apart now (all_refused actions s refused))) mark
    by false off = going_keeps is_framed (rule mark s) s refused
        (row_keeps (going root head body) going_is going_reset (rule mark s) s
        (rule_fits (going root head body) mark s
        (going_row s.mode mark s refl (steady.held.mode off) off steady.held refused)
        (going_broken mark s off steady.held refused)) steady.held off)

module _ (root head frameset : ℕ) (apart : AreApart root head frameset) where
  frames_is : IsGuard (frames_guard root head frameset)
  frames_is = frames_guards root head frameset apart

  frames_reset : ResetsWell (frames_guard root head frameset)
  frames_reset = frames_resets root head frameset

  frames_rows : RowFacts (frames_guard root head frameset)
  frames_rows = record {
    guard = frames_is;
    stack = stack_facts (frames_guard root head frameset) frames_is;
    barred_names = early_base;
  }

  frames_facts : FrameFacts (frames_guard root head frameset)
  frames_facts = record { is_open = refl; frameset = refl; after_frameset = refl; after_after_frameset = refl }

  frames_row : (m : InsertionMode) (mark : TreeToken) (s : State) → is_of_frames m ≡ true →
      IsHeld (frames_guard root head frameset) s → FitsRow (frames_guard root head frameset) s (row m mark s)
  frames_row modes.InFrameset mark s is held =
      in_frameset_row (frames_guard root head frameset) frames_rows frames_facts mark s held
  frames_row modes.AfterFrameset mark s is held =
      after_frameset_row (frames_guard root head frameset) frames_rows frames_facts mark s
  frames_row modes.AfterAfterFrameset mark s is held =
      after_after_frameset_row (frames_guard root head frameset) frames_rows mark s
  frames_row m mark s is held = none is

  frames_keeps : (is_framed : Bool) (r : Row) (s : State) → is_framed ≡ true →
      Keeps (frames_guard root head frameset) frames_is frames_reset s r → ComesTo (IsBuilt is_framed) s r
  frames_keeps is_framed (done actions) s emitted keeps = (of_frames root head frameset apart emitted keeps)
  frames_keeps is_framed (asks ask actions) s emitted keeps = (of_frames root head frameset apart emitted keeps)
  frames_keeps is_framed (again actions) s emitted keeps = (of_frames root head frameset apart emitted keeps)

  pub frames_rule : (is_framed : Bool) (mark : TreeToken) (s : State) → is_framed ≡ true →
      IsSteady (frames_guard root head frameset) s → ComesTo (IsBuilt is_framed) s (rule mark s)
  frames_rule is_framed mark s emitted steady = by (is_text s.mode) refl where
    by : (b : Bool) → is_text s.mode ≡ b → ComesTo (IsBuilt is_framed) s (rule mark s)
    by true e = text_rule (frames_guard root head frameset) frames_is frames_reset s (only_text s.mode e) steady
        (IsBuilt is_framed)
        (λ actions even now. (of_frames root head frameset apart emitted now)) mark
    by false off = frames_keeps is_framed (rule mark s) s emitted
        (row_keeps (frames_guard root head frameset) frames_is frames_reset (rule mark s) s
        (rule_fits (frames_guard root head frameset) mark s
        (frames_row s.mode mark s (steady.held.mode off) steady.held)
        (frames_row s.mode mark (act break_out s) (steady.held.mode off)
        (act_held (frames_guard root head frameset) frames_is frames_reset break_out s tt steady.held))) steady.held
        off)
