-- What a mark comes to where the body may still give way to a frameset.
use Rattle.std.proofs.Common.{◌≡◌, if◌then◌else◌, [], ◌∷◌, ◌∙◌, Bool, List, None, Some, ap, codes, false, inl, inr}
use Rattle.std.proofs.Common.{refl, subst, sym, true, ℕ}
use Rattle.html_lexemes.specs.declared.token.Tag.{Tag}
use Rattle.tree_names.specs.Sets.{is_html}
use Rattle.tree_names.specs.Wanted.{one}
use Rattle.tree_forest.specs.Forest.{name_of}
use Rattle.page_tree_laws.proofs.Acting.{ResetsWell, act_held}
use Rattle.page_tree_laws.proofs.BodyWeakened.{early_again, going_held, opened_second}
use Rattle.page_tree_laws.proofs.BuiltRules.{Leads, rule_comes}
use Rattle.page_tree_laws.proofs.EarlyModes.{IsEmittedGroup, IsEmittedMark}
use Rattle.page_tree_laws.proofs.EarlyPhases.{ComesTo, comes_to_if}
use Rattle.page_tree_laws.proofs.Fits.{CanGoOn, Closes, ClosesTemplate, FitAll, FitsRow, IsHeld}
use Rattle.page_tree_laws.proofs.FittingEnds.{body_end_fits}
use Rattle.page_tree_laws.proofs.FittingRows.{after_after_body_row, after_body_row, in_body_row}
use Rattle.page_tree_laws.proofs.FittingStarts.{body_start_fits}
use Rattle.page_tree_laws.proofs.FittingSteps.{RowFacts, TopFacts, group_unbarred, word_unbarred}
use Rattle.page_tree_laws.proofs.Forms.{IsFormed, act_formed, all_formed}
use Rattle.page_tree_laws.proofs.FreeElements.{open_has_free}
use Rattle.page_tree_laws.proofs.GoingRows.{broken_mode, going, going_is, going_reset, going_rows, only_text}
use Rattle.page_tree_laws.proofs.GoingRows.{stack_facts}
use Rattle.page_tree_laws.proofs.GroupNames.{element_passes, template_named}
use Rattle.page_tree_laws.proofs.GuardKinds.{AreApart, body_guard, body_guards, is_of_body, root_title, third_title}
use Rattle.page_tree_laws.proofs.GuardModes.{body_resets}
use Rattle.page_tree_laws.proofs.Guards.{HasFree, IsAboveBase, IsGuard, base_names}
use Rattle.page_tree_laws.proofs.PastHeadRows.{frameset_built}
use Rattle.page_tree_laws.proofs.Phases.{IsBuilt, body_open, going_on}
use Rattle.page_tree_laws.proofs.StandingTexts.{text_rule}
use Rattle.page_tree_laws.proofs.Steady.{IsSteady, Keeps, all_steady, row_keeps}
use Rattle.tree_names.specs.Groups.{tag_group}
use Rattle.tree_names.specs.declared.group.TagGroup.{TagGroup}
use Rattle.tree_names.specs.declared.group.TagGroup.TheVariants as groups
use Rattle.page_tree_laws.proofs.PageReady.{ActionsKeep, Ready}
use Rattle.rules_table.specs.Actions.{Action, act, act_all, at_place, break_out, close_p, go_to, insert, is_text}
use Rattle.rules_table.specs.Actions.{pop_down_to, push_template_mode, put_marker, refuse_frameset, take_out}
use Rattle.rules_table.specs.Asking.{body_of, if_body, is_quirky}
use Rattle.rules_table.specs.InBody.{in_body_start}
use Rattle.rules_table.specs.InBodyBlocks.{frameset_start, in_place_of_body, table_start}
use Rattle.rules_table.specs.InHead.{in_head_start}
use Rattle.rules_table.specs.Rows.{Row, again, asks, done, ignored}
use Rattle.rules_table.specs.Rule.{rule}
use Rattle.rules_table.specs.State.{TreeToken, State, character, comment, doctype, end_of_file, finish, null, start}
use Rattle.rules_table.specs.Table.{row}
use Rattle.tree_predicates.specs.declared.modes.InsertionMode.{InsertionMode}
use Rattle.tree_predicates.specs.declared.modes.InsertionMode.TheVariants as modes

none : {A : Type 0} → false ≡ true → A
none e = absurd (cc)

module _ (is_framed : Bool) (root head body : ℕ) (apart : AreApart root head body) where
  own_is : IsGuard (body_guard root head body)
  own_is = body_guards root head body apart

  own_reset : ResetsWell (body_guard root head body)
  own_reset = body_resets root head body

  own_rows : RowFacts (body_guard root head body)
  own_rows = record {
    guard = own_is;
    stack = stack_facts (body_guard root head body) own_is;
    barred_names = λ name e. e;
  }

  own_top : TopFacts (body_guard root head body)
  own_top = record {
    no_head = λ e. ap (is_html (codes "head")) (third_title root head body (codes "body") apart);
    no_frameset = λ e. ap (is_html (codes "frameset")) (third_title root head body (codes "body") apart);
  }

  -- no template is open
  no_template : IsAboveBase (body_guard root head body) (one (codes "template"))
  no_template n (inl e) = subst (λ k. is_html (codes "template") ((body_guard root head body).title k) ≡ false)
      (sym e) (ap (is_html (codes "template")) (third_title root head body (codes "body") apart))
  no_template n (inr (inl e)) = subst
      (λ k. is_html (codes "template") ((body_guard root head body).title k) ≡ false) (sym e)
      (ap (is_html (codes "template")) (root_title root head body (codes "body")))
  no_template n (inr (inr i)) = absurd i

  closes_none : (s : State) → IsHeld (body_guard root head body) s → ClosesTemplate (body_guard root head body) s
  closes_none s held e =
      let has : HasFree (body_guard root head body) (one (codes "template")) s.tree.forest s.tree.stack =
      open_has_free (one (codes "template")) (body_guard root head body) s.tree own_is held.tree no_template e in
      none (sym (held.tree.unbarred has.node has.is_open has.free).1
      ∙ element_passes (codes "template" ∷ []) base_names (name_of has.node s.tree.forest) refl has.named)

  can : (s : State) → IsHeld (body_guard root head body) s → CanGoOn (body_guard root head body) s
  can s held = record { held = held; in_body = refl; ends = λ e. refl }

  closes : (group : TagGroup) (s : State) → IsHeld (body_guard root head body) s →
      Closes (body_guard root head body) s group
  closes groups.Template s held = closes_none s held
  closes group s held = tt

  -- what fits keeps the body open
  keeps : (r : Row) (s : State) → Keeps (body_guard root head body) own_is own_reset s r →
      ComesTo (IsBuilt is_framed) s r
  keeps (done actions) s now = (body_open root head body apart now)
  keeps (asks ask actions) s now = (body_open root head body apart now)
  keeps (again actions) s now = (body_open root head body apart now)

  fits : (r : Row) (s : State) → FitsRow (body_guard root head body) s r → IsHeld (body_guard root head body) s →
      is_text s.mode ≡ false → ComesTo (IsBuilt is_framed) s r
  fits r s fit held off = keeps r s (row_keeps (body_guard root head body) own_is own_reset r s fit held off)

  -- a table: no frameset may come after it
  refused : (actions : List Action) (s : State) → FitAll (going root head body) actions s →
      IsHeld (body_guard root head body) s → is_text s.mode ≡ false → (act_all actions s).frameset_ok ≡ false →
      IsBuilt is_framed (act_all actions s)
  refused actions s fit held off none_more = (going_on root head body apart
      (all_steady (going root head body) (going_is root head body apart) (going_reset root head body apart) actions s
      fit
      (going_held root head body s held) off) none_more)

  table_comes : (t : Tag) (s : State) → tag_group t.name ≡ groups.Table → IsHeld (body_guard root head body) s →
      is_text s.mode ≡ false → ComesTo (IsBuilt is_framed) s (table_start t s)
  unfolding act
  table_comes t s named held off =
      let free = group_unbarred (going root head body) (going_rows root head body apart) t groups.Table named refl in
      comes_to_if (is_quirky s.quirks) (IsBuilt is_framed) s
      (done (insert at_place t ∷ refuse_frameset ∷ go_to modes.InTable ∷ []))
      (done (close_p ∷ insert at_place t ∷ refuse_frameset ∷ go_to modes.InTable ∷ []))
      (λ e. refused (insert at_place t ∷ refuse_frameset ∷ go_to modes.InTable ∷ []) s (free, (tt, (refl, tt))) held off
      refl)
      (λ e. refused (close_p ∷ insert at_place t ∷ refuse_frameset ∷ go_to modes.InTable ∷ []) s
      (tt, (free, (tt, (refl, tt)))) held off refl)

  -- and so with a template
  template_comes : (t : Tag) (s : State) → tag_group t.name ≡ groups.Template →
      IsHeld (body_guard root head body) s → is_text s.mode ≡ false →
      ComesTo (IsBuilt is_framed) s (in_head_start at_place groups.Template t s)
  unfolding act
  template_comes t s named held off =
      refused (insert at_place t ∷ put_marker ∷ refuse_frameset ∷ go_to modes.InTemplate
      ∷ push_template_mode modes.InTemplate ∷ []) s (
        word_unbarred (going root head body) t (codes "template") (template_named t.name named) refl,
        (tt, (tt, (refl, (refl, tt)))),
      ) held off refl

  -- a frameset takes the place of the body
  body_found : (s : State) → IsHeld (body_guard root head body) s → body_of s ≡ Some body
  body_found s held = ap (if_body s.tree) (opened_second root head body s.tree.stack held.tree.standing)
      ∙ by (is_html (codes "body") (name_of body s.tree.forest))
      (ap (is_html (codes "body")) (held.tree.nodes.named body (inr (inr (inl refl)))
      ∙ third_title root head body (codes "body") apart)) where
        by : (b : Bool) → b ≡ true → (if b then Some body else None) ≡ Some body
        by true e = refl
        by false e = none e

  frameset_planted : ActionsKeep → (t : Tag) (s : State) → tag_group t.name ≡ groups.Frameset → is_framed ≡ true →
      IsHeld (body_guard root head body) s → Ready s → IsFormed s →
      ComesTo (IsBuilt is_framed) s (in_place_of_body (body_of s) t)
  frameset_planted keep t s named emitted held ready formed = subst
      (λ found. ComesTo (IsBuilt is_framed) s (in_place_of_body found t)) (sym (body_found s held))
      (let cleared : List Action = take_out body ∷ pop_down_to (one (codes "html")) ∷ [] in
      let early = early_again root head body apart s held in
      let trailing = all_formed keep cleared s ready formed in
      frameset_built is_framed root head t (act_all cleared s) named emitted early.0 trailing.0.page trailing.1 early.1)

  frameset_start_comes : ActionsKeep → (t : Tag) (s : State) → tag_group t.name ≡ groups.Frameset →
      is_framed ≡ true → IsHeld (body_guard root head body) s → is_text s.mode ≡ false → Ready s → IsFormed s →
      ComesTo (IsBuilt is_framed) s (frameset_start t s)
  frameset_start_comes keep t s named emitted held off ready formed = comes_to_if s.frameset_ok (IsBuilt is_framed) s
      (in_place_of_body (body_of s) t) ignored
      (λ e. frameset_planted keep t s named emitted held ready formed) (λ e. fits ignored s tt held off)

  -- the mode "in body"
  body_start : ActionsKeep → (group : TagGroup) (t : Tag) (s : State) → tag_group t.name ≡ group →
      IsEmittedGroup is_framed group → IsHeld (body_guard root head body) s → is_text s.mode ≡ false → Ready s →
      IsFormed s → ComesTo (IsBuilt is_framed) s (in_body_start group t s)
  body_start keep groups.Table t s named emitted held off ready formed = table_comes t s named held off
  body_start keep groups.Template t s named emitted held off ready formed = template_comes t s named held off
  body_start keep groups.Frameset t s named emitted held off ready formed =
      frameset_start_comes keep t s named emitted held off ready formed
  body_start keep group t s named emitted held off ready formed = fits (in_body_start group t s) s
      (body_start_fits (body_guard root head body) own_rows group t s named (can s held) tt) held off

  body_mark : ActionsKeep → (mark : TreeToken) (s : State) → IsEmittedMark is_framed mark →
      IsHeld (body_guard root head body) s → is_text s.mode ≡ false → Ready s → IsFormed s →
      ComesTo (IsBuilt is_framed) s (row modes.InBody mark s)
  body_mark keep (start t) s emitted held off ready formed =
      body_start keep (tag_group t.name) t s refl emitted held off ready formed
  body_mark keep (character c) s emitted held off ready formed = fits (row modes.InBody (character c) s) s
      (in_body_row (body_guard root head body) own_rows own_top (character c) s (can s held) tt tt) held off
  body_mark keep null s emitted held off ready formed = fits (row modes.InBody null s) s tt held off
  body_mark keep (comment cs) s emitted held off ready formed =
      fits (row modes.InBody (comment cs) s) s (tt, tt) held off
  body_mark keep (doctype d) s emitted held off ready formed = fits (row modes.InBody (doctype d) s) s tt held off
  body_mark keep (finish t) s emitted held off ready formed = fits (row modes.InBody (finish t) s) s
      (body_end_fits (body_guard root head body) own_rows own_top (tag_group t.name) t s refl (can s held)
      (closes (tag_group t.name) s held)) held off
  body_mark keep end_of_file s emitted held off ready formed = fits (row modes.InBody end_of_file s) s
      (in_body_row (body_guard root head body) own_rows own_top end_of_file s (can s held) tt (closes_none s held)) held
      off

  body_mode : ActionsKeep → (m : InsertionMode) (mark : TreeToken) (s : State) → is_of_body m ≡ true →
      IsEmittedMark is_framed mark → IsHeld (body_guard root head body) s → is_text s.mode ≡ false → Ready s →
      IsFormed s → ComesTo (IsBuilt is_framed) s (row m mark s)
  body_mode keep modes.InBody mark s is emitted held off ready formed =
      body_mark keep mark s emitted held off ready formed
  body_mode keep modes.AfterBody mark s is emitted held off ready formed = fits (row modes.AfterBody mark s) s
      (after_body_row (body_guard root head body) mark s (can s held) refl) held off
  body_mode keep modes.AfterAfterBody mark s is emitted held off ready formed = fits (row modes.AfterAfterBody mark s) s
      (after_after_body_row (body_guard root head body) mark s (can s held)) held off
  body_mode keep m mark s is emitted held off ready formed = none is

  leads : (s : State) → IsHeld (body_guard root head body) s → is_text s.mode ≡ false →
      Leads (IsBuilt is_framed) (body_guard root head body) s
  leads s held off actions even fit = (body_open root head body apart
      (all_steady (body_guard root head body) own_is own_reset actions s fit held off))

  pub body_rule : ActionsKeep → (mark : TreeToken) (s : State) → IsEmittedMark is_framed mark →
      IsSteady (body_guard root head body) s → Ready s → IsFormed s → ComesTo (IsBuilt is_framed) s (rule mark s)
  body_rule keep mark s emitted steady ready formed = by (is_text s.mode) refl where
    by : (b : Bool) → is_text s.mode ≡ b → ComesTo (IsBuilt is_framed) s (rule mark s)
    by true e = text_rule (body_guard root head body) own_is own_reset s (only_text s.mode e) steady (IsBuilt is_framed)
        (λ actions even now. (body_open root head body apart now)) mark
    by false off = rule_comes (IsBuilt is_framed) (body_guard root head body) mark s (leads s steady.held off)
        (body_mode keep s.mode mark s (steady.held.mode off) emitted steady.held off ready formed)
        (body_mode keep s.mode mark (act break_out s) (steady.held.mode off) emitted
        (act_held (body_guard root head body) own_is own_reset break_out s tt steady.held)
        (ap is_text (broken_mode s) ∙ off) (keep break_out s ready) (act_formed keep break_out s ready formed))
