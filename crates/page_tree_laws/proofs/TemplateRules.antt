-- The rules where templates are open in front of the body: a template more is opened, one is closed, and the table.
use Rattle.std.proofs.Common.{◌≡◌, ◌≤◌, ◌+◌, if◌then◌else◌, [], ◌∷◌, ◌∙◌, Bool, List, ap, arith, codes, false, length}
use Rattle.std.proofs.Common.{refl, subst, suc, sym, true, ℕ}
use Rattle.tree_forest.specs.Forest.{nodes}
use Rattle.html_lexemes.specs.declared.token.Tag.{Tag}
use Rattle.html_tree_state.specs.Insertions.{is_template}
use Rattle.html_tree_state.specs.OpenElements.{below_first}
use Rattle.tree_names.specs.Sets.{html_elements}
use Rattle.tree_names.specs.Wanted.{one}
use Rattle.page_tree_laws.proofs.BuiltRules.{rule_comes}
use Rattle.page_tree_laws.proofs.EarlyPhases.{Comes, comes_if}
use Rattle.page_tree_laws.proofs.EvenEnds.{IsCalmMark, even_row, is_calm_end}
use Rattle.page_tree_laws.proofs.EvenRows.{AreEven}
use Rattle.page_tree_laws.proofs.EvenStarts.{is_calm_start}
use Rattle.page_tree_laws.proofs.Fits.{ClosesMark, ClosesTemplate, FitAll, FitsRow, IsHeld}
use Rattle.page_tree_laws.proofs.FittingHeads.{file_end_fits, template_fits}
use Rattle.page_tree_laws.proofs.FittingRows.{body_row}
use Rattle.page_tree_laws.proofs.FittingSteps.{word_unbarred}
use Rattle.page_tree_laws.proofs.FittingTexts.{is_build_mode}
use Rattle.page_tree_laws.proofs.GoingRows.{broken_mode, only_text}
use Rattle.page_tree_laws.proofs.GroupNames.{template_named}
use Rattle.page_tree_laws.proofs.GuardKinds.{AreApart, stands_in_template, template_guard}
use Rattle.page_tree_laws.proofs.Guards.{Guard, HasFree, IsStack}
use Rattle.page_tree_laws.proofs.Phases.{IsPhase, template_open}
use Rattle.page_tree_laws.proofs.StandingTexts.{text_rule}
use Rattle.page_tree_laws.proofs.Steady.{IsSteady, all_refused, all_steady}
use Rattle.page_tree_laws.proofs.TemplateClosings.{IsClosed, another, below_implied, closing, has_one, outermost}
use Rattle.page_tree_laws.proofs.TemplateClosings.{some_template}
use Rattle.page_tree_laws.proofs.TemplateCounts.{act_none, guarded_present, one_template_less, templates_in}
use Rattle.page_tree_laws.proofs.TemplateSteps.{all_none, can_build, later_length, modes_known, own_facts, own_is}
use Rattle.page_tree_laws.proofs.TemplateSteps.{own_reset, top_named, trailing}
use Rattle.tree_names.specs.Groups.{tag_group}
use Rattle.tree_names.specs.declared.group.TagGroup.{TagGroup}
use Rattle.tree_names.specs.declared.group.TagGroup.TheVariants as groups
use Rattle.rules_table.specs.Actions.{Action, act, act_all, at_place, break_out, clear_to_marker, go_to, imply_but}
use Rattle.rules_table.specs.Actions.{insert, insert_void, is_text, later_modes, pop_template_mode, pop_to}
use Rattle.rules_table.specs.Actions.{push_template_mode, put_marker, refuse_frameset, reset}
use Rattle.rules_table.specs.Asking.{has_template}
use Rattle.rules_table.specs.InBody.{in_template_end_of_file}
use Rattle.rules_table.specs.InHead.{in_head_start, template_end}
use Rattle.rules_table.specs.InTemplate.{becomes}
use Rattle.rules_table.specs.Rows.{Row, ignored}
use Rattle.rules_table.specs.Rule.{rule}
use Rattle.rules_table.specs.State.{State, TreeToken, character, comment, doctype, end_of_file, finish, null, start}
use Rattle.rules_table.specs.Table.{end_row, row, start_row}
use Rattle.rules_table.specs.declared.target.Target.TheVariants as targets
use Rattle.tree_predicates.specs.declared.modes.InsertionMode.{InsertionMode}
use Rattle.tree_predicates.specs.declared.modes.InsertionMode.TheVariants as modes
use Rattle.page_tree_laws.proofs.TemplateRows.{AreCounted, calm_comes, closes_calm, collected_row, counted_on}
use Rattle.page_tree_laws.proofs.TemplateRows.{opens_one}

none : {A : Type 0} → false ≡ true → A
none e = absurd (cc)

fits_then : (g : Guard) (s : State) (b : Bool) (x y : Row) → b ≡ true → FitsRow g s (if b then x else y) →
    FitsRow g s x
fits_then g s true x y e fits = fits
fits_then g s false x y e fits = none e

pub two_more : (x y n m : ℕ) → 1 ≤ x → 1 + x ≤ y → y ≤ n → suc m ≡ n → ¬ (m ≡ 0)
two_more x y n m h i k e z = omega (arith, h, i, k, e, z)

one_less : (x y n m : ℕ) → 1 + x ≤ y → y ≤ n → suc m ≡ n → x ≤ m
one_less x y n m h i e = omega (arith, h, i, e)

same_length : (x n m : ℕ) → x ≤ n → m ≡ n → x ≤ m
same_length x n m h e = omega (arith, h, e)

module _ (is_framed : Bool) (in_head : Bool) (root head top : ℕ) (apart : AreApart root head top) where
  -- a template more
  opened : (t : Tag) (s : State) → tag_group t.name ≡ groups.Template →
      IsHeld (template_guard in_head root head top) s → is_text s.mode ≡ false → s.frameset_ok ≡ false →
      AreCounted s → Comes is_framed s (in_head_start at_place groups.Template t s)
  unfolding act
  opened t s named held off refused counted =
      let actions : List Action = insert at_place t ∷ put_marker ∷ refuse_frameset ∷ go_to modes.InTemplate
      ∷ push_template_mode modes.InTemplate ∷ [] in
      let fit : FitAll (template_guard in_head root head top) actions s = (
        word_unbarred (template_guard in_head root head top) t (codes "template") (template_named t.name named) refl,
        (tt, (tt, (refl, (refl, tt)))),
      ) in
      let void = act_none (insert_void targets.AtPlace t) tt s
      (guarded_present (template_guard in_head root head top) s.tree held.tree) in
      template_open in_head root head top apart
      (all_steady (template_guard in_head root head top) (own_is in_head root head top apart)
      (own_reset in_head root head top apart) actions s fit held off) (all_refused actions s refused)
      (opens_one is_framed in_head root head top apart
      (is_template (nodes s.tree.forest) (act (insert at_place t) s).tree.forest)
      (templates_in (act (insert_void targets.AtPlace t) s).tree.forest s.tree.stack)
      (templates_in s.tree.forest s.tree.stack) (length s.template_modes) void.fewer counted)

  -- its contents are those of another mode
  became : (mode : InsertionMode) (s : State) →
      FitAll (template_guard in_head root head top) (pop_template_mode ∷ push_template_mode mode ∷ go_to mode ∷ []) s →
      IsHeld (template_guard in_head root head top) s → is_text s.mode ≡ false → s.frameset_ok ≡ false →
      AreCounted s → Comes is_framed s (becomes mode)
  unfolding act
  became mode s fit held off refused counted = template_open in_head root head top apart
      (all_steady (template_guard in_head root head top) (own_is in_head root head top apart)
      (own_reset in_head root head top apart) (pop_template_mode ∷ push_template_mode mode ∷ go_to mode ∷ []) s fit held
      off)
      (all_refused (pop_template_mode ∷ push_template_mode mode ∷ go_to mode ∷ []) s refused)
      (same_length (templates_in s.tree.forest s.tree.stack) (length s.template_modes)
      (suc (length (later_modes s.template_modes))) counted
      (later_length s.template_modes (modes_known in_head root head top apart s held counted)))

  -- the innermost one is closed
  has_open : (s : State) → IsHeld (template_guard in_head root head top) s → has_template s ≡ true
  has_open s held = has_one (template_guard in_head root head top) s.tree.forest s.tree.stack refl
      (top_named in_head root head top apart s held) held.tree.standing

  less_open : (s : State) → IsHeld (template_guard in_head root head top) s →
      1 + templates_in s.tree.forest (below_first (one (codes "template")) s.tree.forest s.tree.stack)
      ≤ templates_in s.tree.forest s.tree.stack
  less_open s held = one_template_less s.tree.forest s.tree.stack (has_open s held)

  some_later : (s : State) → IsHeld (template_guard in_head root head top) s → AreCounted s →
      IsStack (template_guard in_head root head top)
      (below_first (one (codes "template")) s.tree.forest s.tree.stack) → ¬ (later_modes s.template_modes ≡ [])
  some_later s held counted stack e = two_more
      (templates_in s.tree.forest (below_first (one (codes "template")) s.tree.forest s.tree.stack))
      (templates_in s.tree.forest s.tree.stack) (length s.template_modes) (length (later_modes s.template_modes))
      (some_template (template_guard in_head root head top) s.tree.forest
      (below_first (one (codes "template")) s.tree.forest s.tree.stack) refl
      (top_named in_head root head top apart s held) stack)
      (less_open s held) counted
      (later_length s.template_modes (modes_known in_head root head top apart s held counted)) (ap length e)

  closes_another : (s : State) → IsHeld (template_guard in_head root head top) s → AreCounted s →
      IsStack (template_guard in_head root head top)
      (below_first (one (codes "template")) s.tree.forest s.tree.stack) →
      HasFree (template_guard in_head root head top) (one (codes "template")) s.tree.forest s.tree.stack →
      ClosesTemplate (template_guard in_head root head top) s
  closes_another s held counted stack has e = (has, (refl, λ k. some_later s held counted stack))

  counted_less : (s : State) → IsHeld (template_guard in_head root head top) s → AreCounted s →
      templates_in s.tree.forest (below_first (one (codes "template")) s.tree.forest s.tree.stack)
      ≤ length (later_modes s.template_modes)
  counted_less s held counted = one_less
      (templates_in s.tree.forest (below_first (one (codes "template")) s.tree.forest s.tree.stack))
      (templates_in s.tree.forest s.tree.stack) (length s.template_modes) (length (later_modes s.template_modes))
      (less_open s held) counted
      (later_length s.template_modes (modes_known in_head root head top apart s held counted))

  by_end_tag : (s : State) → IsHeld (template_guard in_head root head top) s → is_text s.mode ≡ false →
      s.frameset_ok ≡ false → AreCounted s → has_template s ≡ true →
      IsClosed (template_guard in_head root head top) s.tree.forest s.tree.stack →
      IsPhase is_framed (act_all (imply_but (html_elements []) ∷ pop_to (one (codes "template")) ∷ clear_to_marker
      ∷ pop_template_mode ∷ reset ∷ []) s)
  unfolding act
  by_end_tag s held off refused counted e (another stack has) = template_open in_head root head top apart
      (all_steady (template_guard in_head root head top) (own_is in_head root head top apart)
      (own_reset in_head root head top apart) (imply_but (html_elements []) ∷ pop_to (one (codes "template"))
      ∷ clear_to_marker ∷ pop_template_mode ∷ reset ∷ []) s
      (fits_then (template_guard in_head root head top) s (has_template s) _ ignored e
      (template_fits (template_guard in_head root head top) s (closes_another s held counted stack has))) held off)
      refused
      (subst (λ ns. templates_in s.tree.forest ns ≤ length (later_modes s.template_modes))
      (sym (below_implied (html_elements []) s.tree.forest s.tree.stack)) (counted_less s held counted))
  by_end_tag s held off refused counted e (outermost same) = trailing in_head root head top apart is_framed s
      (act_all (imply_but (html_elements []) ∷ pop_to (one (codes "template")) ∷ clear_to_marker
      ∷ pop_template_mode ∷ []) s) _ held refused refl refl
      (below_implied (html_elements []) s.tree.forest s.tree.stack ∙ same) refl refl refl refl refl refl

  by_file_end : (s : State) → IsHeld (template_guard in_head root head top) s → is_text s.mode ≡ false →
      s.frameset_ok ≡ false → AreCounted s → has_template s ≡ true →
      IsClosed (template_guard in_head root head top) s.tree.forest s.tree.stack →
      IsPhase is_framed (act_all (pop_to (one (codes "template")) ∷ clear_to_marker ∷ pop_template_mode ∷ reset ∷ []) s)
  unfolding act
  by_file_end s held off refused counted e (another stack has) = template_open in_head root head top apart
      (all_steady (template_guard in_head root head top) (own_is in_head root head top apart)
      (own_reset in_head root head top apart) (pop_to (one (codes "template")) ∷ clear_to_marker ∷ pop_template_mode
      ∷ reset ∷ []) s
      (fits_then (template_guard in_head root head top) s (has_template s) _ ignored e
      (file_end_fits (template_guard in_head root head top) s (closes_another s held counted stack has))) held off)
      refused (counted_less s held counted)
  by_file_end s held off refused counted e (outermost same) = trailing in_head root head top apart is_framed s
      (act_all (pop_to (one (codes "template")) ∷ clear_to_marker ∷ pop_template_mode ∷ []) s) _ held refused refl refl
      same refl refl refl refl refl refl

  which_closed : (s : State) → IsHeld (template_guard in_head root head top) s →
      IsClosed (template_guard in_head root head top) s.tree.forest s.tree.stack
  which_closed s held = closing (template_guard in_head root head top) s.tree.forest s.tree.stack refl
      (top_named in_head root head top apart s held) held.tree.standing

  ended : (s : State) → IsSteady (template_guard in_head root head top) s → is_text s.mode ≡ false →
      s.frameset_ok ≡ false → AreCounted s → Comes is_framed s (template_end s)
  ended s steady off refused counted = comes_if (has_template s) is_framed s _ ignored
      (λ e. by_end_tag s steady.held off refused counted e (which_closed s steady.held))
      (λ e. template_open in_head root head top apart steady refused counted)

  file_ended : (s : State) → IsSteady (template_guard in_head root head top) s → is_text s.mode ≡ false →
      s.frameset_ok ≡ false → AreCounted s → Comes is_framed s (in_template_end_of_file s)
  file_ended s steady off refused counted = comes_if (has_template s) is_framed s _ _
      (λ e. by_file_end s steady.held off refused counted e (which_closed s steady.held))
      (λ e. template_open in_head root head top apart steady refused counted)

  -- the rules of the modes: calm marks, and those that open or close a template
  start_by : (m : InsertionMode) (b : Bool) (t : Tag) (s : State) → is_calm_start m (tag_group t.name) ≡ b →
      s.mode ≡ m → is_build_mode m ≡ true → IsSteady (template_guard in_head root head top) s →
      is_text s.mode ≡ false → s.frameset_ok ≡ false → AreCounted s → Comes is_framed s (row m (start t) s)
  start_by m true t s calm at is steady off refused counted =
      calm_comes is_framed in_head root head top apart (row m (start t) s) s (even_row m is (start t) s calm)
      (body_row (template_guard in_head root head top) (own_facts in_head root head top apart) m is (start t) s
      (can_build in_head root head top apart s steady.held refused counted) off at tt) steady.held off refused counted
  start_by m false t s calm at is steady off refused counted = by m (tag_group t.name) refl is calm where
    by : (k : InsertionMode) (group : TagGroup) → tag_group t.name ≡ group → is_build_mode k ≡ true →
        is_calm_start k group ≡ false → Comes is_framed s (start_row k group t s)
    by modes.InBody groups.Template named own off_calm = opened t s named steady.held off refused counted
    by modes.InTable groups.Template named own off_calm = opened t s named steady.held off refused counted
    by modes.InCaption groups.Template named own off_calm = opened t s named steady.held off refused counted
    by modes.InColumnGroup groups.Template named own off_calm = opened t s named steady.held off refused counted
    by modes.InTableBody groups.Template named own off_calm = opened t s named steady.held off refused counted
    by modes.InRow groups.Template named own off_calm = opened t s named steady.held off refused counted
    by modes.InCell groups.Template named own off_calm = opened t s named steady.held off refused counted
    by modes.InTemplate groups.Template named own off_calm = opened t s named steady.held off refused counted
    by modes.InTableText group named own off_calm = none (sym off_calm)
    by modes.InTemplate groups.Base named own off_calm = none (sym off_calm)
    by modes.InTemplate groups.Link named own off_calm = none (sym off_calm)
    by modes.InTemplate groups.Meta named own off_calm = none (sym off_calm)
    by modes.InTemplate groups.Noframes named own off_calm = none (sym off_calm)
    by modes.InTemplate groups.Script named own off_calm = none (sym off_calm)
    by modes.InTemplate groups.Style named own off_calm = none (sym off_calm)
    by modes.InTemplate groups.Title named own off_calm = none (sym off_calm)
    by modes.InTemplate groups.Caption named own off_calm =
        became modes.InTable s (tt, (refl, (refl, tt))) steady.held off refused counted
    by modes.InTemplate groups.ColumnGroup named own off_calm =
        became modes.InTable s (tt, (refl, (refl, tt))) steady.held off refused counted
    by modes.InTemplate groups.Section named own off_calm =
        became modes.InTable s (tt, (refl, (refl, tt))) steady.held off refused counted
    by modes.InTemplate groups.Column named own off_calm =
        became modes.InColumnGroup s (tt, (refl, (refl, tt))) steady.held off refused counted
    by modes.InTemplate groups.Row named own off_calm =
        became modes.InTableBody s (tt, (refl, (refl, tt))) steady.held off refused counted
    by modes.InTemplate groups.Cell named own off_calm =
        became modes.InRow s (tt, (refl, (refl, tt))) steady.held off refused counted
    by modes.InTemplate group named own off_calm =
        became modes.InBody s (tt, (refl, (refl, tt))) steady.held off refused counted
    by modes.Initial group named own off_calm = none own
    by modes.BeforeHtml group named own off_calm = none own
    by modes.BeforeHead group named own off_calm = none own
    by modes.InHead group named own off_calm = none own
    by modes.InHeadNoscript group named own off_calm = none own
    by modes.AfterHead group named own off_calm = none own
    by modes.Text group named own off_calm = none own
    by modes.AfterBody group named own off_calm = none own
    by modes.InFrameset group named own off_calm = none own
    by modes.AfterFrameset group named own off_calm = none own
    by modes.AfterAfterBody group named own off_calm = none own
    by modes.AfterAfterFrameset group named own off_calm = none own
    by k group named own off_calm = none (sym off_calm)

  fits_end : (m : InsertionMode) (t : Tag) (s : State) → is_calm_end m (tag_group t.name) ≡ true → s.mode ≡ m →
      is_build_mode m ≡ true → IsSteady (template_guard in_head root head top) s → is_text s.mode ≡ false →
      s.frameset_ok ≡ false → AreCounted s → FitsRow (template_guard in_head root head top) s (row m (finish t) s)
  fits_end modes.InTableText t s calm at is steady off refused counted =
      collected_row is_framed in_head root head top apart (finish t) s at
  fits_end m t s calm at is steady off refused counted = body_row (template_guard in_head root head top)
      (own_facts in_head root head top apart) m is (finish t) s
      (can_build in_head root head top apart s steady.held refused counted) off at
      (closes_calm is_framed in_head root head top apart (tag_group t.name) s calm)

  end_by : (m : InsertionMode) (b : Bool) (t : Tag) (s : State) → is_calm_end m (tag_group t.name) ≡ b → s.mode ≡ m →
      is_build_mode m ≡ true → IsSteady (template_guard in_head root head top) s → is_text s.mode ≡ false →
      s.frameset_ok ≡ false → AreCounted s → Comes is_framed s (row m (finish t) s)
  end_by m true t s calm at is steady off refused counted =
      calm_comes is_framed in_head root head top apart (row m (finish t) s) s (even_row m is (finish t) s calm)
      (fits_end m t s calm at is steady off refused counted) steady.held off refused counted
  end_by m false t s calm at is steady off refused counted = by m (tag_group t.name) is calm where
    by : (k : InsertionMode) (group : TagGroup) → is_build_mode k ≡ true → is_calm_end k group ≡ false →
        Comes is_framed s (end_row k group t s)
    by modes.InBody groups.Template own off_calm = ended s steady off refused counted
    by modes.InTable groups.Template own off_calm = ended s steady off refused counted
    by modes.InCaption groups.Template own off_calm = ended s steady off refused counted
    by modes.InColumnGroup groups.Template own off_calm = ended s steady off refused counted
    by modes.InTableBody groups.Template own off_calm = ended s steady off refused counted
    by modes.InRow groups.Template own off_calm = ended s steady off refused counted
    by modes.InCell groups.Template own off_calm = ended s steady off refused counted
    by modes.InTemplate groups.Template own off_calm = ended s steady off refused counted
    by modes.InTableText group own off_calm = none (sym off_calm)
    by modes.Initial group own off_calm = none own
    by modes.BeforeHtml group own off_calm = none own
    by modes.BeforeHead group own off_calm = none own
    by modes.InHead group own off_calm = none own
    by modes.InHeadNoscript group own off_calm = none own
    by modes.AfterHead group own off_calm = none own
    by modes.Text group own off_calm = none own
    by modes.AfterBody group own off_calm = none own
    by modes.InFrameset group own off_calm = none own
    by modes.AfterFrameset group own off_calm = none own
    by modes.AfterAfterBody group own off_calm = none own
    by modes.AfterAfterFrameset group own off_calm = none own
    by k group own off_calm = none (sym off_calm)

  file_by : (m : InsertionMode) (s : State) → s.mode ≡ m → is_build_mode m ≡ true →
      IsSteady (template_guard in_head root head top) s → is_text s.mode ≡ false → s.frameset_ok ≡ false →
      AreCounted s → Comes is_framed s (row m end_of_file s)
  file_by modes.InTableText s at is steady off refused counted =
      calm_comes is_framed in_head root head top apart (row modes.InTableText end_of_file s) s
      (even_row modes.InTableText is end_of_file s refl)
      (collected_row is_framed in_head root head top apart end_of_file s at) steady.held off refused counted
  file_by modes.InBody s at is steady off refused counted = file_ended s steady off refused counted
  file_by modes.InTable s at is steady off refused counted = file_ended s steady off refused counted
  file_by modes.InCaption s at is steady off refused counted = file_ended s steady off refused counted
  file_by modes.InColumnGroup s at is steady off refused counted = file_ended s steady off refused counted
  file_by modes.InTableBody s at is steady off refused counted = file_ended s steady off refused counted
  file_by modes.InRow s at is steady off refused counted = file_ended s steady off refused counted
  file_by modes.InCell s at is steady off refused counted = file_ended s steady off refused counted
  file_by modes.InTemplate s at is steady off refused counted = file_ended s steady off refused counted
  file_by m s at is steady off refused counted = none is

  calm_mark : (m : InsertionMode) (mark : TreeToken) (s : State) → IsCalmMark m mark →
      ClosesMark (template_guard in_head root head top) s mark → s.mode ≡ m → is_build_mode m ≡ true →
      IsSteady (template_guard in_head root head top) s → is_text s.mode ≡ false → s.frameset_ok ≡ false →
      AreCounted s → Comes is_framed s (row m mark s)
  calm_mark m mark s calm closes at is steady off refused counted =
      calm_comes is_framed in_head root head top apart (row m mark s) s (even_row m is mark s calm)
      (body_row (template_guard in_head root head top) (own_facts in_head root head top apart) m is mark s
      (can_build in_head root head top apart s steady.held refused counted) off at closes) steady.held off refused
      counted

  mode_row : (m : InsertionMode) (mark : TreeToken) (s : State) → s.mode ≡ m → is_build_mode m ≡ true →
      IsSteady (template_guard in_head root head top) s → is_text s.mode ≡ false → s.frameset_ok ≡ false →
      AreCounted s → Comes is_framed s (row m mark s)
  mode_row m (character c) s at is steady off refused counted =
      calm_mark m (character c) s tt tt at is steady off refused counted
  mode_row m null s at is steady off refused counted = calm_mark m null s tt tt at is steady off refused counted
  mode_row m (comment cs) s at is steady off refused counted =
      calm_mark m (comment cs) s tt tt at is steady off refused counted
  mode_row m (doctype d) s at is steady off refused counted =
      calm_mark m (doctype d) s tt tt at is steady off refused counted
  mode_row m (start t) s at is steady off refused counted =
      start_by m (is_calm_start m (tag_group t.name)) t s refl at is steady off refused counted
  mode_row m (finish t) s at is steady off refused counted =
      end_by m (is_calm_end m (tag_group t.name)) t s refl at is steady off refused counted
  mode_row m end_of_file s at is steady off refused counted = file_by m s at is steady off refused counted

  -- the modes that may stand are those of templates, and a table's text
  builds : (m : InsertionMode) → stands_in_template m ≡ true → is_build_mode m ≡ true
  builds modes.InBody e = refl
  builds modes.InTable e = refl
  builds modes.InTableText e = refl
  builds modes.InCaption e = refl
  builds modes.InColumnGroup e = refl
  builds modes.InTableBody e = refl
  builds modes.InRow e = refl
  builds modes.InCell e = refl
  builds modes.InTemplate e = refl
  builds m e = none e

  stays_open : (s : State) → IsSteady (template_guard in_head root head top) s → s.frameset_ok ≡ false →
      AreCounted s → (actions : List Action) → AreEven actions →
      IsSteady (template_guard in_head root head top) (act_all actions s) → IsPhase is_framed (act_all actions s)
  stays_open s steady refused counted actions even now = template_open in_head root head top apart now
      (all_refused actions s refused)
      (counted_on s (act_all actions s)
      (all_none actions s even (guarded_present (template_guard in_head root head top) s.tree steady.held.tree))
      counted)

  broken_refused : (s : State) → s.frameset_ok ≡ false → (act break_out s).frameset_ok ≡ false
  unfolding act
  broken_refused s e = e

  broken_steady : (s : State) → IsSteady (template_guard in_head root head top) s → is_text s.mode ≡ false →
      IsSteady (template_guard in_head root head top) (act break_out s)
  broken_steady s steady off = all_steady (template_guard in_head root head top) (own_is in_head root head top apart)
      (own_reset in_head root head top apart) (break_out ∷ []) s (tt, tt) steady.held off

  pub template_rule : (mark : TreeToken) (s : State) → IsSteady (template_guard in_head root head top) s →
      s.frameset_ok ≡ false → AreCounted s → Comes is_framed s (rule mark s)
  template_rule mark s steady refused counted = by (is_text s.mode) refl where
    by : (b : Bool) → is_text s.mode ≡ b → Comes is_framed s (rule mark s)
    by true e = text_rule (template_guard in_head root head top) (own_is in_head root head top apart)
        (own_reset in_head root head top apart) s (only_text s.mode e) steady (IsPhase is_framed)
        (stays_open s steady refused counted) mark
    by false off = rule_comes (IsPhase is_framed) (template_guard in_head root head top) mark s
        (λ actions even fit. stays_open s steady refused counted actions even
        (all_steady (template_guard in_head root head top) (own_is in_head root head top apart)
        (own_reset in_head root head top apart) actions s fit steady.held off))
        (mode_row s.mode mark s refl (builds s.mode (steady.held.mode off)) steady off refused counted)
        (mode_row s.mode mark (act break_out s) (broken_mode s) (builds s.mode (steady.held.mode off))
        (broken_steady s steady off) (ap is_text (broken_mode s) ∙ off) (broken_refused s refused)
        (counted_on s (act break_out s)
        (all_none (break_out ∷ []) s (tt, tt)
        (guarded_present (template_guard in_head root head top) s.tree steady.held.tree)) counted))
