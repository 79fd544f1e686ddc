-- What a mark comes to after the head: the body is made, or a frameset in its place.
use Rattle.std.proofs.Common.{◌≡◌, [], ◌∷◌, ◌∙◌, Bool, List, None, ap, codes, false, refl, subst, sym, true, ℕ}
use Rattle.tree_forest.specs.Forest.{nodes}
use Rattle.html_lexemes.specs.declared.names.Attribute.{Attribute}
use Rattle.html_lexemes.specs.declared.token.Tag.{Tag}
use Rattle.html_tree_state.specs.Insertions.{inserted}
use Rattle.tree_names.specs.Sets.{is_html}
use Rattle.page_tree_laws.proofs.BodyPlanting.{form_freed, new_apart, third_guard, third_inserted}
use Rattle.page_tree_laws.proofs.EarlyModes.{IsEmittedGroup, IsEmittedMark, StartsTemplate, in_the_head, none_open}
use Rattle.page_tree_laws.proofs.EarlyModes.{root_alone, template_end_comes}
use Rattle.page_tree_laws.proofs.EarlyPhases.{Comes}
use Rattle.page_tree_laws.proofs.EarlyRows.{comment_comes, head_start_comes, html_comes, is_metadata, said_comes}
use Rattle.page_tree_laws.proofs.EarlyRows.{stays_comes}
use Rattle.page_tree_laws.proofs.Fits.{AreLater}
use Rattle.page_tree_laws.proofs.Forms.{IsFormed}
use Rattle.page_tree_laws.proofs.GroupNames.{body_named, frameset_named}
use Rattle.page_tree_laws.proofs.GuardKinds.{early_names, is_of_body, is_of_frames}
use Rattle.page_tree_laws.proofs.Guards.{IsGuarded, base_names, may_stand}
use Rattle.page_tree_laws.proofs.Phases.{IsBuilt, IsEarly, IsPhase, body_open, built, going_on, of_frames, past_head}
use Rattle.page_tree_laws.proofs.Steady.{IsSteady}
use Rattle.tree_names.specs.Groups.{tag_group}
use Rattle.tree_names.specs.declared.group.TagGroup.{TagGroup}
use Rattle.tree_names.specs.declared.group.TagGroup.TheVariants as groups
use Rattle.rules_table.specs.Actions.{act, act_all, at_place, go_to, in_html, insert, into_head, is_of_text, is_text}
use Rattle.rules_table.specs.Actions.{refuse_frameset}
use Rattle.rules_table.specs.AfterHead.{after_head_end, after_head_start, after_head_text, body_made}
use Rattle.rules_table.specs.InHead.{in_head_start}
use Rattle.rules_table.specs.Rows.{for_character, is_white_space}
use Rattle.rules_table.specs.State.{TreeToken, State, character, comment, doctype, end_of_file, finish, null, start}
use Rattle.rules_table.specs.Table.{row}
use Rattle.rules_table.specs.declared.target.Target.TheVariants as targets
use Rattle.tree_predicates.specs.declared.modes.InsertionMode.{InsertionMode}
use Rattle.tree_predicates.specs.declared.modes.InsertionMode.TheVariants as modes

off : {A : Type 0} → false ≡ true → A
off e = absurd (cc)

on : {A : Type 0} → true ≡ false → A
on e = absurd (cc)

module _ (is_framed : Bool) (root head : ℕ) where
  -- The third element is open after the head, in a mode that may stand.
  third_steady : (name : List ℕ) (barred : List (List ℕ)) (is_open fosters resets : Bool)
      (allows : InsertionMode → Bool) (s u : State) (attributes : List Attribute) → IsEarly root head s →
      s.context ≡ None → IsFormed s → s.tree.stack ≡ root ∷ [] → (fosters ≡ false → s.tree.fostering ≡ false) →
      is_html (codes "template") (in_html name) ≡ false → u.tree ≡ inserted (in_html name) attributes s.tree →
      u.head ≡ s.head → u.form ≡ s.form → u.context ≡ s.context → u.template_modes ≡ s.template_modes →
      allows u.mode ≡ true → is_of_text u.mode ≡ false → is_text u.mode ≡ false →
      IsSteady (third_guard name barred is_open fosters resets allows root head (nodes s.tree.forest)) u
  third_steady name barred is_open fosters resets allows s u attributes early page formed e fostering plain tree
      known form
      context templates allowed apart no_text =
      let g = third_guard name barred is_open fosters resets allows root head (nodes s.tree.forest) in
      record {
        held = record {
          tree = subst (IsGuarded g) (sym tree)
              (third_inserted name barred is_open fosters resets allows root head s attributes early e fostering plain);
          head = known ∙ early.known;
          form = λ n k. form_freed name barred is_open fosters resets allows root head s early formed n
              (sym form ∙ k);
          page = context ∙ page;
          mode = λ k. allowed;
          original = λ k. absurd (let j : true ≡ false = sym k ∙ apart in cc);
          templates = subst AreLater (sym templates) early.templates;
        };
        current = λ k. absurd (let j : true ≡ false = sym k ∙ no_text in cc);
      }

  -- the body is made
  body_by : (ok : Bool) (s : State) → s.frameset_ok ≡ ok → IsEarly root head s → s.context ≡ None → IsFormed s →
      s.tree.stack ≡ root ∷ [] → IsPhase is_framed (act_all body_made s)
  unfolding act
  body_by true s is_ok early page formed e = built (body_open root head (nodes s.tree.forest) (new_apart root head s
      early)
      (third_steady (codes "body") base_names false false false is_of_body s _ [] early page formed e
      (λ k. early.calm is_ok) refl refl refl refl refl refl refl refl refl))
  body_by false s is_ok early page formed e = built (going_on root head (nodes s.tree.forest)
      (new_apart root head s early)
      (third_steady (codes "body") early_names true true true may_stand s _ [] early page formed e on refl refl refl
      refl refl
      refl refl refl refl)
      is_ok)

  body_comes : (s : State) → IsEarly root head s → s.context ≡ None → IsFormed s → s.tree.stack ≡ root ∷ [] →
      IsPhase is_framed (act_all body_made s)
  body_comes s early page formed e = body_by s.frameset_ok s refl early page formed e

  named_steady : (name word : List ℕ) (barred : List (List ℕ)) (is_open fosters resets : Bool)
      (allows : InsertionMode → Bool) (third : ℕ) (u : State) → name ≡ word →
      IsSteady (third_guard name barred is_open fosters resets allows root head third) u →
      IsSteady (third_guard word barred is_open fosters resets allows root head third) u
  named_steady name word barred is_open fosters resets allows third u e steady =
      subst (λ w. IsSteady (third_guard w barred is_open fosters resets allows root head third) u) e steady

  body_start_comes : (t : Tag) (s : State) → tag_group t.name ≡ groups.Body → IsEarly root head s →
      s.context ≡ None → IsFormed s → s.tree.stack ≡ root ∷ [] →
      IsPhase is_framed (act_all (insert at_place t ∷ refuse_frameset ∷ go_to modes.InBody ∷ []) s)
  unfolding act
  body_start_comes t s named early page formed e =
      let word : t.name ≡ codes "body" = body_named t.name named in
      built (going_on root head (nodes s.tree.forest) (new_apart root head s early)
      (named_steady t.name (codes "body") early_names true true true may_stand (nodes s.tree.forest) _ word
      (third_steady t.name early_names true true true may_stand s _ t.attrs early page formed e on
      (ap (λ w. is_html (codes "template") (in_html w)) word) refl refl refl refl refl refl refl refl)) refl)

  pub frameset_built : (t : Tag) (s : State) → tag_group t.name ≡ groups.Frameset → is_framed ≡ true →
      IsEarly root head s → s.context ≡ None → IsFormed s → s.tree.stack ≡ root ∷ [] →
      IsBuilt is_framed (act_all (insert at_place t ∷ go_to modes.InFrameset ∷ []) s)
  unfolding act
  frameset_built t s named emitted early page formed e =
      let word : t.name ≡ codes "frameset" = frameset_named t.name named in
      (of_frames root head (nodes s.tree.forest) (new_apart root head s early) emitted
      (named_steady t.name (codes "frameset") early_names true true false is_of_frames (nodes s.tree.forest) _ word
      (third_steady t.name early_names true true false is_of_frames s _ t.attrs early page formed e on
      (ap (λ w. is_html (codes "template") (in_html w)) word) refl refl refl refl refl refl refl refl)))

  frameset_comes : (t : Tag) (s : State) → tag_group t.name ≡ groups.Frameset → is_framed ≡ true →
      IsEarly root head s → s.context ≡ None → IsFormed s → s.tree.stack ≡ root ∷ [] →
      IsPhase is_framed (act_all (insert at_place t ∷ go_to modes.InFrameset ∷ []) s)
  frameset_comes t s named emitted early page formed e = built (frameset_built t s named emitted early page formed e)

  metadata : (group : TagGroup) (t : Tag) (s : State) → is_metadata group ≡ true → IsEarly root head s →
      s.mode ≡ modes.AfterHead → s.tree.stack ≡ root ∷ [] → Comes is_framed s (in_head_start into_head group t s)
  metadata group t s own early m e = head_start_comes is_framed root head targets.IntoHead group t s own early
      (past_head m e) (ap is_text m) (in_the_head is_framed root head s early)

  past_head_text : (is_space : Bool) (c : ℕ) (s : State) → IsEarly root head s → s.context ≡ None → IsFormed s →
      s.mode ≡ modes.AfterHead → s.tree.stack ≡ root ∷ [] → Comes is_framed s (for_character c (after_head_text
      is_space))
  past_head_text true c s early page formed m e = said_comes is_framed root head c s early (past_head m e)
  past_head_text false c s early page formed m e = body_comes s early page formed e

  past_head_start : (group : TagGroup) (t : Tag) (s : State) → tag_group t.name ≡ group →
      IsEmittedGroup is_framed group → StartsTemplate is_framed root head targets.IntoHead s → IsEarly root head s →
      s.context ≡ None → IsFormed s → s.mode ≡ modes.AfterHead →
      s.tree.stack ≡ root ∷ [] → Comes is_framed s (after_head_start group t s)
  past_head_start groups.Html t s named emitted starts early page formed m e =
      html_comes is_framed root head t s early (past_head m e)
  past_head_start groups.Body t s named emitted starts early page formed m e =
      body_start_comes t s named early page formed e
  past_head_start groups.Frameset t s named emitted starts early page formed m e =
      frameset_comes t s named emitted early page formed e
  past_head_start groups.Base t s named emitted starts early page formed m e = metadata groups.Base t s refl early m e
  past_head_start groups.Link t s named emitted starts early page formed m e = metadata groups.Link t s refl early m e
  past_head_start groups.Meta t s named emitted starts early page formed m e = metadata groups.Meta t s refl early m e
  past_head_start groups.Noframes t s named emitted starts early page formed m e =
      metadata groups.Noframes t s refl early m e
  past_head_start groups.Script t s named emitted starts early page formed m e =
      metadata groups.Script t s refl early m e
  past_head_start groups.Style t s named emitted starts early page formed m e = metadata groups.Style t s refl early m e
  past_head_start groups.Template t s named emitted starts early page formed m e = starts t named
  past_head_start groups.Title t s named emitted starts early page formed m e = metadata groups.Title t s refl early m e
  past_head_start groups.Head t s named emitted starts early page formed m e =
      stays_comes is_framed root head s early (past_head m e)
  past_head_start group t s named emitted starts early page formed m e = body_comes s early page formed e

  past_head_end : (group : TagGroup) (s : State) → IsEarly root head s → s.context ≡ None → IsFormed s →
      s.mode ≡ modes.AfterHead → s.tree.stack ≡ root ∷ [] → Comes is_framed s (after_head_end group s)
  past_head_end groups.Template s early page formed m e = template_end_comes is_framed root head s early (past_head m e)
      (none_open is_framed root head s (root ∷ []) e (root_alone is_framed root head s early))
  past_head_end groups.Body s early page formed m e = body_comes s early page formed e
  past_head_end groups.Html s early page formed m e = body_comes s early page formed e
  past_head_end groups.LineBreak s early page formed m e = body_comes s early page formed e
  past_head_end group s early page formed m e = stays_comes is_framed root head s early (past_head m e)

  pub past_head_row : (mark : TreeToken) (s : State) → IsEmittedMark is_framed mark →
      StartsTemplate is_framed root head targets.IntoHead s → IsEarly root head s →
      s.context ≡ None → IsFormed s → s.mode ≡ modes.AfterHead → s.tree.stack ≡ root ∷ [] →
      Comes is_framed s (row modes.AfterHead mark s)
  past_head_row (character c) s emitted starts early page formed m e =
      past_head_text (is_white_space c) c s early page formed m e
  past_head_row null s emitted starts early page formed m e = body_comes s early page formed e
  past_head_row (comment cs) s emitted starts early page formed m e =
      comment_comes is_framed root head cs s early (past_head m e)
  past_head_row (doctype d) s emitted starts early page formed m e =
      stays_comes is_framed root head s early (past_head m e)
  past_head_row (start t) s emitted starts early page formed m e =
      past_head_start (tag_group t.name) t s refl emitted starts early page formed m e
  past_head_row (finish t) s emitted starts early page formed m e =
      past_head_end (tag_group t.name) s early page formed m e
  past_head_row end_of_file s emitted starts early page formed m e = body_comes s early page formed e
