-- What a mark comes to where the head stands and the body is to come, but for templates and for what makes the body.
use Rattle.std.proofs.Common.{◌≡◌, if◌then◌else◌, [], ◌∷◌, ◌∙◌, Bool, List, ap, codes, false, inl, inr, refl, subst}
use Rattle.std.proofs.Common.{sym, true, ℕ}
use Rattle.tree_forest.specs.Forest.{Forest, name_of, nodes}
use Rattle.html_lexemes.specs.declared.states.RawKind.TheVariants.{Rawtext}
use Rattle.html_lexemes.specs.declared.token.Tag.{Tag}
use Rattle.html_tree_state.specs.OpenElements.{below_current, has_any}
use Rattle.tree_names.specs.Sets.{is_html, is_element_of}
use Rattle.tree_names.specs.Wanted.{one}
use Rattle.page_tree_laws.proofs.EarlyPhases.{Comes, comes_if, head_here, head_named}
use Rattle.page_tree_laws.proofs.EarlyRows.{HasPlace, IsOpened, comment_comes, head_start_comes, html_comes}
use Rattle.page_tree_laws.proofs.EarlyRows.{is_metadata, opened_at, raw_comes, said_comes, stays_comes}
use Rattle.page_tree_laws.proofs.EarlySteps.{early_on, kept_same}
use Rattle.page_tree_laws.proofs.GroupNames.{noscript_named}
use Rattle.page_tree_laws.proofs.GuardKinds.{root_title}
use Rattle.page_tree_laws.proofs.GuardedForests.{KeptOn, new_is_free}
use Rattle.page_tree_laws.proofs.Phases.{IsEarly, IsEarlyStack, IsPhase, body_to_come, head_guard, in_head, in_noscript}
use Rattle.page_tree_laws.proofs.Phases.{past_head}
use Rattle.tree_names.specs.Groups.{tag_group}
use Rattle.tree_names.specs.declared.group.TagGroup.{TagGroup}
use Rattle.tree_names.specs.declared.group.TagGroup.TheVariants as groups
use Rattle.rules_table.specs.Actions.{act, act_all, at_place, go_to, in_html, insert, is_text}
use Rattle.rules_table.specs.Asking.{has_template}
use Rattle.rules_table.specs.InHead.{head_closed, in_head_end, in_head_start, in_head_text, noscript_start}
use Rattle.rules_table.specs.InHead.{template_end}
use Rattle.rules_table.specs.InHeadNoscript.{noscript_closed}
use Rattle.rules_table.specs.Rows.{for_character, ignored, is_white_space}
use Rattle.rules_table.specs.State.{TreeToken, State, character, comment, doctype, end_of_file, finish, null, start}
use Rattle.rules_table.specs.Table.{row}
use Rattle.rules_table.specs.declared.target.Target.{Target}
use Rattle.rules_table.specs.declared.target.Target.TheVariants as targets
use Rattle.tree_predicates.specs.declared.modes.InsertionMode.TheVariants as modes

-- what of start tags may be emitted: framesets in a page of frames alone
abbrev pub IsEmittedGroup : Bool → TagGroup → Type 0
IsEmittedGroup is_framed groups.Frameset = is_framed ≡ true
IsEmittedGroup is_framed _ = Unit {0}

abbrev pub IsEmittedMark : Bool → TreeToken → Type 0
IsEmittedMark is_framed (start t) = IsEmittedGroup is_framed (tag_group t.name)
IsEmittedMark is_framed _ = Unit {0}

if_false : {A : Type 0} (b : Bool) (x y : A) → b ≡ false → (if b then x else y) ≡ y
if_false true x y e = absurd (let k : true ≡ false = e in cc)
if_false false x y e = refl

module _ (is_framed : Bool) (root head : ℕ) where
  pub root_named : (s : State) → IsEarly root head s → name_of root s.tree.forest ≡ in_html (codes "html")
  root_named s early =
      early.nodes.named root (inr (inl refl)) ∙ root_title root head head (codes "head")

  -- no template is open
  skips : (f : Forest) (n : ℕ) (ns : List ℕ) (word : List ℕ) → name_of n f ≡ in_html word →
      is_html (codes "template") (in_html word) ≡ false → has_any (one (codes "template")) f ns ≡ false →
      has_any (one (codes "template")) f (n ∷ ns) ≡ false
  skips f n ns word named none rest =
      if_false (is_element_of (one (codes "template")) (name_of n f)) true (has_any (one (codes "template")) f ns)
      (ap (is_element_of (one (codes "template"))) named ∙ none) ∙ rest

  pub root_alone : (s : State) → IsEarly root head s →
      has_any (one (codes "template")) s.tree.forest (root ∷ []) ≡ false
  root_alone s early = skips s.tree.forest root [] (codes "html") (root_named s early) refl refl

  with_head : (s : State) → IsEarly root head s →
      has_any (one (codes "template")) s.tree.forest (head ∷ root ∷ []) ≡ false
  with_head s early = skips s.tree.forest head (root ∷ []) (codes "head") (head_named is_framed root head s early) refl
      (root_alone s early)

  pub none_open : (s : State) (ns : List ℕ) → s.tree.stack ≡ ns →
      has_any (one (codes "template")) s.tree.forest ns ≡ false → has_template s ≡ false
  none_open s ns e none = ap (has_any (one (codes "template")) s.tree.forest) e ∙ none

  -- so its end tag is ignored
  pub template_end_comes : (s : State) → IsEarly root head s → IsEarlyStack root head s → has_template s ≡ false →
      Comes is_framed s (template_end s)
  template_end_comes s early stack none = comes_if (has_template s) is_framed s _ ignored
      (λ e. absurd (let k : true ≡ false = sym e ∙ none in cc)) (λ e. stays_comes is_framed root head s early stack)

  pub in_place_of_head : (s : State) (ns : List ℕ) → IsEarly root head s → s.tree.stack ≡ head ∷ ns →
      HasPlace is_framed root head targets.AtPlace s
  in_place_of_head s ns early e = record {
    node = head;
    no_document = early.head_made;
    no_root = early.head_root;
    at_here = λ k. head_here is_framed root head s ns early e;
    in_head = λ k. absurd (let j : targets.AtPlace ≡ targets.IntoHead = k in cc);
  }

  pub in_the_head : (s : State) → IsEarly root head s → HasPlace is_framed root head targets.IntoHead s
  in_the_head s early = record {
    node = head;
    no_document = early.head_made;
    no_root = early.head_root;
    at_here = λ k. absurd (let j : targets.IntoHead ≡ targets.AtPlace = k in cc);
    in_head = λ k. refl;
  }

  -- the current node is popped, and the mode goes on
  pub closed : (s u : State) → IsEarly root head s → u.tree.forest ≡ s.tree.forest →
      u.tree.formatting ≡ s.tree.formatting → u.head ≡ s.head → u.form ≡ s.form →
      u.template_modes ≡ s.template_modes → u.frameset_ok ≡ s.frameset_ok → u.tree.fostering ≡ s.tree.fostering →
      IsEarly root head u
  closed s u early forest formatting known form templates ok fostering = early_on root head s u early
      (subst (λ f. KeptOn (head_guard root head) s.tree.forest f) (sym forest)
      (kept_same (head_guard root head) s.tree.forest early.nodes))
      formatting known form templates (λ e. sym ok ∙ e) fostering

  head_closes : (s : State) → IsEarly root head s → s.tree.stack ≡ head ∷ root ∷ [] →
      IsPhase is_framed (act_all head_closed s)
  unfolding act
  head_closes s early e = body_to_come root head (closed s _ early refl refl refl refl refl refl refl)
      (past_head refl (ap below_current e))

  pub noscript_closes : (s : State) (n : ℕ) → IsEarly root head s → s.tree.stack ≡ n ∷ head ∷ root ∷ [] →
      IsPhase is_framed (act_all noscript_closed s)
  unfolding act
  noscript_closes s n early e = body_to_come root head (closed s _ early refl refl refl refl refl refl refl)
      (in_head refl (ap below_current e))

  -- a `noscript` whose contents are not text
  opened_noscript : (t : Tag) (s : State) → tag_group t.name ≡ groups.Noscript → IsEarly root head s →
      s.tree.stack ≡ head ∷ root ∷ [] → IsPhase is_framed (act_all (insert at_place t ∷ go_to modes.InHeadNoscript ∷
      []) s)
  unfolding act
  opened_noscript t s named early e =
      let opened : IsOpened is_framed root head t s (act (insert at_place t) s) =
      opened_at is_framed root head targets.AtPlace t s early (in_place_of_head s (root ∷ []) early e) in
      body_to_come root head (closed (act (insert at_place t) s) _ opened.early refl refl refl refl refl refl refl)
      (in_noscript (nodes s.tree.forest) refl (opened.stack ∙ ap (λ ns. nodes s.tree.forest ∷ ns) e)
      (new_is_free (head_guard root head) s.tree.forest early.nodes) opened.new.held
      (opened.new.named ∙ ap in_html (noscript_named t.name named)))

  noscript_comes : (scripting : Bool) (t : Tag) (s : State) → tag_group t.name ≡ groups.Noscript →
      IsEarly root head s → s.mode ≡ modes.InHead → s.tree.stack ≡ head ∷ root ∷ [] →
      Comes is_framed s (noscript_start scripting targets.AtPlace t)
  noscript_comes true t s named early m e = raw_comes is_framed root head Rawtext targets.AtPlace t s early (in_head
      m e)
      (ap is_text m) (in_place_of_head s (root ∷ []) early e)
  noscript_comes false t s named early m e = opened_noscript t s named early e

  -- the mode "in head"
  head_text : (is_space : Bool) (c : ℕ) (s : State) → IsEarly root head s → s.mode ≡ modes.InHead →
      s.tree.stack ≡ head ∷ root ∷ [] → Comes is_framed s (for_character c (in_head_text is_space))
  head_text true c s early m e = said_comes is_framed root head c s early (in_head m e)
  head_text false c s early m e = head_closes s early e

  metadata : (group : TagGroup) (t : Tag) (s : State) → is_metadata group ≡ true → IsEarly root head s →
      s.mode ≡ modes.InHead → s.tree.stack ≡ head ∷ root ∷ [] → Comes is_framed s (in_head_start at_place group t s)
  metadata group t s is early m e = head_start_comes is_framed root head targets.AtPlace group t s is early (in_head
      m e)
      (ap is_text m) (in_place_of_head s (root ∷ []) early e)

  -- a template is opened (proved where it is known what is open then)
  abbrev pub StartsTemplate : Target → State → Type 0
  StartsTemplate at s = (t : Tag) → tag_group t.name ≡ groups.Template →
      Comes is_framed s (in_head_start at groups.Template t s)

  head_start : (group : TagGroup) (t : Tag) (s : State) → tag_group t.name ≡ group →
      StartsTemplate targets.AtPlace s → IsEarly root head s → s.mode ≡ modes.InHead →
      s.tree.stack ≡ head ∷ root ∷ [] → Comes is_framed s (in_head_start at_place group t s)
  head_start groups.Html t s named starts early m e = html_comes is_framed root head t s early (in_head m e)
  head_start groups.Base t s named starts early m e = metadata groups.Base t s refl early m e
  head_start groups.Link t s named starts early m e = metadata groups.Link t s refl early m e
  head_start groups.Meta t s named starts early m e = metadata groups.Meta t s refl early m e
  head_start groups.Title t s named starts early m e = metadata groups.Title t s refl early m e
  head_start groups.Noscript t s named starts early m e =
      noscript_comes s.options.scripting_enabled t s named early m e
  head_start groups.Noframes t s named starts early m e = metadata groups.Noframes t s refl early m e
  head_start groups.Style t s named starts early m e = metadata groups.Style t s refl early m e
  head_start groups.Script t s named starts early m e = metadata groups.Script t s refl early m e
  head_start groups.Template t s named starts early m e = starts t named
  head_start groups.Head t s named starts early m e = stays_comes is_framed root head s early (in_head m e)
  head_start group t s named starts early m e = head_closes s early e

  head_end : (group : TagGroup) (s : State) → IsEarly root head s → s.mode ≡ modes.InHead →
      s.tree.stack ≡ head ∷ root ∷ [] → Comes is_framed s (in_head_end group s)
  head_end groups.Head s early m e = head_closes s early e
  head_end groups.Body s early m e = head_closes s early e
  head_end groups.Html s early m e = head_closes s early e
  head_end groups.LineBreak s early m e = head_closes s early e
  head_end groups.Template s early m e = template_end_comes s early (in_head m e)
      (none_open s (head ∷ root ∷ []) e (with_head s early))
  head_end group s early m e = stays_comes is_framed root head s early (in_head m e)

  pub head_row : (mark : TreeToken) (s : State) → StartsTemplate targets.AtPlace s → IsEarly root head s →
      s.mode ≡ modes.InHead → s.tree.stack ≡ head ∷ root ∷ [] → Comes is_framed s (row modes.InHead mark s)
  head_row (character c) s starts early m e = head_text (is_white_space c) c s early m e
  head_row null s starts early m e = head_closes s early e
  head_row (comment cs) s starts early m e = comment_comes is_framed root head cs s early (in_head m e)
  head_row (doctype d) s starts early m e = stays_comes is_framed root head s early (in_head m e)
  head_row (start t) s starts early m e = head_start (tag_group t.name) t s refl starts early m e
  head_row (finish t) s starts early m e = head_end (tag_group t.name) s early m e
  head_row end_of_file s starts early m e = head_closes s early e
