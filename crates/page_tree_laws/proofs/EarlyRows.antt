-- The rules of the modes "in head", "in head noscript" and "after head" where the body is to come, but for templates
-- and for
-- what makes the body.
use Rattle.std.proofs.Common.{◌≡◌, [], ◌∷◌, ◌∙◌, Bool, List, None, Option, Some, ap, codes, false, refl, subst, sym}
use Rattle.std.proofs.Common.{true, ℕ}
use Rattle.tree_forest.specs.Forest.{nodes}
use Rattle.tree_forest.specs.Changes.{made_element}
use Rattle.tree_forest.specs.Places.{Place, below, put_node}
use Rattle.html_lexemes.specs.declared.names.Attribute.{Attribute}
use Rattle.html_lexemes.specs.declared.states.RawKind.TheVariants.{Rawtext, Rcdata, ScriptData}
use Rattle.html_tree_state.specs.Building.{Building}
use Rattle.page_tree_laws.proofs.ForestTexts.{IsNew, element_new, new_then, put_follows}
use Rattle.rules_table.specs.Encodings.{named_encoding}
use Rattle.rules_table.specs.Actions.{act, add_attributes, insert, insert_comment, insert_void, inserted_into}
use Rattle.rules_table.specs.Actions.{inserted_void_into, is_text, say}
use Rattle.tree_predicates.specs.Attributes.{is_html_annotation}
use Rattle.html_lexemes.specs.declared.states.RawKind.{RawKind}
use Rattle.html_lexemes.specs.declared.names.QualName.{QualName}
use Rattle.html_lexemes.specs.declared.token.Tag.{Tag}
use Rattle.html_tree_state.specs.Formatting.{name_for}
use Rattle.html_tree_state.specs.Insertions.{here, inserted_at, with_element}
use Rattle.tree_names.specs.Sets.{is_html}
use Rattle.page_tree_laws.proofs.EarlyPhases.{Comes, comes_if, quiet_comes}
use Rattle.page_tree_laws.proofs.EarlySteps.{early_on, kept_same}
use Rattle.page_tree_laws.proofs.GuardedForests.{KeptOn, still_held}
use Rattle.page_tree_laws.proofs.Phases.{IsEarly, IsEarlyStack, body_to_come, head_guard, in_head, in_noscript}
use Rattle.page_tree_laws.proofs.Phases.{past_head, text_of_head, text_of_noscript, text_past_head}
use Rattle.page_tree_laws.proofs.QuietActions.{IsQuiet, attributes_quiet, comment_quiet, element_below, said_quiet}
use Rattle.page_tree_laws.proofs.QuietActions.{void_quiet}
use Rattle.tree_names.specs.declared.group.TagGroup.{TagGroup}
use Rattle.tree_names.specs.declared.group.TagGroup.TheVariants as groups
use Rattle.rules_table.specs.Asking.{first_opened, has_template}
use Rattle.rules_table.specs.HtmlTag.{given_to, html_start}
use Rattle.rules_table.specs.InHead.{asks_encoding, in_head_start}
use Rattle.rules_table.specs.Rows.{done, ignored, reads_raw}
use Rattle.rules_table.specs.Settling.{entered}
use Rattle.rules_table.specs.State.{State, raw}
use Rattle.rules_table.specs.declared.target.Target.{Target}
use Rattle.rules_table.specs.declared.target.Target.TheVariants as targets
use Rattle.tree_predicates.specs.declared.modes.InsertionMode.{InsertionMode}
use Rattle.tree_predicates.specs.declared.modes.InsertionMode.TheVariants as modes

-- tags of elements without contents, and of elements whose text follows
abbrev pub is_metadata : TagGroup → Bool
is_metadata groups.Base = true
is_metadata groups.Link = true
is_metadata groups.Meta = true
is_metadata groups.Title = true
is_metadata groups.Noframes = true
is_metadata groups.Style = true
is_metadata groups.Script = true
is_metadata _ = false

-- an element that is made and put is there, under its name
element_put_new : (place : Place) (name : QualName) (attributes : List Attribute) (b : Building) →
    IsNew name b.forest (with_element place name attributes b).forest
element_put_new place name attributes b =
    let h = made_element name attributes (is_html (codes "template") name) (is_html_annotation name attributes)
    b.forest in
    new_then name b.forest h (put_node place (nodes b.forest) h)
    (element_new name attributes (is_html (codes "template") name) (is_html_annotation name attributes) b.forest)
    (put_follows place (nodes b.forest) h)

module _ (is_framed : Bool) (root head : ℕ) where
  pub stays_comes : (s : State) → IsEarly root head s → IsEarlyStack root head s → Comes is_framed s ignored
  stays_comes s early stack = body_to_come root head early stack

  -- the root takes attributes
  given_comes : (found : Option ℕ) (t : Tag) (s : State) → IsEarly root head s → IsEarlyStack root head s →
      Comes is_framed s (given_to found t)
  given_comes None t s early stack = stays_comes s early stack
  given_comes (Some n) t s early stack =
      quiet_comes is_framed root head s (act (add_attributes n t.attrs) s) early stack
      (attributes_quiet (head_guard root head) n t.attrs s early.nodes)

  pub html_comes : (t : Tag) (s : State) → IsEarly root head s → IsEarlyStack root head s →
      Comes is_framed s (html_start t s)
  html_comes t s early stack = comes_if (has_template s) is_framed s ignored (given_to (first_opened s.tree.stack) t)
      (λ e. stays_comes s early stack) (λ e. given_comes (first_opened s.tree.stack) t s early stack)

  pub said_comes : (c : ℕ) (s : State) → IsEarly root head s → IsEarlyStack root head s →
      Comes is_framed s (done (say (c ∷ []) ∷ []))
  said_comes c s early stack = quiet_comes is_framed root head s (act (say (c ∷ [])) s) early stack
      (said_quiet (head_guard root head) (c ∷ []) s early.nodes)

  pub comment_comes : (cs : List ℕ) (s : State) → IsEarly root head s → IsEarlyStack root head s →
      Comes is_framed s (done (insert_comment cs ∷ []))
  comment_comes cs s early stack = quiet_comes is_framed root head s (act (insert_comment cs) s) early stack
      (comment_quiet (head_guard root head) cs s early.nodes)

  -- where a tag's element goes: below the current node, or into the head
  pub record HasPlace (at : Target) (s : State) : Type 0 where
    pub node : ℕ
    pub no_document : ¬ (node ≡ 0)
    pub no_root : ¬ (node ≡ root)
    pub at_here : at ≡ targets.AtPlace → here s.tree ≡ below node
    pub in_head : at ≡ targets.IntoHead → head ≡ node

  void_at : (at : Target) (t : Tag) (s : State) → IsEarly root head s → HasPlace at s →
      IsQuiet (head_guard root head) s (act (insert_void at t) s)
  unfolding act
  void_at targets.AtPlace t s early place = void_quiet (head_guard root head) place.node (here s.tree) (name_for t)
      t.attrs s (place.at_here refl) place.no_document place.no_root early.nodes
  void_at targets.IntoHead t s early place = subst
      (λ known. IsQuiet (head_guard root head) s (record s { tree = inserted_void_into known t s.tree }))
      (sym early.known)
      (void_quiet (head_guard root head) place.node (below head) (name_for t) t.attrs s (ap below (place.in_head refl))
      place.no_document place.no_root early.nodes)

  pub void_comes : (at : Target) (t : Tag) (s : State) → IsEarly root head s → IsEarlyStack root head s →
      HasPlace at s → Comes is_framed s (done (insert_void at t ∷ []))
  void_comes at t s early stack place =
      quiet_comes is_framed root head s (act (insert_void at t) s) early stack (void_at at t s early place)

  meta_by : (found : Option (List ℕ)) (at : Target) (t : Tag) (s : State) → IsEarly root head s →
      IsEarlyStack root head s → HasPlace at s → Comes is_framed s (asks_encoding found (insert_void at t ∷ []))
  meta_by None at t s early stack place = void_comes at t s early stack place
  meta_by (Some name) at t s early stack place = void_comes at t s early stack place

  -- an element more is open
  pub record IsOpened (t : Tag) (s u : State) : Type 0 where
    pub early : IsEarly root head u
    pub on : KeptOn (head_guard root head) s.tree.forest u.tree.forest
    pub stack : u.tree.stack ≡ nodes s.tree.forest ∷ s.tree.stack
    pub mode : u.mode ≡ s.mode
    pub new : IsNew (name_for t) s.tree.forest u.tree.forest

  opened_below : (p : ℕ) (place : Place) (t : Tag) (s : State) → IsEarly root head s → place ≡ below p → ¬ (p ≡ 0) →
      ¬ (p ≡ root) → IsOpened t s (record s { tree = inserted_at place (name_for t) t.attrs s.tree })
  opened_below p place t s early e no_document no_root = subst
      (λ l. IsOpened t s (record s { tree = inserted_at l (name_for t) t.attrs s.tree })) (sym e)
      (let on : KeptOn (head_guard root head) s.tree.forest
      (with_element (below p) (name_for t) t.attrs s.tree).forest =
      element_below (head_guard root head) p (name_for t) t.attrs s.tree no_document no_root early.nodes in
      record {
        early = early_on root head s (record s { tree = inserted_at (below p) (name_for t) t.attrs s.tree }) early on
            refl refl refl refl (λ k. k) refl;
        on = on;
        stack = refl;
        mode = refl;
        new = element_put_new (below p) (name_for t) t.attrs s.tree;
      })

  pub opened_at : (at : Target) (t : Tag) (s : State) → IsEarly root head s → HasPlace at s →
      IsOpened t s (act (insert at t) s)
  unfolding act
  opened_at targets.AtPlace t s early place =
      opened_below place.node (here s.tree) t s early (place.at_here refl) place.no_document place.no_root
  opened_at targets.IntoHead t s early place = subst
      (λ known. IsOpened t s (record s { tree = inserted_into known t s.tree })) (sym early.known)
      (opened_below place.node (below head) t s early (ap below (place.in_head refl)) place.no_document place.no_root)

  -- after what asks for an element's text the mode is "text"
  text_early : (kind : RawKind) (u : State) → IsEarly root head u → IsEarly root head (entered (raw kind) u)
  text_early kind u early = early_on root head u (entered (raw kind) u) early
      (kept_same (head_guard root head) u.tree.forest early.nodes) refl refl refl refl (λ k. k) refl

  no_text : {A : Type 0} (mode : InsertionMode) → is_text mode ≡ false → mode ≡ modes.Text → A
  no_text mode apart e = absurd (let k : true ≡ false = ap is_text (sym e) ∙ apart in cc)

  text_stack : (kind : RawKind) (t : Tag) (s u : State) → IsOpened t s u → is_text s.mode ≡ false →
      IsEarlyStack root head s → IsEarlyStack root head (entered (raw kind) u)
  text_stack kind t s u opened apart (in_head m e) = text_of_head (nodes s.tree.forest) refl (opened.mode ∙ m)
      (opened.stack ∙ ap (λ ns. nodes s.tree.forest ∷ ns) e)
  text_stack kind t s u opened apart (in_noscript k m e other held named) =
      text_of_noscript (nodes s.tree.forest) k refl (opened.mode ∙ m)
      (opened.stack ∙ ap (λ ns. nodes s.tree.forest ∷ ns) e) other
      (still_held k (nodes s.tree.forest) (nodes u.tree.forest) held opened.on.like.size)
      (opened.on.like.names k held ∙ named)
  text_stack kind t s u opened apart (past_head m e) = text_past_head (nodes s.tree.forest) refl (opened.mode ∙ m)
      (opened.stack ∙ ap (λ ns. nodes s.tree.forest ∷ ns) e)
  text_stack kind t s u opened apart (text_of_head k m o e) = no_text s.mode apart m
  text_stack kind t s u opened apart (text_of_noscript k j m o e other held named) = no_text s.mode apart m
  text_stack kind t s u opened apart (text_past_head k m o e) = no_text s.mode apart m

  pub raw_comes : (kind : RawKind) (at : Target) (t : Tag) (s : State) → IsEarly root head s →
      IsEarlyStack root head s → is_text s.mode ≡ false → HasPlace at s →
      Comes is_framed s (reads_raw kind (insert at t ∷ []))
  raw_comes kind at t s early stack apart place =
      let opened = opened_at at t s early place in
      body_to_come root head (text_early kind (act (insert at t) s) opened.early)
      (text_stack kind t s (act (insert at t) s) opened apart stack)

  -- tags that the modes take alike: metadata, titles and scripts
  pub head_start_comes : (at : Target) (group : TagGroup) (t : Tag) (s : State) → is_metadata group ≡ true →
      IsEarly root head s → IsEarlyStack root head s → is_text s.mode ≡ false → HasPlace at s →
      Comes is_framed s (in_head_start at group t s)
  head_start_comes at groups.Base t s is early stack apart place = void_comes at t s early stack place
  head_start_comes at groups.Link t s is early stack apart place = void_comes at t s early stack place
  head_start_comes at groups.Meta t s is early stack apart place =
      meta_by (named_encoding t.attrs) at t s early stack place
  head_start_comes at groups.Title t s is early stack apart place = raw_comes Rcdata at t s early stack apart place
  head_start_comes at groups.Noframes t s is early stack apart place = raw_comes Rawtext at t s early stack apart place
  head_start_comes at groups.Style t s is early stack apart place = raw_comes Rawtext at t s early stack apart place
  head_start_comes at groups.Script t s is early stack apart place = raw_comes ScriptData at t s early stack apart place
  head_start_comes at group t s is early stack apart place = absurd (let k : false ≡ true = is in cc)
