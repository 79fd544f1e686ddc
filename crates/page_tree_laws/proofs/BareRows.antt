-- What a mark comes to before the root is made.
use Rattle.std.proofs.Common.{◌≡◌, if◌then◌else◌, [], ◌∷◌, ◌∙◌, Bool, List, ap, codes, false, refl, subst, sym, true, ℕ}
use Rattle.tree_forest.specs.Forest.{comment, doctype, nodes}
use Rattle.tree_forest.specs.Orders.{IsForest}
use Rattle.tree_forest.specs.Places.{below}
use Rattle.html_lexemes.specs.declared.names.Attribute.{Attribute}
use Rattle.html_lexemes.specs.declared.token.Doctype.{Doctype}
use Rattle.html_lexemes.specs.declared.token.Tag.{Tag}
use Rattle.html_tree_state.specs.Building.{Building}
use Rattle.html_tree_state.specs.Insertions.{inserted, inserted_at, text_or_none, with_element}
use Rattle.tree_names.specs.Sets.{is_html}
use Rattle.page_tree_laws.proofs.EarlyPhases.{Comes}
use Rattle.page_tree_laws.proofs.GroupNames.{html_named}
use Rattle.page_tree_laws.proofs.Guards.{IsKeptForest}
use Rattle.page_tree_laws.proofs.Phases.{IsBare, IsPhase, doctype_to_come, head_to_come, root_guard, root_to_come}
use Rattle.page_tree_laws.proofs.Planting.{IsPlanted, forest_within, planted}
use Rattle.page_tree_laws.specs.Skeleton.{child_elements}
use Rattle.tree_names.specs.Groups.{tag_group}
use Rattle.tree_names.specs.declared.group.TagGroup.{TagGroup}
use Rattle.tree_names.specs.declared.group.TagGroup.TheVariants as groups
use Rattle.rules_table.specs.Actions.{act, act_all, append_doctype, at_place, comment_to_document, go_to, in_html}
use Rattle.rules_table.specs.Actions.{insert, set_quirks}
use Rattle.rules_table.specs.BeforeHtml.{before_html_end, before_html_start, before_html_text, html_made}
use Rattle.rules_table.specs.Initial.{initial_text, without_doctype}
use Rattle.rules_table.specs.Rows.{done, for_character, is_white_space}
use Rattle.rules_table.specs.State.{TreeToken, State, character, end_of_file, finish, null, start}
use Rattle.rules_table.specs.State as marks
use Rattle.rules_table.specs.Table.{row}
use Rattle.tree_predicates.specs.Attributes.{is_html_annotation}
use Rattle.tree_predicates.specs.Quirks.{quirks_of}
use Rattle.tree_predicates.specs.declared.modes.InsertionMode.TheVariants as modes
use Rattle.tree_forest.specs.declared.sink.QuirksMode.TheVariants.{Quirks}
use Rattle.page_tree_laws.proofs.BareForests.{beyond_none, document_here, leaf_below, rooted_forest}

module _ (is_framed : Bool) where
  -- what leaves the document without elements
  bare_on : (s u : State) → IsBare s → u.tree.stack ≡ s.tree.stack →
      child_elements 0 u.tree.forest ≡ child_elements 0 s.tree.forest → u.tree.formatting ≡ s.tree.formatting →
      u.tree.fostering ≡ s.tree.fostering → u.head ≡ s.head → u.form ≡ s.form →
      u.template_modes ≡ s.template_modes → IsBare u
  bare_on s u bare stack elements formatting fostering head form templates = record {
    stack = stack ∙ bare.stack;
    below_document = elements ∙ bare.below_document;
    formatting = formatting ∙ bare.formatting;
    fostering = fostering ∙ bare.fostering;
    head = head ∙ bare.head;
    form = form ∙ bare.form;
    templates = templates ∙ bare.templates;
  }

  same_bare : (s u : State) → IsBare s → u.tree ≡ s.tree → u.head ≡ s.head → u.form ≡ s.form →
      u.template_modes ≡ s.template_modes → IsBare u
  same_bare s u bare tree head form templates = bare_on s u bare (ap (λ b. b.stack) tree)
      (ap (λ (b : Building). child_elements 0 b.forest) tree) (ap (λ b. b.formatting) tree)
      (ap (λ b. b.fostering) tree) head form templates

  -- the mode "initial"
  commented : (cs : List ℕ) (s : State) → IsForest s.tree.forest → IsBare s → IsBare (act (comment_to_document cs) s)
  unfolding act
  commented cs s is bare = bare_on s _ bare refl
      (leaf_below (comment cs) s.tree.forest refl refl (forest_within s.tree.forest is)) refl refl refl refl refl

  comment_mode : (cs : List ℕ) (s : State) → (act (comment_to_document cs) s).mode ≡ s.mode
  unfolding act
  comment_mode cs s = refl

  without : (srcdoc : Bool) (s : State) → IsBare s → IsPhase is_framed
      (act_all (if srcdoc then go_to modes.BeforeHtml ∷ [] else set_quirks Quirks ∷ go_to modes.BeforeHtml ∷ []) s)
  unfolding act
  without true s bare = root_to_come refl (same_bare s _ bare refl refl refl refl)
  without false s bare = root_to_come refl (bare_on s _ bare refl refl refl refl refl refl refl)

  no_doctype : (s : State) → IsBare s → IsPhase is_framed (act_all (without_doctype s) s)
  no_doctype s bare = without s.options.iframe_srcdoc s bare

  first_text : (is_space : Bool) (c : ℕ) (s : State) → s.mode ≡ modes.Initial → IsBare s →
      Comes is_framed s (for_character c (initial_text is_space s))
  first_text true c s m bare = doctype_to_come m bare
  first_text false c s m bare = no_doctype s bare

  doctype_comes : (dropped : Bool) (d : Doctype) (s : State) → IsForest s.tree.forest → IsBare s →
      Comes is_framed s (if dropped then done (set_quirks (quirks_of d) ∷ go_to modes.BeforeHtml ∷ [])
      else done (append_doctype d ∷ set_quirks (quirks_of d) ∷ go_to modes.BeforeHtml ∷ []))
  unfolding act
  doctype_comes true d s is bare = root_to_come refl (bare_on s _ bare refl refl refl refl refl refl refl)
  doctype_comes false d s is bare = root_to_come refl (bare_on s _ bare refl
      (leaf_below (doctype (text_or_none d.name) (text_or_none d.public_id) (text_or_none d.system_id)) s.tree.forest
      refl
      refl (forest_within s.tree.forest is)) refl refl refl refl refl)

  pub initial_row : (mark : TreeToken) (s : State) → IsForest s.tree.forest → s.mode ≡ modes.Initial → IsBare s →
      Comes is_framed s (row modes.Initial mark s)
  initial_row (character c) s is m bare = first_text (is_white_space c) c s m bare
  initial_row null s is m bare = no_doctype s bare
  initial_row (marks.comment cs) s is m bare =
      doctype_to_come (comment_mode cs s ∙ m) (commented cs s is bare)
  initial_row (marks.doctype d) s is m bare = doctype_comes s.options.drop_doctype d s is bare
  initial_row (start t) s is m bare = no_doctype s bare
  initial_row (finish t) s is m bare = no_doctype s bare
  initial_row end_of_file s is m bare = no_doctype s bare

  -- the root is made
  rooted : (name : List ℕ) (attributes : List Attribute) (s u : State) → name ≡ codes "html" →
      IsForest s.tree.forest → IsBare s → u.tree ≡ inserted (in_html name) attributes s.tree →
      u.mode ≡ modes.BeforeHead → u.head ≡ s.head → u.form ≡ s.form → u.template_modes ≡ s.template_modes →
      IsPhase is_framed u
  rooted name attributes s u word is bare tree mode head form templates =
      let b : Building = inserted_at (below 0) (in_html name) attributes s.tree in
      let same : u.tree ≡ b = tree ∙ ap (λ place. inserted_at place (in_html name) attributes s.tree)
      (document_here s.tree bare.stack bare.fostering is.page.1.0) in
      head_to_come (nodes s.tree.forest) (record {
        made = beyond_none (nodes s.tree.forest) is.page.0;
        mode = mode;
        stack = ap (λ (c : Building). c.stack) same ∙ ap (λ ns. nodes s.tree.forest ∷ ns) bare.stack;
        nodes = subst (λ (c : Building). IsKeptForest (root_guard (nodes s.tree.forest)) c.forest) (sym same)
            (rooted_forest s.tree.forest b.forest is bare.below_document
            (subst (λ w. IsPlanted 0 (in_html w) s.tree.forest
            (with_element (below 0) (in_html name) attributes s.tree).forest) word
            (planted 0 (in_html name) attributes (is_html (codes "template") (in_html name))
            (is_html_annotation (in_html name) attributes) s.tree.forest
            (ap (λ w. is_html (codes "template") (in_html w)) word) is.page.0 (forest_within s.tree.forest is))));
        formatting = ap (λ (c : Building). c.formatting) same ∙ bare.formatting;
        fostering = ap (λ (c : Building). c.fostering) same ∙ bare.fostering;
        head = head ∙ bare.head;
        form = form ∙ bare.form;
        templates = templates ∙ bare.templates;
      })

  html_comes : (s : State) → IsForest s.tree.forest → IsBare s → IsPhase is_framed (act_all html_made s)
  unfolding act
  html_comes s is bare = rooted (codes "html") [] s _ refl is bare refl refl refl refl refl

  html_start_comes : (t : Tag) (s : State) → tag_group t.name ≡ groups.Html → IsForest s.tree.forest → IsBare s →
      IsPhase is_framed (act_all (insert at_place t ∷ go_to modes.BeforeHead ∷ []) s)
  unfolding act
  html_start_comes t s named is bare =
      rooted t.name t.attrs s _ (html_named t.name named) is bare refl refl refl refl refl

  -- the mode "before html"
  root_text : (is_space : Bool) (c : ℕ) (s : State) → IsForest s.tree.forest → s.mode ≡ modes.BeforeHtml →
      IsBare s → Comes is_framed s (for_character c (before_html_text is_space))
  root_text true c s is m bare = root_to_come m bare
  root_text false c s is m bare = html_comes s is bare

  root_start : (group : TagGroup) (t : Tag) (s : State) → tag_group t.name ≡ group → IsForest s.tree.forest →
      IsBare s → Comes is_framed s (before_html_start group t)
  root_start groups.Html t s named is bare = html_start_comes t s named is bare
  root_start group t s named is bare = html_comes s is bare

  root_end : (group : TagGroup) (s : State) → IsForest s.tree.forest → s.mode ≡ modes.BeforeHtml → IsBare s →
      Comes is_framed s (before_html_end group)
  root_end groups.Head s is m bare = html_comes s is bare
  root_end groups.Body s is m bare = html_comes s is bare
  root_end groups.Html s is m bare = html_comes s is bare
  root_end groups.LineBreak s is m bare = html_comes s is bare
  root_end group s is m bare = root_to_come m bare

  pub before_html_row : (mark : TreeToken) (s : State) → IsForest s.tree.forest → s.mode ≡ modes.BeforeHtml → IsBare s →
      Comes is_framed s (row modes.BeforeHtml mark s)
  before_html_row (character c) s is m bare = root_text (is_white_space c) c s is m bare
  before_html_row null s is m bare = html_comes s is bare
  before_html_row (marks.comment cs) s is m bare = root_to_come (comment_mode cs s ∙ m) (commented cs s is bare)
  before_html_row (marks.doctype d) s is m bare = root_to_come m bare
  before_html_row (start t) s is m bare = root_start (tag_group t.name) t s refl is bare
  before_html_row (finish t) s is m bare = root_end (tag_group t.name) s is m bare
  before_html_row end_of_file s is m bare = html_comes s is bare
