-- What a mark comes to where the root is open, and the head is to come.
use Rattle.std.proofs.Common.{◌≡◌, [], ◌∷◌, ◌++◌, ◌∙◌, Bool, List, None, Option, Some, ap, codes, false, inl, inr, refl}
use Rattle.std.proofs.Common.{subst, sym, true, ℕ}
use Rattle.tree_formatting.specs.Entries.{Entry}
use Rattle.tree_forest.specs.Changes.{made}
use Rattle.tree_forest.specs.Forest.{Forest, Holds, name_of, nodes}
use Rattle.tree_forest.specs.Places.{below}
use Rattle.html_lexemes.specs.declared.names.Attribute.{Attribute}
use Rattle.html_lexemes.specs.declared.token.Tag.{Tag}
use Rattle.html_tree_state.specs.Building.{Building}
use Rattle.html_tree_state.specs.Insertions.{here, inserted, inserted_at, with_element}
use Rattle.html_tree_state.specs.OpenElements.{first_of}
use Rattle.html_tree_state.specs.Sound.{IsListed}
use Rattle.tree_names.specs.ElementSets.{foster_targets}
use Rattle.tree_names.specs.Sets.{is_element_of, is_html}
use Rattle.page_tree_laws.proofs.EarlyPhases.{Comes, comes_if}
use Rattle.page_tree_laws.proofs.EarlySteps.{here_below}
use Rattle.page_tree_laws.proofs.GroupNames.{head_named}
use Rattle.page_tree_laws.proofs.GuardKinds.{document_title, root_title, titled_head}
use Rattle.page_tree_laws.proofs.Fits.{AreLater}
use Rattle.page_tree_laws.proofs.Guards.{IsFree, IsKept, IsKeptForest}
use Rattle.page_tree_laws.proofs.Phases.{IsPhase, IsRooted, body_to_come, head_guard, head_to_come, in_head, root_guard}
use Rattle.page_tree_laws.proofs.Planting.{IsPlanted, planted}
use Rattle.page_tree_laws.proofs.QuietActions.{IsQuiet, attributes_quiet, comment_quiet}
use Rattle.tree_names.specs.Groups.{tag_group}
use Rattle.tree_names.specs.declared.group.TagGroup.{TagGroup}
use Rattle.tree_names.specs.declared.group.TagGroup.TheVariants as groups
use Rattle.rules_table.specs.Actions.{act, act_all, add_attributes, at_place, go_to, in_html, insert, insert_comment}
use Rattle.rules_table.specs.Actions.{keep_head}
use Rattle.rules_table.specs.Asking.{first_opened, has_template}
use Rattle.rules_table.specs.BeforeHead.{before_head_end, before_head_start, before_head_text, head_made}
use Rattle.rules_table.specs.HtmlTag.{given_to, html_start}
use Rattle.rules_table.specs.Rows.{for_character, ignored, is_white_space}
use Rattle.rules_table.specs.State.{TreeToken, State, character, end_of_file, finish, null, start}
use Rattle.rules_table.specs.State as marks
use Rattle.rules_table.specs.Table.{row}
use Rattle.tree_predicates.specs.Attributes.{is_html_annotation}
use Rattle.tree_predicates.specs.declared.modes.InsertionMode.TheVariants as modes
use Rattle.page_tree_laws.proofs.BareForests.{less_apart, still}

-- after the head's planting
head_forest : (root : ℕ) (f h : Forest) → ¬ (root ≡ 0) → IsKeptForest (root_guard root) f →
    IsPlanted root (in_html (codes "head")) f h → IsKeptForest (head_guard root (nodes f)) h
head_forest root f h made is new = record {
  held = λ n i. (guarded n i).0;
  named = λ n i. (guarded n i).1;
  others = [];
  below_document = new.elsewhere 0 (λ e. made (sym e)) ∙ is.below_document;
  below_root = new.there ∙ ap (λ ns. ns ++ nodes f ∷ []) (is.below_root ∙ is.closed refl);
  closed = λ e. refl;
  within = new.within;
  contents = λ n c e.
      let was = is.contents n c (new.contents n c e) in
      (free c was.0 was.1, still c (nodes f) (nodes h) was.1 new.like.size);
} where
  head_made : ¬ (nodes f ≡ 0)
  head_made e = less_apart 0 (nodes f) (is.held 0 (inl refl)) (sym e)

  head_root : ¬ (nodes f ≡ root)
  head_root e = less_apart root (nodes f) (is.held root (inr (inl refl))) (sym e)

  old : (m : ℕ) → IsKept (root_guard root) m →
      (root_guard root).title m ≡ (head_guard root (nodes f)).title m → (n : ℕ) → n ≡ m →
      Holds n h × (name_of n h ≡ (head_guard root (nodes f)).title n)
  old m i e n same = subst (λ k. Holds k h × (name_of k h ≡ (head_guard root (nodes f)).title k)) (sym same)
      (still m (nodes f) (nodes h) (is.held m i) new.like.size, new.like.names m (is.held m i) ∙ (is.named m i ∙ e))

  zero_old : (n : ℕ) → n ≡ 0 → Holds n h × (name_of n h ≡ (head_guard root (nodes f)).title n)
  zero_old = old 0 (inl refl) (document_title root root root (codes "html") made made made
      ∙ sym (document_title root (nodes f) (nodes f) (codes "head") made head_made head_made))

  root_old : (n : ℕ) → n ≡ root → Holds n h × (name_of n h ≡ (head_guard root (nodes f)).title n)
  root_old = old root (inr (inl refl)) (root_title root root root (codes "html")
      ∙ sym (root_title root (nodes f) (nodes f) (codes "head")))

  new_head : (n : ℕ) → n ≡ nodes f → Holds n h × (name_of n h ≡ (head_guard root (nodes f)).title n)
  new_head n same = subst (λ k. Holds k h × (name_of k h ≡ (head_guard root (nodes f)).title k)) (sym same)
      (new.held, new.named ∙ sym (titled_head root (nodes f) (codes "head") head_root))

  guarded : (n : ℕ) → IsKept (head_guard root (nodes f)) n →
      Holds n h × (name_of n h ≡ (head_guard root (nodes f)).title n)
  guarded n (inl e) = zero_old n e
  guarded n (inr (inl e)) = root_old n e
  guarded n (inr (inr (inl e))) = new_head n e
  guarded n (inr (inr (inr (inl e)))) = new_head n e
  guarded n (inr (inr (inr (inr (inl e))))) = root_old n e
  guarded n (inr (inr (inr (inr (inr i))))) = absurd i

  free : (c : ℕ) → IsFree (root_guard root) c → Holds c f → IsFree (head_guard root (nodes f)) c
  free c was there (inl e) = was (inl e)
  free c was there (inr (inl e)) = was (inr (inl e))
  free c was there (inr (inr (inl e))) = less_apart c (nodes f) there e
  free c was there (inr (inr (inr (inl e)))) = less_apart c (nodes f) there e
  free c was there (inr (inr (inr (inr (inl e))))) = was (inr (inl e))
  free c was there (inr (inr (inr (inr (inr i))))) = absurd i

module _ (is_framed : Bool) (root : ℕ) where
  -- quiet actions
  rooted_on : (s u : State) → IsRooted root s → IsQuiet (root_guard root) s u → IsPhase is_framed u
  rooted_on s u is quiet = head_to_come root (record {
    made = is.made;
    mode = quiet.mode ∙ is.mode;
    stack = quiet.stack ∙ is.stack;
    nodes = quiet.nodes.kept;
    formatting = quiet.formatting ∙ is.formatting;
    fostering = quiet.fostering ∙ is.fostering;
    head = quiet.head ∙ is.head;
    form = quiet.form ∙ is.form;
    templates = quiet.templates ∙ is.templates;
  })

  root_given : (found : Option ℕ) (t : Tag) (s : State) → IsRooted root s → Comes is_framed s (given_to found t)
  root_given None t s is = head_to_come root is
  root_given (Some n) t s is = rooted_on s (act (add_attributes n t.attrs) s) is
      (attributes_quiet (root_guard root) n t.attrs s is.nodes)

  root_taken : (t : Tag) (s : State) → IsRooted root s → Comes is_framed s (html_start t s)
  root_taken t s is = comes_if (has_template s) is_framed s ignored (given_to (first_opened s.tree.stack) t)
      (λ e. head_to_come root is) (λ e. root_given (first_opened s.tree.stack) t s is)

  root_here : (s : State) → IsRooted root s → here s.tree ≡ below root
  root_here s is =
      let named : name_of root s.tree.forest ≡ in_html (codes "html") =
      is.nodes.named root (inr (inl refl)) ∙ root_title root root root (codes "html") in
      here_below root [] s.tree is.stack (ap (is_element_of foster_targets) named)
      (ap (is_html (codes "template")) named)

  -- no entry is listed
  none_listed : (es : List Entry) → es ≡ [] → (n : ℕ) (t : Tag) → IsListed n t es → ⊥
  none_listed [] e n t i = i
  none_listed (x ∷ es) e n t i = absurd (let k : x ∷ es ≡ [] = e in cc)

  -- the head is made
  headed : (name : List ℕ) (attributes : List Attribute) (s u : State) → name ≡ codes "head" → IsRooted root s →
      u.tree ≡ inserted (in_html name) attributes s.tree → u.mode ≡ modes.InHead →
      u.head ≡ first_of (inserted (in_html name) attributes s.tree).stack → u.form ≡ s.form →
      u.template_modes ≡ s.template_modes → IsPhase is_framed u
  headed name attributes s u word is tree mode head form templates =
      let b : Building = inserted_at (below root) (in_html name) attributes s.tree in
      let same : u.tree ≡ b = tree ∙ ap (λ place. inserted_at place (in_html name) attributes s.tree) (root_here s
      is) in
      body_to_come root (nodes s.tree.forest) (record {
        root_made = is.made;
        head_made = λ e. less_apart 0 (nodes s.tree.forest) (is.nodes.held 0 (inl refl)) (sym e);
        head_root = λ e. less_apart root (nodes s.tree.forest) (is.nodes.held root (inr (inl refl))) (sym e);
        nodes = subst (λ (c : Building). IsKeptForest (head_guard root (nodes s.tree.forest)) c.forest) (sym same)
            (head_forest root s.tree.forest b.forest is.made is.nodes
            (subst (λ w. IsPlanted root (in_html w) s.tree.forest
            (with_element (below root) (in_html name) attributes s.tree).forest) word
            (planted root (in_html name) attributes (is_html (codes "template") (in_html name))
            (is_html_annotation (in_html name) attributes) s.tree.forest
            (ap (λ w. is_html (codes "template") (in_html w)) word) (is.nodes.held root (inr (inl refl)))
            is.nodes.within)));
        listed = λ n t i. absurd (none_listed u.tree.formatting
            (ap (λ (c : Building). c.formatting) same ∙ is.formatting) n t i);
        known = head;
        form = λ n e. absurd (let k : None ≡ Some n = sym (form ∙ is.form) ∙ e in cc);
        templates = subst AreLater (sym (templates ∙ is.templates)) tt;
        calm = λ e. ap (λ (c : Building). c.fostering) same ∙ is.fostering;
      }) (in_head mode (ap (λ (c : Building). c.stack) same ∙ ap (λ ns. nodes s.tree.forest ∷ ns) is.stack))

  head_comes : (s : State) → IsRooted root s → IsPhase is_framed (act_all head_made s)
  unfolding act
  head_comes s is = headed (codes "head") [] s _ refl is refl refl refl refl refl

  head_start_comes : (t : Tag) (s : State) → tag_group t.name ≡ groups.Head → IsRooted root s →
      IsPhase is_framed (act_all (insert at_place t ∷ keep_head ∷ go_to modes.InHead ∷ []) s)
  unfolding act
  head_start_comes t s named is = headed t.name t.attrs s _ (head_named t.name named) is refl refl refl refl refl

  -- the mode "before head"
  head_text : (is_space : Bool) (c : ℕ) (s : State) → IsRooted root s →
      Comes is_framed s (for_character c (before_head_text is_space))
  head_text true c s is = head_to_come root is
  head_text false c s is = head_comes s is

  head_start : (group : TagGroup) (t : Tag) (s : State) → tag_group t.name ≡ group → IsRooted root s →
      Comes is_framed s (before_head_start group t s)
  head_start groups.Html t s named is = root_taken t s is
  head_start groups.Head t s named is = head_start_comes t s named is
  head_start group t s named is = head_comes s is

  head_end : (group : TagGroup) (s : State) → IsRooted root s → Comes is_framed s (before_head_end group)
  head_end groups.Head s is = head_comes s is
  head_end groups.Body s is = head_comes s is
  head_end groups.Html s is = head_comes s is
  head_end groups.LineBreak s is = head_comes s is
  head_end group s is = head_to_come root is

  pub before_head_row : (mark : TreeToken) (s : State) → IsRooted root s →
      Comes is_framed s (row modes.BeforeHead mark s)
  before_head_row (character c) s is = head_text (is_white_space c) c s is
  before_head_row null s is = head_comes s is
  before_head_row (marks.comment cs) s is = rooted_on s (act (insert_comment cs) s) is
      (comment_quiet (root_guard root) cs s is.nodes)
  before_head_row (marks.doctype d) s is = head_to_come root is
  before_head_row (start t) s is = head_start (tag_group t.name) t s refl is
  before_head_row (finish t) s is = head_end (tag_group t.name) s is
  before_head_row end_of_file s is = head_comes s is
