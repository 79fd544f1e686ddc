-- The first template is opened in front of the body.
use Rattle.std.proofs.Common.{◌≡◌, ◌≤◌, ◌<◌, ◌+◌, if◌then◌else◌, [], ◌∷◌, ◌∙◌, Bool, None, Option, Some, ap, arith}
use Rattle.std.proofs.Common.{codes, false, inl, inr, length, refl, subst, suc, sym, true, ℕ}
use Rattle.tree_forest.specs.Forest.{Holds, IsElement, IsElementKind, contents_of, document, kind_at, name_of, nodes}
use Rattle.tree_forest.specs.Orders.{IsIn}
use Rattle.tree_formatting.specs.Entries.{marker}
use Rattle.html_lexemes.specs.declared.token.Tag.{Tag}
use Rattle.html_tree_state.specs.Building.{Building}
use Rattle.page_tree_laws.proofs.PageReady.{ActionsKeep, Ready}
use Rattle.rules_table.specs.declared.target.Target.TheVariants as targets
use Rattle.html_tree_state.specs.Insertions.{is_template}
use Rattle.tree_names.specs.Sets.{is_html}
use Rattle.page_tree_laws.proofs.BodyPlanting.{new_apart}
use Rattle.page_tree_laws.proofs.EarlyRows.{HasPlace, IsOpened, opened_at}
use Rattle.page_tree_laws.proofs.Forms.{IsFormed}
use Rattle.page_tree_laws.proofs.GroupNames.{template_named}
use Rattle.page_tree_laws.proofs.GuardKinds.{AreApart, document_title, head_title, lowest_below, root_title}
use Rattle.page_tree_laws.proofs.GuardKinds.{stands_in_template, template_guard, third_title, titled_head, titles}
use Rattle.page_tree_laws.proofs.Fits.{AreLater}
use Rattle.page_tree_laws.proofs.Guards.{AreFreeEntries, AreUnbarred, IsFree, IsKept, IsKeptForest, IsStack, is_barred}
use Rattle.page_tree_laws.proofs.Guards.{stands}
use Rattle.page_tree_laws.proofs.Phases.{IsEarly, IsPhase, head_guard, template_open}
use Rattle.page_tree_laws.proofs.TemplateLists.{templates_in}
use Rattle.rules_table.specs.Actions.{act, act_all, go_to, in_html, insert, inserted_into, is_of_text, is_text}
use Rattle.rules_table.specs.Actions.{push_template_mode, put_marker, refuse_frameset}
use Rattle.rules_table.specs.State.{State}
use Rattle.rules_table.specs.declared.target.Target.{Target}
use Rattle.tree_predicates.specs.declared.modes.InsertionMode.TheVariants as modes
use Rattle.tree_names.specs.Groups.{tag_group}
use Rattle.tree_names.specs.declared.group.TagGroup.TheVariants as groups

none : {A : Type 0} → false ≡ true → A
none e = absurd (cc)

less_apart : (n k : ℕ) → n < k → ¬ (n ≡ k)
less_apart n k h e = omega (arith, h, e)

still : (n x y : ℕ) → n < x → x ≤ y → n < y
still n x y less most = omega (arith, less, most)

none_more : (b : Bool) (x k : ℕ) → x ≡ 0 → (if b then 1 else 0) + x ≤ suc k
none_more true x k e = omega (arith, e)
none_more false x k e = omega (arith, e)

skips : (b : Bool) (x : ℕ) → b ≡ false → x ≡ 0 → (if b then 1 else 0) + x ≡ 0
skips true x e h = absurd (let k : true ≡ false = e in cc)
skips false x e h = omega (arith, h)

into_formatting : (known : Option ℕ) (t : Tag) (b : Building) → (inserted_into known t b).formatting ≡ b.formatting
into_formatting None t b = refl
into_formatting (Some n) t b = refl

module _ (is_framed : Bool) (in_head : Bool) (root head : ℕ) where
  free_with : (new n : ℕ) → IsFree (head_guard root head) n → ¬ (n ≡ new) →
      IsFree (template_guard in_head root head new) n
  free_with new n free apart (inl e) = free (inl e)
  free_with new n free apart (inr (inl e)) = free (inr (inl e))
  free_with new n free apart (inr (inr (inl e))) = apart e
  free_with new n free apart (inr (inr (inr (inl e)))) = free (inr (inr (inl e)))
  free_with new n free apart (inr (inr (inr (inr i)))) = free (lower in_head i) where
    lower : (b : Bool) → IsIn n (lowest_below b root head) → IsKept (head_guard root head) n
    lower true (inl e) = inr (inr (inl e))
    lower true (inr (inl e)) = inr (inl e)
    lower true (inr (inr j)) = absurd j
    lower false (inl e) = inr (inl e)
    lower false (inr j) = absurd j

  module _ (t : Tag) (s u : State) (early : IsEarly root head s) (opened : IsOpened is_framed root head t s u)
      (named : t.name ≡ codes "template") where
    new : ℕ
    new = nodes s.tree.forest

    apart : AreApart root head (nodes s.tree.forest)
    apart = new_apart root head s early

    at_new : (n : ℕ) → n ≡ nodes s.tree.forest → Holds n u.tree.forest
        × (name_of n u.tree.forest ≡ titles root head (nodes s.tree.forest) (codes "template") n)
    at_new n e = subst (λ k. Holds k u.tree.forest
        × (name_of k u.tree.forest ≡ titles root head (nodes s.tree.forest) (codes "template") k)) (sym e) (
          opened.new.held,
          opened.new.named ∙ (ap in_html named
              ∙ sym (third_title root head (nodes s.tree.forest) (codes "template") apart)),
        )

    old : (m : ℕ) → IsKept (head_guard root head) m → titles root head head (codes "head") m
        ≡ titles root head (nodes s.tree.forest) (codes "template") m → (n : ℕ) → n ≡ m → Holds n u.tree.forest
        × (name_of n u.tree.forest ≡ titles root head (nodes s.tree.forest) (codes "template") n)
    old m i e n same = subst (λ k. Holds k u.tree.forest
        × (name_of k u.tree.forest ≡ titles root head (nodes s.tree.forest) (codes "template") k)) (sym same)
        (opened.early.nodes.held m i, opened.early.nodes.named m i ∙ e)

    at_root : (n : ℕ) → n ≡ root → Holds n u.tree.forest
        × (name_of n u.tree.forest ≡ titles root head (nodes s.tree.forest) (codes "template") n)
    at_root = old root (inr (inl refl))
        (root_title root head head (codes "head")
        ∙ sym (root_title root head (nodes s.tree.forest) (codes "template")))

    at_head : (n : ℕ) → n ≡ head → Holds n u.tree.forest
        × (name_of n u.tree.forest ≡ titles root head (nodes s.tree.forest) (codes "template") n)
    at_head = old head (inr (inr (inl refl)))
        (titled_head root head (codes "head") early.head_root
        ∙ sym (head_title root head (nodes s.tree.forest) (codes "template") apart))

    at_lowest : (b : Bool) (n : ℕ) → IsIn n (lowest_below b root head) → Holds n u.tree.forest
        × (name_of n u.tree.forest ≡ titles root head (nodes s.tree.forest) (codes "template") n)
    at_lowest true n (inl e) = at_head n e
    at_lowest true n (inr (inl e)) = at_root n e
    at_lowest true n (inr (inr j)) = absurd j
    at_lowest false n (inl e) = at_root n e
    at_lowest false n (inr j) = absurd j

    guarded : (n : ℕ) → IsKept (template_guard in_head root head (nodes s.tree.forest)) n → Holds n u.tree.forest
        × (name_of n u.tree.forest ≡ titles root head (nodes s.tree.forest) (codes "template") n)
    guarded n (inl e) = old 0 (inl refl)
        (document_title root head head (codes "head") early.root_made early.head_made early.head_made
        ∙ sym (document_title root head (nodes s.tree.forest) (codes "template") apart.root_made apart.head_made
        apart.third_made)) n e
    guarded n (inr (inl e)) = at_root n e
    guarded n (inr (inr (inl e))) = at_new n e
    guarded n (inr (inr (inr (inl e)))) = at_head n e
    guarded n (inr (inr (inr (inr i)))) = at_lowest in_head n i

    -- what holds a template's contents is no element
    no_element_there : Ready u → (n c : ℕ) → contents_of n u.tree.forest ≡ Some c → ¬ (c ≡ nodes s.tree.forest)
    no_element_there ready n c e same =
        let is : IsElement (nodes s.tree.forest) u.tree.forest = ready.sound.elements (nodes s.tree.forest)
        (subst (IsIn (nodes s.tree.forest)) (sym opened.stack) (inl refl)) in
        let is_document : kind_at (nodes s.tree.forest) u.tree.forest ≡ document =
        subst (λ k. kind_at k u.tree.forest ≡ document) same (ready.sound.forest.contents n c e) in
        subst IsElementKind is_document is

    forest_with : Ready u → IsKeptForest (template_guard in_head root head (nodes s.tree.forest)) u.tree.forest
    forest_with ready = record {
      held = λ n i. (guarded n i).0;
      named = λ n i. (guarded n i).1;
      others = opened.early.nodes.others;
      below_document = opened.early.nodes.below_document;
      below_root = opened.early.nodes.below_root;
      closed = opened.early.nodes.closed;
      within = opened.early.nodes.within;
      contents = λ n c e.
          let was = opened.early.nodes.contents n c e in
          (free_with (nodes s.tree.forest) c was.0 (no_element_there ready n c e), was.1);
    }

    kept_lowest : (b : Bool) (n : ℕ) → IsIn n (lowest_below b root head) →
        IsKept (template_guard b root head (nodes s.tree.forest)) n
    kept_lowest b n i = inr (inr (inr (inr i)))

    none_free : (n : ℕ) → IsIn n (nodes s.tree.forest ∷ lowest_below in_head root head) →
        IsFree (template_guard in_head root head (nodes s.tree.forest)) n →
        Holds n u.tree.forest
        × (is_barred (template_guard in_head root head (nodes s.tree.forest)) (name_of n u.tree.forest) ≡ false)
    none_free n (inl e) free = absurd (free (inr (inr (inl e))))
    none_free n (inr i) free = absurd (free (kept_lowest in_head n i))

    root_none : templates_in u.tree.forest (root ∷ []) ≡ 0
    root_none = skips (is_template root u.tree.forest) 0
        (ap (is_html (codes "template")) ((at_root root refl).1
        ∙ root_title root head (nodes s.tree.forest) (codes "template"))) refl

    no_templates : (b : Bool) → templates_in u.tree.forest (lowest_below b root head) ≡ 0
    no_templates true = skips (is_template head u.tree.forest) (templates_in u.tree.forest (root ∷ []))
        (ap (is_html (codes "template")) ((at_head head refl).1
        ∙ head_title root head (nodes s.tree.forest) (codes "template") apart)) root_none
    no_templates false = root_none

    -- the template stands, and is open above what is lowest
    started : (v : State) → Ready u → IsFormed s → s.context ≡ None → s.tree.stack ≡ lowest_below in_head root head →
        v.tree.forest ≡ u.tree.forest → v.tree.stack ≡ u.tree.stack →
        v.tree.formatting ≡ marker ∷ s.tree.formatting → v.head ≡ s.head → v.form ≡ s.form →
        v.context ≡ s.context → v.mode ≡ modes.InTemplate → v.frameset_ok ≡ false →
        v.template_modes ≡ modes.InTemplate ∷ s.template_modes → IsPhase is_framed v
    started v ready formed page e forest stack formatting known form context mode refused templates =
        let g = template_guard in_head root head (nodes s.tree.forest) in
        let whole : v.tree.stack ≡ nodes s.tree.forest ∷ lowest_below in_head root head =
        stack ∙ (opened.stack ∙ ap (λ ns. nodes s.tree.forest ∷ ns) e) in
        template_open in_head root head (nodes s.tree.forest) apart (record {
          held = record {
            tree = record {
              nodes = subst (IsKeptForest g) (sym forest) (forest_with ready);
              standing = subst (IsStack g) (sym whole) stands;
              unbarred = subst (λ f. AreUnbarred g f v.tree.stack) (sym forest)
                  (subst (AreUnbarred g u.tree.forest) (sym whole) none_free);
              listed = subst (λ f. AreFreeEntries g f v.tree.formatting) (sym forest)
                  (subst (AreFreeEntries g u.tree.forest) (sym formatting) (λ n tag i.
                  let is = early.listed n tag i in (
                    free_with (nodes s.tree.forest) n is.0 (less_apart n (nodes s.tree.forest) is.1.0),
                    (still n (nodes s.tree.forest) (nodes u.tree.forest) is.1.0 opened.on.like.size, is.1.1),
                  )));
              fostering = λ k. none (sym k);
            };
            head = known ∙ early.known;
            form = λ n k. free_with (nodes s.tree.forest) n (early.form n (sym form ∙ k))
                (less_apart n (nodes s.tree.forest) (formed n (sym form ∙ k)));
            page = context ∙ page;
            mode = λ k. ap stands_in_template mode;
            original = λ k. none (ap is_of_text (sym mode) ∙ k);
            templates = subst AreLater (sym templates) (refl, early.templates);
          };
          current = λ k. none (ap is_text (sym mode) ∙ k);
        }) refused
        (subst (λ f. templates_in f v.tree.stack ≤ length v.template_modes) (sym forest)
        (subst (λ ns. templates_in u.tree.forest ns ≤ length v.template_modes) (sym whole)
        (subst (λ known_modes. templates_in u.tree.forest (nodes s.tree.forest ∷ lowest_below in_head root head)
        ≤ length known_modes) (sym templates)
        (none_more (is_template (nodes s.tree.forest) u.tree.forest)
        (templates_in u.tree.forest (lowest_below in_head root head)) (length s.template_modes)
        (no_templates in_head)))))

  pub template_started : ActionsKeep → (at : Target) (t : Tag) (s : State) → tag_group t.name ≡ groups.Template →
      IsEarly root head s → Ready s → IsFormed s → HasPlace is_framed root head at s →
      s.tree.stack ≡ lowest_below in_head root head →
      IsPhase is_framed (act_all (insert at t ∷ put_marker ∷ refuse_frameset ∷ go_to modes.InTemplate
      ∷ push_template_mode modes.InTemplate ∷ []) s)
  unfolding act
  template_started keep targets.AtPlace t s group early ready formed place e =
      let opened : IsOpened is_framed root head t s (act (insert targets.AtPlace t) s) =
      opened_at is_framed root head targets.AtPlace t s early place in
      started t s (act (insert targets.AtPlace t) s) early opened (template_named t.name group) _
      (keep (insert targets.AtPlace t) s ready) formed ready.page e refl refl refl refl refl refl refl refl refl
  template_started keep targets.IntoHead t s group early ready formed place e =
      let opened : IsOpened is_framed root head t s (act (insert targets.IntoHead t) s) =
      opened_at is_framed root head targets.IntoHead t s early place in
      started t s (act (insert targets.IntoHead t) s) early opened (template_named t.name group) _
      (keep (insert targets.IntoHead t) s ready) formed ready.page e refl refl
      (ap (λ es. marker ∷ es) (into_formatting s.head t s.tree)) refl refl refl refl refl refl
