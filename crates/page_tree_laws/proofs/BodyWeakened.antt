-- A body that may still give way to a frameset is one after which elements may follow; and where it gives way, the
-- body is to
-- come again.
use Rattle.std.proofs.Common.{◌≡◌, ◌<◌, ◌==◌, ◌||◌, if◌then◌else◌, [], ◌∷◌, ◌++◌, ◌∙◌, Bool, List, None, Some, ap}
use Rattle.std.proofs.Common.{arith, bytes_eq, codes, eq-eqb, eqb-true, false, inl, inr, refl, subst, sym, true, ℕ}
use Rattle.tree_forest.specs.Changes.{detached, left_out, without_child}
use Rattle.tree_forest.specs.Forest.{Forest, Holds, children_at, element_of, kind_at, name_of, nodes}
use Rattle.tree_forest.specs.Orders.{IsIn}
use Rattle.tree_forest.proofs.Nodes.{mapped_at, size_mapped}
use Rattle.tree_forest.proofs.Numbers.{in_left_out}
use Rattle.html_lexemes.specs.declared.names.Namespace.{Namespace}
use Rattle.html_lexemes.specs.declared.names.Namespace.TheVariants.{Html, MathMl, Other, Svg}
use Rattle.html_lexemes.specs.declared.names.QualName.{QualName}
use Rattle.html_tree_state.specs.OpenElements.{from_first}
use Rattle.tree_names.specs.Sets.{html_elements, is_element_of}
use Rattle.tree_names.specs.Wanted.{one}
use Rattle.page_tree_laws.proofs.ElementLists.{elements_left_out, elements_same}
use Rattle.page_tree_laws.proofs.Fits.{IsHeld}
use Rattle.page_tree_laws.proofs.GoingRows.{going}
use Rattle.page_tree_laws.proofs.GroupNames.{element_passes}
use Rattle.page_tree_laws.proofs.GuardKinds.{AreApart, body_guard, body_stands, document_title, early_names, head_title}
use Rattle.page_tree_laws.proofs.GuardKinds.{root_title, third_title, titled_head}
use Rattle.page_tree_laws.proofs.GuardedForests.{children_mapped}
use Rattle.page_tree_laws.proofs.Guards.{AreUnbarred, IsFree, IsKept, IsKeptForest, IsStack, bare, base_names, nearer}
use Rattle.page_tree_laws.proofs.Guards.{stands}
use Rattle.page_tree_laws.proofs.Phases.{IsEarly, head_guard}
use Rattle.page_tree_laws.specs.Skeleton.{child_elements, elements_among, is_element}
use Rattle.rules_table.specs.Actions.{act, act_all, out_of_text, pop_down_to, take_out}
use Rattle.rules_table.specs.Asking.{second_opened}
use Rattle.rules_table.specs.State.{State}

none : {A : Type 0} → false ≡ true → A
none e = absurd (cc)

-- names that are barred before are those that are barred later, and more
fewer_by : (a b c d k : Bool) → (a || (b || (c || (d || (k || false))))) ≡ false → (a || (b || false)) ≡ false
fewer_by true b c d k e = e
fewer_by false true c d k e = e
fewer_by false false c d k e = refl

fewer_of : (ns : Namespace) (local : List ℕ) →
    is_element_of (html_elements base_names) (record { ns = ns; local = local }) ≡ false →
    is_element_of (html_elements early_names) (record { ns = ns; local = local }) ≡ false
fewer_of Html local e = fewer_by (bytes_eq local (codes "html")) (bytes_eq local (codes "head"))
    (bytes_eq local (codes "body")) (bytes_eq local (codes "frameset")) (bytes_eq local (codes "template")) e
fewer_of MathMl local e = refl
fewer_of Svg local e = refl
fewer_of (Other text) local e = refl

fewer_barred : (name : QualName) → is_element_of (html_elements base_names) name ≡ false →
    is_element_of (html_elements early_names) name ≡ false
fewer_barred name e = fewer_of name.ns name.local e

module _ (root head body : ℕ) where
  going_stack : (ns : List ℕ) → IsStack (body_guard root head body) ns → IsStack (going root head body) ns
  going_stack _ stands = stands
  going_stack _ (bare e) = bare refl
  going_stack _ (nearer n ns free rest) = nearer n ns free (going_stack ns rest)

  pub going_held : (s : State) → IsHeld (body_guard root head body) s → IsHeld (going root head body) s
  going_held s held = record {
    tree = record {
      nodes = record {
        held = held.tree.nodes.held;
        named = held.tree.nodes.named;
        others = held.tree.nodes.others;
        below_document = held.tree.nodes.below_document;
        below_root = held.tree.nodes.below_root;
        closed = λ e. none (sym e);
        within = held.tree.nodes.within;
        contents = held.tree.nodes.contents;
      };
      standing = going_stack s.tree.stack held.tree.standing;
      unbarred = λ n i free. let is = held.tree.unbarred n i free in (
        is.0,
        fewer_barred (name_of n s.tree.forest)
            is.1,
      );
      listed = held.tree.listed;
      fostering = λ e. none (sym e);
    };
    head = held.head;
    form = held.form;
    page = held.page;
    mode = λ e. body_stands s.mode (held.mode e);
    original = λ e. body_stands (out_of_text s.original) (held.original e);
    templates = held.templates;
  }

  -- the body is the element that was opened second
  second_on : (m : ℕ) (ms : List ℕ) → second_opened ms ≡ Some body → second_opened (m ∷ ms) ≡ Some body
  second_on m [] e = absurd (let k : None ≡ Some body = e in cc)
  second_on m (n ∷ []) e = absurd (let k : None ≡ Some body = e in cc)
  second_on m (n ∷ k ∷ ns) e = e

  pub opened_second : (ns : List ℕ) → IsStack (body_guard root head body) ns → second_opened ns ≡ Some body
  opened_second _ stands = refl
  opened_second _ (bare e) = none e
  opened_second _ (nearer n ns free rest) = second_on n ns (opened_second ns rest)

  -- without the body
  same_kind : (f : Forest) (n : ℕ) → kind_at n (detached body f) ≡ kind_at n f
  same_kind f n = ap (λ x. x.kind) (mapped_at n (without_child body) f refl)

  same_name : (f : Forest) (n : ℕ) → name_of n (detached body f) ≡ name_of n f
  same_name f n = ap (λ k. (element_of k).name) (same_kind f n)

  as_many : (f : Forest) (n : ℕ) → Holds n f → Holds n (detached body f)
  as_many f n held = same_size n (nodes f) (nodes (detached body f)) held (size_mapped (without_child body) f) where
    same_size : (k x y : ℕ) → k < x → y ≡ x → k < y
    same_size k x y less e = omega (arith, less, e)

  left_elements : (f : Forest) (q : ℕ) → child_elements q (detached body f) ≡ left_out body (child_elements q f)
  left_elements f q =
      elements_same f (detached body f) (children_at q (detached body f)) (λ n i. ap is_element (same_kind f n))
      ∙ (ap (elements_among f) (children_mapped (without_child body) f (λ n. refl) q)
      ∙ elements_left_out f body (children_at q f))

  kept_left : (n m : ℕ) (ns : List ℕ) → ¬ (n ≡ m) → left_out m (n ∷ ns) ≡ n ∷ left_out m ns
  kept_left n m ns apart = by (n == m) refl where
    by : (b : Bool) → (n == m) ≡ b → (if b then left_out m ns else n ∷ left_out m ns) ≡ n ∷ left_out m ns
    by true e = absurd (apart (eqb-true n m e))
    by false e = refl

  gone_left : (m : ℕ) (ns : List ℕ) → left_out m (m ∷ ns) ≡ left_out m ns
  gone_left m ns = by (m == m) (eq-eqb m m refl) where
    by : (b : Bool) → b ≡ true → (if b then left_out m ns else m ∷ left_out m ns) ≡ left_out m ns
    by true e = refl
    by false e = none e

  module _ (apart : AreApart root head body) where
    -- what is guarded in front of the body is guarded beside it
    kept_too : (n : ℕ) → IsKept (head_guard root head) n → IsKept (body_guard root head body) n
    kept_too n (inl e) = inl e
    kept_too n (inr (inl e)) = inr (inl e)
    kept_too n (inr (inr (inl e))) = inr (inr (inr (inl e)))
    kept_too n (inr (inr (inr (inl e)))) = inr (inr (inr (inl e)))
    kept_too n (inr (inr (inr (inr (inl e))))) = inr (inl e)
    kept_too n (inr (inr (inr (inr (inr i))))) = absurd i

    free_too : (n : ℕ) → IsFree (body_guard root head body) n → IsFree (head_guard root head) n
    free_too n free i = free (kept_too n i)

    at_root : (n : ℕ) → n ≡ root → (body_guard root head body).title n ≡ (head_guard root head).title n
    at_root n e = subst (λ k. (body_guard root head body).title k ≡ (head_guard root head).title k) (sym e)
        (root_title root head body (codes "body") ∙ sym (root_title root head head (codes "head")))

    at_head : (n : ℕ) → n ≡ head → (body_guard root head body).title n ≡ (head_guard root head).title n
    at_head n e = subst (λ k. (body_guard root head body).title k ≡ (head_guard root head).title k) (sym e)
        (head_title root head body (codes "body") apart ∙ sym (titled_head root head (codes "head") apart.head_root))

    same_title : (n : ℕ) → IsKept (head_guard root head) n →
        (body_guard root head body).title n ≡ (head_guard root head).title n
    same_title n (inl e) = subst (λ k. (body_guard root head body).title k ≡ (head_guard root head).title k) (sym e)
        (document_title root head body (codes "body") apart.root_made apart.head_made apart.third_made
        ∙ sym (document_title root head head (codes "head") apart.root_made apart.head_made apart.head_made))
    same_title n (inr (inl e)) = at_root n e
    same_title n (inr (inr (inl e))) = at_head n e
    same_title n (inr (inr (inr (inl e)))) = at_head n e
    same_title n (inr (inr (inr (inr (inl e))))) = at_root n e
    same_title n (inr (inr (inr (inr (inr i))))) = absurd i

    forest_again : (f : Forest) → IsKeptForest (body_guard root head body) f →
        IsKeptForest (head_guard root head) (detached body f)
    forest_again f held = record {
      held = λ n i. as_many f n (held.held n (kept_too n i));
      named = λ n i. same_name f n ∙ (held.named n (kept_too n i) ∙ same_title n i);
      others = [];
      below_document = left_elements f 0 ∙ (ap (left_out body) held.below_document
          ∙ kept_left root body [] (λ e. apart.third_root (sym e)));
      below_root = left_elements f root ∙ (ap (left_out body) (held.below_root ∙ alone held.others (held.closed refl))
          ∙ (kept_left head body (body ∷ []) (λ e. apart.third_head (sym e))
          ∙ ap (λ ns. head ∷ ns) (gone_left body [])));
      closed = λ e. refl;
      within = λ q d i. as_many f d (held.within q d
          (in_left_out d body (children_at q f)
          (subst (IsIn d) (children_mapped (without_child body) f (λ n. refl) q) i)).0);
      contents = λ n c e.
          let was = held.contents n c (sym (ap (λ k. (element_of k).contents) (same_kind f n)) ∙ e) in
          (free_too c was.0, as_many f c was.1);
    } where
      alone : (ms : List ℕ) → ms ≡ [] → (head ∷ body ∷ []) ++ ms ≡ head ∷ body ∷ []
      alone ms e = ap (λ ns. head ∷ body ∷ ns) e

    -- popped down to the root
    at_once : (f : Forest) (n : ℕ) (ns : List ℕ) → is_element_of (one (codes "html")) (name_of n f) ≡ true →
        from_first (one (codes "html")) f (n ∷ ns) ≡ n ∷ ns
    at_once f n ns e = by (is_element_of (one (codes "html")) (name_of n f)) e where
      by : (b : Bool) → b ≡ true → (if b then n ∷ ns else from_first (one (codes "html")) f ns) ≡ n ∷ ns
      by true k = refl
      by false k = none k

    past : (f : Forest) (n : ℕ) (ns : List ℕ) → is_element_of (one (codes "html")) (name_of n f) ≡ false →
        from_first (one (codes "html")) f (n ∷ ns) ≡ from_first (one (codes "html")) f ns
    past f n ns e = by (is_element_of (one (codes "html")) (name_of n f)) e where
      by : (b : Bool) → b ≡ false →
          (if b then n ∷ ns else from_first (one (codes "html")) f ns) ≡ from_first (one (codes "html")) f ns
      by true k = none (sym k)
      by false k = refl

    no_html : (name : QualName) → is_element_of (html_elements base_names) name ≡ false →
        is_element_of (one (codes "html")) name ≡ false
    no_html name e = by (is_element_of (one (codes "html")) name) refl where
      by : (b : Bool) → is_element_of (one (codes "html")) name ≡ b → b ≡ false
      by true is = none (sym e ∙ element_passes (codes "html" ∷ []) base_names name refl is)
      by false is = refl

    root_left : (f : Forest) (ns : List ℕ) → IsKeptForest (body_guard root head body) f →
        IsStack (body_guard root head body) ns → AreUnbarred (body_guard root head body) f ns →
        from_first (one (codes "html")) (detached body f) ns ≡ root ∷ []
    root_left f _ held stands free = past (detached body f) body (root ∷ [])
        (ap (is_element_of (one (codes "html"))) (same_name f body ∙ (held.named body (inr (inr (inl refl)))
        ∙ third_title root head body (codes "body") apart)))
        ∙ at_once (detached body f) root []
        (ap (is_element_of (one (codes "html"))) (same_name f root ∙ (held.named root (inr (inl refl))
        ∙ root_title root head body (codes "body"))))
    root_left f _ held (bare e) free = none e
    root_left f _ held (nearer n ns own rest) free = past (detached body f) n ns
        (no_html (name_of n (detached body f)) (ap (is_element_of (html_elements base_names)) (same_name f n)
        ∙ (free n (inl refl) own).1))
        ∙ root_left f ns held rest (λ m i k. free m (inr i) k)

    pub early_again : (s : State) → IsHeld (body_guard root head body) s →
        IsEarly root head (act_all (take_out body ∷ pop_down_to (one (codes "html")) ∷ []) s)
        × ((act_all (take_out body ∷ pop_down_to (one (codes "html")) ∷ []) s).tree.stack ≡ root ∷ [])
    unfolding act
    early_again s held = (
      record {
        root_made = apart.root_made;
        head_made = apart.head_made;
        head_root = apart.head_root;
        nodes = forest_again s.tree.forest held.tree.nodes;
        listed = λ n tag i.
            let is = held.tree.listed n tag i in
            (free_too n is.0, (as_many s.tree.forest n is.1.0, is.1.1));
        known = held.head;
        form = λ n e. free_too n (held.form n e);
        templates = held.templates;
        calm = λ e. held.tree.fostering refl;
      },
      root_left s.tree.forest s.tree.stack held.tree.nodes held.tree.standing held.tree.unbarred,
    )
