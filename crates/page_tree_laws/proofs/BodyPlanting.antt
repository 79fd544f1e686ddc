-- The body, or a frameset, is put after the head.
use Rattle.std.proofs.Common.{◌≡◌, ◌<◌, ◌≤◌, [], ◌∷◌, ◌++◌, ◌∙◌, Bool, List, Some, ap, arith, codes, false, inl, inr}
use Rattle.std.proofs.Common.{refl, subst, sym, ℕ}
use Rattle.tree_forest.specs.Forest.{Forest, Holds, name_of, nodes}
use Rattle.tree_forest.specs.Orders.{IsIn}
use Rattle.tree_forest.specs.Places.{below}
use Rattle.html_lexemes.specs.declared.names.Attribute.{Attribute}
use Rattle.html_tree_state.specs.Insertions.{here, inserted, inserted_at, with_element}
use Rattle.tree_names.specs.ElementSets.{foster_targets}
use Rattle.tree_names.specs.Sets.{is_element_of, is_html}
use Rattle.page_tree_laws.proofs.EarlySteps.{here_below}
use Rattle.page_tree_laws.proofs.Forms.{IsFormed}
use Rattle.page_tree_laws.proofs.GuardKinds.{AreApart, document_title, head_title, root_title, third_title, titled_head}
use Rattle.page_tree_laws.proofs.GuardKinds.{titles}
use Rattle.page_tree_laws.proofs.Guards.{Guard, IsFree, IsGuarded, IsKept, IsKeptForest, IsStack, is_barred, stands}
use Rattle.page_tree_laws.proofs.Phases.{IsEarly, head_guard}
use Rattle.page_tree_laws.proofs.Planting.{IsPlanted, planted}
use Rattle.rules_table.specs.Actions.{in_html}
use Rattle.rules_table.specs.State.{State}
use Rattle.tree_predicates.specs.Attributes.{is_html_annotation}
use Rattle.tree_predicates.specs.declared.modes.InsertionMode.{InsertionMode}

-- a guard of the head and a third element, whatever else it says
abbrev pub third_guard : List ℕ → (barred : List (List ℕ)) → (is_open fosters resets : Bool) → (InsertionMode → Bool) →
    (root head third : ℕ) → Guard
third_guard name barred is_open fosters resets allows root head third = record {
  root = root;
  head = head;
  top = third;
  firsts = head ∷ third ∷ [];
  lowest = root ∷ [];
  title = titles root head third name;
  barred = barred;
  is_open = is_open;
  fosters = fosters;
  resets = resets;
  allows = allows;
}

beyond : (n k : ℕ) → n < k → ¬ (k ≡ n)
beyond n k h e = omega (arith, h, e)

-- the new node is none of the others
pub new_apart : (root head : ℕ) (s : State) → IsEarly root head s → AreApart root head (nodes s.tree.forest)
new_apart root head s early = record {
  root_made = early.root_made;
  head_made = early.head_made;
  third_made = beyond 0 (nodes s.tree.forest) (early.nodes.held 0 (inl refl));
  head_root = early.head_root;
  third_root = beyond root (nodes s.tree.forest) (early.nodes.held root (inr (inl refl)));
  third_head = beyond head (nodes s.tree.forest) (early.nodes.held head (inr (inr (inl refl))));
}

one_alone : (n : ℕ) (ms : List ℕ) → ms ≡ [] → (n ∷ []) ++ ms ≡ n ∷ []
one_alone n ms e = ap (λ ns. n ∷ ns) e

module _ (name : List ℕ) (barred : List (List ℕ)) (is_open fosters resets : Bool) (allows : InsertionMode → Bool)
    (root head : ℕ) where
  -- what was free is free, and not the new node
  free_third : (third n : ℕ) → IsFree (head_guard root head) n → ¬ (n ≡ third) →
      IsFree (third_guard name barred is_open fosters resets allows root head third) n
  free_third third n free apart (inl e) = free (inl e)
  free_third third n free apart (inr (inl e)) = free (inr (inl e))
  free_third third n free apart (inr (inr (inl e))) = apart e
  free_third third n free apart (inr (inr (inr (inl e)))) = free (inr (inr (inl e)))
  free_third third n free apart (inr (inr (inr (inr (inl e))))) = apart e
  free_third third n free apart (inr (inr (inr (inr (inr (inl e)))))) = free (inr (inl e))
  free_third third n free apart (inr (inr (inr (inr (inr (inr i)))))) = absurd i

  less_apart : (n k : ℕ) → n < k → ¬ (n ≡ k)
  less_apart n k h e = omega (arith, h, e)

  kept_held : (s : State) (h : Forest) → IsEarly root head s → IsPlanted root (in_html name) s.tree.forest h →
      (n : ℕ) → IsKept (third_guard name barred is_open fosters resets allows root head (nodes s.tree.forest)) n →
      Holds n h × (name_of n h ≡ titles root head (nodes s.tree.forest) name n)
  kept_held s h early new n i = by i where
    f : Forest
    f = s.tree.forest

    apart : AreApart root head (nodes f)
    apart = new_apart root head s early

    old : (m : ℕ) → IsKept (head_guard root head) m → titles root head head (codes "head") m
        ≡ titles root head (nodes f) name m → n ≡ m → Holds n h × (name_of n h ≡ titles root head (nodes f) name n)
    old m j e same = subst (λ k. Holds k h × (name_of k h ≡ titles root head (nodes f) name k)) (sym same) (
      still (nodes f) (nodes h) (early.nodes.held m j) new.like.size,
      new.like.names m (early.nodes.held m j) ∙ (early.nodes.named m j ∙ e),
    ) where
      still : (x y : ℕ) → m < x → x ≤ y → m < y
      still x y less most = omega (arith, less, most)

    zero_old : n ≡ 0 → Holds n h × (name_of n h ≡ titles root head (nodes f) name n)
    zero_old = old 0 (inl refl)
        (document_title root head head (codes "head") early.root_made early.head_made early.head_made
        ∙ sym (document_title root head (nodes f) name apart.root_made apart.head_made apart.third_made))

    root_old : n ≡ root → Holds n h × (name_of n h ≡ titles root head (nodes f) name n)
    root_old = old root (inr (inl refl))
        (root_title root head head (codes "head") ∙ sym (root_title root head (nodes f) name))

    head_old : n ≡ head → Holds n h × (name_of n h ≡ titles root head (nodes f) name n)
    head_old = old head (inr (inr (inl refl)))
        (titled_head root head (codes "head") early.head_root ∙ sym (head_title root head (nodes f) name apart))

    new_held : n ≡ nodes f → Holds n h × (name_of n h ≡ titles root head (nodes f) name n)
    new_held same = subst (λ k. Holds k h × (name_of k h ≡ titles root head (nodes f) name k)) (sym same)
        (new.held, new.named ∙ sym (third_title root head (nodes f) name apart))

    by : IsKept (third_guard name barred is_open fosters resets allows root head (nodes f)) n →
        Holds n h × (name_of n h ≡ titles root head (nodes f) name n)
    by (inl e) = zero_old e
    by (inr (inl e)) = root_old e
    by (inr (inr (inl e))) = new_held e
    by (inr (inr (inr (inl e)))) = head_old e
    by (inr (inr (inr (inr (inl e))))) = new_held e
    by (inr (inr (inr (inr (inr (inl e)))))) = root_old e
    by (inr (inr (inr (inr (inr (inr j)))))) = absurd j

  abbrev pub guard_with : ℕ → Guard
  guard_with third = third_guard name barred is_open fosters resets allows root head third

  freed : (s : State) (n : ℕ) → IsFree (head_guard root head) n → Holds n s.tree.forest →
      IsFree (guard_with (nodes s.tree.forest)) n
  freed s n free held = free_third (nodes s.tree.forest) n free (less_apart n (nodes s.tree.forest) held)

  still_there : (n x y : ℕ) → n < x → x ≤ y → n < y
  still_there n x y less most = omega (arith, less, most)

  third_kept : (s : State) (h : Forest) → IsEarly root head s → IsPlanted root (in_html name) s.tree.forest h →
      IsKeptForest (guard_with (nodes s.tree.forest)) h
  third_kept s h early new = record {
    held = λ n i. (kept_held s h early new n i).0;
    named = λ n i. (kept_held s h early new n i).1;
    others = [];
    below_document = new.elsewhere 0 (λ e. early.root_made (sym e)) ∙ early.nodes.below_document;
    below_root = new.there ∙ ap (λ ns. ns ++ nodes s.tree.forest ∷ [])
        (early.nodes.below_root ∙ one_alone head early.nodes.others (early.nodes.closed refl));
    closed = λ e. refl;
    within = new.within;
    contents = λ n c e.
        let was = early.nodes.contents n c (new.contents n c e) in
        (freed s c was.0 was.1, still_there c (nodes s.tree.forest) (nodes h) was.1 new.like.size);
  }

  -- the tree with the third element, which is open
  third_guarded : (s : State) (attributes : List Attribute) (h : Forest) → IsEarly root head s →
      s.tree.stack ≡ root ∷ [] → (fosters ≡ false → s.tree.fostering ≡ false) →
      IsPlanted root (in_html name) s.tree.forest h →
      IsGuarded (guard_with (nodes s.tree.forest))
      (record s.tree { forest = h; stack = nodes s.tree.forest ∷ s.tree.stack })
  third_guarded s attributes h early e fostering new = record {
    nodes = third_kept s h early new;
    standing = subst (λ ns. IsStack (guard_with (nodes s.tree.forest)) (nodes s.tree.forest ∷ ns)) (sym e) stands;
    unbarred = subst (λ ns. (n : ℕ) → IsIn n (nodes s.tree.forest ∷ ns) →
        IsFree (guard_with (nodes s.tree.forest)) n →
        Holds n h × (is_barred (guard_with (nodes s.tree.forest)) (name_of n h) ≡ false)) (sym e) none_free;
    listed = λ n tag i.
        let is = early.listed n tag i in
        (freed s n is.0 is.1.0, (still_there n (nodes s.tree.forest) (nodes h) is.1.0 new.like.size, is.1.1));
    fostering = fostering;
  } where
    none_free : (n : ℕ) → IsIn n (nodes s.tree.forest ∷ root ∷ []) →
        IsFree (guard_with (nodes s.tree.forest)) n →
        Holds n h × (is_barred (guard_with (nodes s.tree.forest)) (name_of n h) ≡ false)
    none_free n (inl same) free = absurd (free (inr (inr (inl same))))
    none_free n (inr (inl same)) free = absurd (free (inr (inl same)))
    none_free n (inr (inr i)) free = absurd i

  -- the root is no part of a table, and no template
  root_here : (s : State) → IsEarly root head s → s.tree.stack ≡ root ∷ [] → here s.tree ≡ below root
  root_here s early e =
      let named : name_of root s.tree.forest ≡ in_html (codes "html") =
      early.nodes.named root (inr (inl refl)) ∙ root_title root head head (codes "head") in
      here_below root [] s.tree e (ap (is_element_of foster_targets) named) (ap (is_html (codes "template")) named)

  pub third_inserted : (s : State) (attributes : List Attribute) → IsEarly root head s → s.tree.stack ≡ root ∷ [] →
      (fosters ≡ false → s.tree.fostering ≡ false) → is_html (codes "template") (in_html name) ≡ false →
      IsGuarded (guard_with (nodes s.tree.forest)) (inserted (in_html name) attributes s.tree)
  third_inserted s attributes early e fostering plain = subst
      (λ place. IsGuarded (guard_with (nodes s.tree.forest)) (inserted_at place (in_html name) attributes s.tree))
      (sym (root_here s early e))
      (third_guarded s attributes (with_element (below root) (in_html name) attributes s.tree).forest early e fostering
      (planted root (in_html name) attributes (is_html (codes "template") (in_html name))
      (is_html_annotation (in_html name) attributes) s.tree.forest plain
      (early.nodes.held root (inr (inl refl))) early.nodes.within))

  pub form_freed : (s : State) → IsEarly root head s → IsFormed s → (n : ℕ) → s.form ≡ Some n →
      IsFree (guard_with (nodes s.tree.forest)) n
  form_freed s early formed n e = freed s n (early.form n e) (formed n e)
