-- A forest in front of the root, and what the root makes of it.
use Rattle.std.proofs.Common.{◌≡◌, ◌<◌, ◌≤◌, ◌&&◌, if◌then◌else◌, [], ◌∷◌, ◌++◌, ◌∙◌, Bool, List, None, Some, ap, arith}
use Rattle.std.proofs.Common.{codes, false, inl, inr, refl, subst, sym, true, ℕ}
use Rattle.tree_forest.specs.Changes.{changed, made}
use Rattle.tree_forest.specs.Forest.{Forest, Holds, Kind, children_at, contents_of, document, element_of, kind_at}
use Rattle.tree_forest.specs.Forest.{name_of, nodes}
use Rattle.tree_forest.specs.Orders.{IsForest, IsParent, of_contents}
use Rattle.tree_forest.specs.Places.{Place, trailing, below, put_node}
use Rattle.tree_forest.proofs.Nodes.{changed_has, children_made, kind_new, kept}
use Rattle.html_tree_state.specs.Building.{Building}
use Rattle.html_tree_state.specs.Insertions.{foster_place, here, holder, inside, place_for}
use Rattle.html_tree_state.specs.OpenElements.{current_of}
use Rattle.tree_names.specs.ElementSets.{foster_targets}
use Rattle.tree_names.specs.Sets.{is_element_of, is_html}
use Rattle.page_tree_laws.proofs.ElementLists.{elements_append, elements_same, no_more}
use Rattle.page_tree_laws.proofs.GuardKinds.{document_title, root_title}
use Rattle.page_tree_laws.proofs.GuardedChanges.{made_like}
use Rattle.page_tree_laws.proofs.Guards.{IsFree, IsKept, IsKeptForest}
use Rattle.page_tree_laws.proofs.Phases.{root_guard}
use Rattle.page_tree_laws.proofs.Planting.{AreWithin, IsPlanted}
use Rattle.page_tree_laws.specs.Skeleton.{child_elements, elements_among, is_element}
use Rattle.rules_table.specs.Actions.{in_html}

-- what is no element is put below the document, and its child elements stay
pub leaf_below : (kind : Kind) (f : Forest) → is_element kind ≡ false → (element_of kind).contents ≡ None →
    AreWithin f →
    child_elements 0 (put_node (below 0) (nodes f) (made kind f)) ≡ child_elements 0 f
leaf_below kind f none plain within =
    let g = made kind f in
    let h = changed 0 (trailing (nodes f)) g in
    let same : (n : ℕ) → kind_at n h ≡ kind_at n g = λ n. kept (λ x. x.kind) (trailing (nodes f)) 0 n g (λ x. refl) in
    let before : (ns : List ℕ) → elements_among h ns ≡ elements_among g ns = λ ns.
    elements_same g h ns (λ n i. ap is_element (same n)) in
    before (children_at 0 h) ∙ (changed_has (λ x. elements_among g x.children ≡ child_elements 0 f) 0 0
    (trailing (nodes f)) g (old kind f plain within)
    (λ e. elements_append g (children_at 0 g) (nodes f ∷ [])
    ∙ (ap (λ ns. ns ++ elements_among g (nodes f ∷ [])) (old kind f plain within)
    ∙ no_more g (nodes f) (child_elements 0 f) (ap is_element (kind_new kind f) ∙ none))))
  where
    old : (kind : Kind) (f : Forest) → (element_of kind).contents ≡ None → AreWithin f →
        elements_among (made kind f) (children_at 0 (made kind f)) ≡ child_elements 0 f
    old kind f plain within = ap (elements_among (made kind f)) (children_made 0 kind f)
        ∙ elements_same f (made kind f) (children_at 0 f)
        (λ n i. (made_like kind f plain).elements n (within 0 n i))

-- nothing stands past the last node
none_past : (f : Forest) → children_at (nodes f) f ≡ []
none_past [] = refl
none_past (x ∷ f) = none_past f

-- where nothing is open, nodes go below the document
never_fostered : (fostering b : Bool) (x y : Place) → fostering ≡ false → (if fostering && b then x else y) ≡ y
never_fostered true b x y e = absurd (let k : true ≡ false = e in cc)
never_fostered false b x y e = refl

itself : (b : Bool) (n m : ℕ) → b ≡ false → below (if b then m else n) ≡ below n
itself true n m e = absurd (let k : true ≡ false = e in cc)
itself false n m e = refl

pub document_here : (b : Building) → b.stack ≡ [] → b.fostering ≡ false → kind_at 0 b.forest ≡ document →
    here b ≡ below 0
document_here b e fostering is =
    ap (λ m. place_for m b) (ap current_of e)
    ∙ (never_fostered b.fostering (is_element_of foster_targets (name_of 0 b.forest)) (foster_place b.forest b.stack)
    (inside 0 b.forest) fostering
    ∙ itself (is_html (codes "template") (name_of 0 b.forest)) 0 (holder (contents_of 0 b.forest) 0)
    (ap (λ k. is_html (codes "template") (element_of k).name) is))

-- the root is planted
pub beyond_none : (n : ℕ) → 0 < n → ¬ (n ≡ 0)
beyond_none n h e = omega (arith, h, e)

pub less_apart : (n k : ℕ) → n < k → ¬ (n ≡ k)
less_apart n k h e = omega (arith, h, e)

pub still : (n x y : ℕ) → n < x → x ≤ y → n < y
still n x y less most = omega (arith, less, most)

pub rooted_forest : (f h : Forest) → IsForest f → child_elements 0 f ≡ [] → IsPlanted 0 (in_html (codes "html")) f h →
    IsKeptForest (root_guard (nodes f)) h
rooted_forest f h is none new = record {
  held = λ n i. (guarded n i).0;
  named = λ n i. (guarded n i).1;
  others = [];
  below_document = new.there ∙ ap (λ ns. ns ++ nodes f ∷ []) none;
  below_root = new.elsewhere (nodes f) made ∙ ap (elements_among f) (none_past f);
  closed = λ e. refl;
  within = new.within;
  contents = λ n c e.
      let was : contents_of n f ≡ Some c = new.contents n c e in
      let there : Holds c f = is.within n c (of_contents n c was) in
      (free n c was there, still c (nodes f) (nodes h) there new.like.size);
} where
  made : ¬ (nodes f ≡ 0)
  made = beyond_none (nodes f) is.page.0

  zero_guarded : Holds 0 h × (name_of 0 h ≡ (root_guard (nodes f)).title 0)
  zero_guarded = (
    still 0 (nodes f) (nodes h) is.page.0 new.like.size,
    new.like.names 0 is.page.0 ∙ (ap (λ k. (element_of k).name) is.page.1.0
        ∙ sym (document_title (nodes f) (nodes f) (nodes f) (codes "html") made made made)),
  )

  root_guarded : Holds (nodes f) h × (name_of (nodes f) h ≡ (root_guard (nodes f)).title (nodes f))
  root_guarded = (new.held, new.named ∙ sym (root_title (nodes f) (nodes f) (nodes f) (codes "html")))

  by_root : (n : ℕ) → n ≡ nodes f → Holds n h × (name_of n h ≡ (root_guard (nodes f)).title n)
  by_root n e = subst (λ k. Holds k h × (name_of k h ≡ (root_guard (nodes f)).title k)) (sym e) root_guarded

  guarded : (n : ℕ) → IsKept (root_guard (nodes f)) n → Holds n h × (name_of n h ≡ (root_guard (nodes f)).title n)
  guarded n (inl e) = subst (λ k. Holds k h × (name_of k h ≡ (root_guard (nodes f)).title k)) (sym e) zero_guarded
  guarded n (inr (inl e)) = by_root n e
  guarded n (inr (inr (inl e))) = by_root n e
  guarded n (inr (inr (inr (inl e)))) = by_root n e
  guarded n (inr (inr (inr (inr i)))) = absurd i

  free : (n c : ℕ) → contents_of n f ≡ Some c → Holds c f → IsFree (root_guard (nodes f)) c
  free n c was there (inl e) = is.page.1.1 n (subst (λ k. IsParent f n k) e (of_contents n c was))
  free n c was there (inr (inl e)) = less_apart c (nodes f) there e
  free n c was there (inr (inr (inl e))) = less_apart c (nodes f) there e
  free n c was there (inr (inr (inr (inl e)))) = less_apart c (nodes f) there e
  free n c was there (inr (inr (inr (inr i)))) = absurd i
