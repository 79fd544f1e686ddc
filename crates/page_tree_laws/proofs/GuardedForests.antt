-- What keeps the guarded nodes of a forest: where child elements stay, and where a node is put at a good place.
use Rattle.std.proofs.Common.{◌≡◌, ◌≤◌, ◌⊎◌, [], ◌∷◌, ◌++◌, ◌∙◌, Bool, List, Some, ap, arith, false, inl, inr, map}
use Rattle.std.proofs.Common.{refl, subst, suc, sym, true, ℕ}
use Rattle.tree_forest.specs.Changes.{changed}
use Rattle.tree_forest.specs.Forest.{Forest, Holds, Node, children_at, contents_of, element_of, kind_at, name_of}
use Rattle.tree_forest.specs.Forest.{node_at, nodes}
use Rattle.tree_forest.specs.Orders.{IsIn}
use Rattle.tree_forest.specs.Places.{Place, trailing, in_front, put_before, put_node}
use Rattle.tree_forest.proofs.Nodes.{changed_at, changed_has, kept, mapped_at, size_changed, size_mapped}
use Rattle.tree_forest.proofs.Numbers.{in_append, in_one, in_put_before}
use Rattle.tree_forest.proofs.Relations.{either}
use Rattle.page_tree_laws.proofs.ElementLists.{elements_append, elements_leaf, elements_put, elements_same}
use Rattle.page_tree_laws.proofs.ElementLists.{put_before_front, regrouped}
use Rattle.page_tree_laws.proofs.Guards.{Guard, IsFree, IsGoodPlace, IsKeptForest, beside, within}
use Rattle.page_tree_laws.specs.Skeleton.{child_elements, elements_among, is_element}

-- a forest that comes from another: nodes stay what they were, and contents are those that were, or new
pub record IsLike (f h : Forest) : Type 0 where
  pub elements : (n : ℕ) → Holds n f → is_element (kind_at n h) ≡ is_element (kind_at n f)
  pub names : (n : ℕ) → Holds n f → name_of n h ≡ name_of n f
  pub size : nodes f ≤ nodes h
  pub contents : (n c : ℕ) → contents_of n h ≡ Some c → (contents_of n f ≡ Some c) ⊎ ((nodes f ≤ c) × Holds c h)

-- and what is guarded stays so
pub record KeptOn (g : Guard) (f h : Forest) : Type 0 where
  pub like : IsLike f h
  pub kept : IsKeptForest g h

-- bounds of sizes
pub still_held : (n x y : ℕ) → suc n ≤ x → x ≤ y → suc n ≤ y
still_held n x y h i = omega (arith, h, i)

pub no_fewer : (x y : ℕ) → y ≡ x → x ≤ y
no_fewer x y e = omega (arith, e)

further : (x y z : ℕ) → x ≤ y → y ≤ z → x ≤ z
further x y z h i = omega (arith, h, i)

not_held : (c x : ℕ) → x ≤ c → ¬ (suc c ≤ x)
not_held c x h i = omega (arith, h, i)

-- a node that isn't there yet is free
new_free : (g : Guard) (f : Forest) (c : ℕ) → IsKeptForest g f → nodes f ≤ c → IsFree g c
new_free g f c kept new i = not_held c (nodes f) new (kept.held c i)

-- the next node that is made is free
pub new_is_free : (g : Guard) (f : Forest) → IsKeptForest g f → IsFree g (nodes f)
new_is_free g f kept = new_free g f (nodes f) kept (omega arith)

-- one such change after another
pub like_on : (f h k : Forest) → IsLike f h → IsLike h k → IsLike f k
like_on f h k first second = record {
  elements = λ n held. second.elements n (still_held n (nodes f) (nodes h) held first.size) ∙ first.elements n held;
  names = λ n held. second.names n (still_held n (nodes f) (nodes h) held first.size) ∙ first.names n held;
  size = further (nodes f) (nodes h) (nodes k) first.size second.size;
  contents = λ n c e. either
      (λ old. either (λ older. inl older) (λ new. inr (new.0, still_held c (nodes h) (nodes k) new.1 second.size))
      (first.contents n c old))
      (λ new. inr (further (nodes f) (nodes h) c first.size new.0, new.1)) (second.contents n c e);
}

-- and one after another keeps what is guarded
pub kept_then : (g : Guard) (f h k : Forest) → KeptOn g f h → (IsKeptForest g h → KeptOn g h k) → KeptOn g f k
kept_then g f h k first more =
    let second : KeptOn g h k = more first.kept in
    record { like = like_on f h k first.like second.like; kept = second.kept }

-- what is guarded stays, by the child elements of the document and the root
kept_after : (g : Guard) (f h : Forest) (others : List ℕ) → IsKeptForest g f → IsLike f h →
    child_elements 0 h ≡ g.root ∷ [] → child_elements g.root h ≡ g.firsts ++ others →
    (g.is_open ≡ false → others ≡ []) → ((p c : ℕ) → IsIn c (children_at p h) → Holds c h) → KeptOn g f h
kept_after g f h others held like below_document below_root closed each = record {
  like = like;
  kept = record {
    held = λ n i. still_held n (nodes f) (nodes h) (held.held n i) like.size;
    named = λ n i. like.names n (held.held n i) ∙ held.named n i;
    others = others;
    below_document = below_document;
    below_root = below_root;
    closed = closed;
    within = each;
    contents = λ n c e. either
        (λ old. let was = held.contents n c old in (was.0, still_held c (nodes f) (nodes h) was.1 like.size))
        (λ new. (new_free g f c held new.0, new.1)) (like.contents n c e);
  };
}

-- where no node has other children than before
pub same_children : (g : Guard) (f h : Forest) → IsLike f h → ((p : ℕ) → children_at p h ≡ children_at p f) →
    IsKeptForest g f → KeptOn g f h
same_children g f h like same held =
    let elements : (p : ℕ) → child_elements p h ≡ child_elements p f = λ p.
    ap (elements_among h) (same p)
    ∙ elements_same f h (children_at p f) (λ n i. like.elements n (held.within p n i)) in
    kept_after g f h held.others held like (elements 0 ∙ held.below_document) (elements g.root ∙ held.below_root)
    held.closed (λ p c i. still_held c (nodes f) (nodes h) (held.within p c (subst (IsIn c) (same p) i)) like.size)

-- where all nodes are what they were
like_kinds : (f h : Forest) → ((n : ℕ) → kind_at n h ≡ kind_at n f) → nodes h ≡ nodes f → IsLike f h
like_kinds f h same size = record {
  elements = λ n held. ap is_element (same n);
  names = λ n held. ap (λ k. (element_of k).name) (same n);
  size = no_fewer (nodes f) (nodes h) size;
  contents = λ n c e. inl (sym (ap (λ k. (element_of k).contents) (same n)) ∙ e);
}

pub same_kinds : (g : Guard) (f h : Forest) (others : List ℕ) → ((n : ℕ) → kind_at n h ≡ kind_at n f) →
    nodes h ≡ nodes f → elements_among f (children_at 0 h) ≡ g.root ∷ [] →
    elements_among f (children_at g.root h) ≡ g.firsts ++ others → (g.is_open ≡ false → others ≡ []) →
    ((p c : ℕ) → IsIn c (children_at p h) → Holds c f) → IsKeptForest g f → KeptOn g f h
same_kinds g f h others same size below_document below_root closed each held =
    let elements : (ns : List ℕ) → elements_among h ns ≡ elements_among f ns = λ ns.
    elements_same f h ns (λ n i. ap is_element (same n)) in
    kept_after g f h others held (like_kinds f h same size) (elements (children_at 0 h) ∙ below_document)
    (elements (children_at g.root h) ∙ below_root) closed
    (λ p c i. still_held c (nodes f) (nodes h) (each p c i) (no_fewer (nodes f) (nodes h) size))

-- a node that is neither the document nor the root has other children
pub changed_kept : (g : Guard) (p : ℕ) (h : Node → Node) (f : Forest) → ¬ (p ≡ 0) → ¬ (p ≡ g.root) →
    ((x : Node) → (h x).kind ≡ x.kind) → ((c : ℕ) → IsIn c (h (node_at p f)).children → Holds c f) →
    IsKeptForest g f → KeptOn g f (changed p h f)
changed_kept g p h f no_document no_root kinds news held =
    same_kinds g f (changed p h f) held.others
    (λ n. kept (λ x. x.kind) h p n f kinds) (size_changed p h f)
    (ap (elements_among f) (changed_has (λ x. x.children ≡ children_at 0 f) 0 p h f refl
    (λ e. absurd (no_document (sym e)))) ∙ held.below_document)
    (ap (elements_among f) (changed_has (λ x. x.children ≡ children_at g.root f) g.root p h f refl
    (λ e. absurd (no_root (sym e)))) ∙ held.below_root)
    held.closed
    (λ q c. changed_has (λ x. IsIn c x.children → Holds c f) q p h f (held.within q c)
    (λ e i. news c (subst (λ m. IsIn c (h (node_at m f)).children) e i))) held

-- a node is put below another one
pub below_within : (p c : ℕ) (f : Forest) → Holds c f → ((q d : ℕ) → IsIn d (children_at q f) → Holds d f) →
    (q d : ℕ) → IsIn d (children_at q (changed p (trailing c) f)) → Holds d f
below_within p c f there each q d = changed_has (λ x. IsIn d x.children → Holds d f) q p (trailing c) f (each q d)
    (λ e i. either (each q d) (λ new. subst (λ m. Holds m f) (sym (in_one d c new)) there)
    (in_append d (children_at q f) (c ∷ []) i))

below_by : (g : Guard) (p c : ℕ) (f : Forest) → ¬ (p ≡ 0) → (g.is_open ≡ false → ¬ (p ≡ g.root)) → Holds c f →
    IsKeptForest g f →
    ((node_at g.root (changed p (trailing c) f) ≡ node_at g.root f)
    ⊎ ((g.root ≡ p) × (node_at g.root (changed p (trailing c) f) ≡ trailing c (node_at g.root f)))) →
    KeptOn g f (changed p (trailing c) f)
below_by g p c f no_document no_root there held (inl same) =
    same_kinds g f (changed p (trailing c) f) held.others
    (λ n. kept (λ x. x.kind) (trailing c) p n f (λ x. refl)) (size_changed p (trailing c) f)
    (ap (elements_among f) (changed_has (λ x. x.children ≡ children_at 0 f) 0 p (trailing c) f refl
    (λ e. absurd (no_document (sym e)))) ∙ held.below_document)
    (ap (λ x. elements_among f x.children) same ∙ held.below_root)
    held.closed (below_within p c f there held.within) held
below_by g p c f no_document no_root there held (inr more) =
    same_kinds g f (changed p (trailing c) f) (held.others ++ elements_among f (c ∷ []))
    (λ n. kept (λ x. x.kind) (trailing c) p n f (λ x. refl)) (size_changed p (trailing c) f)
    (ap (elements_among f) (changed_has (λ x. x.children ≡ children_at 0 f) 0 p (trailing c) f refl
    (λ e. absurd (no_document (sym e)))) ∙ held.below_document)
    (ap (λ x. elements_among f x.children) more.1 ∙ (elements_append f (children_at g.root f) (c ∷ [])
    ∙ (ap (λ ns. ns ++ elements_among f (c ∷ [])) held.below_root
    ∙ regrouped g.firsts held.others (elements_among f (c ∷ [])))))
    (λ shut. absurd (no_root shut (sym more.0))) (below_within p c f there held.within) held

below_kept : (g : Guard) (p c : ℕ) (f : Forest) → ¬ (p ≡ 0) → (g.is_open ≡ false → ¬ (p ≡ g.root)) → Holds c f →
    IsKeptForest g f → KeptOn g f (changed p (trailing c) f)
below_kept g p c f no_document no_root there held =
    below_by g p c f no_document no_root there held (changed_at g.root p (trailing c) f)

-- a free node is none of the first child elements of the root, nor the root
in_after : (n : ℕ) (ms ns : List ℕ) → IsIn n ms → IsIn n (ms ++ ns)
in_after n [] ns i = absurd i
in_after n (m ∷ ms) ns (inl e) = inl e
in_after n (m ∷ ms) ns (inr i) = inr (in_after n ms ns i)

pub no_first : (g : Guard) (n : ℕ) → IsFree g n → ¬ (IsIn n g.firsts)
no_first g n free i = free (inr (inr (inr (in_after n g.firsts g.lowest i))))

pub no_root_alone : (g : Guard) (n : ℕ) → IsFree g n → ¬ (IsIn n (g.root ∷ []))
no_root_alone g n free (inl e) = free (inr (inl e))
no_root_alone g n free (inr i) = absurd i

-- a node is put before another one
pub children_mapped : (h : Node → Node) (f : Forest) → ((q : ℕ) → h (node_at q []) ≡ node_at q []) → (q : ℕ) →
    children_at q (map h f) ≡ (h (node_at q f)).children
children_mapped h f same q = ap (λ x. x.children) (mapped_at q h f (same q))

pub before_within : (s c : ℕ) (f : Forest) → Holds c f → ((q d : ℕ) → IsIn d (children_at q f) → Holds d f) →
    (q d : ℕ) → IsIn d (children_at q (map (in_front s c) f)) → Holds d f
before_within s c f there each q d i = either (each q d) (λ new. subst (λ m. Holds m f) (sym new.0) there)
    (in_put_before d s c (children_at q f) (subst (IsIn d) (children_mapped (in_front s c) f (λ n. refl) q) i))

none_before : (s c : ℕ) (others : List ℕ) → others ≡ [] → put_before s c others ≡ []
none_before s c others e = rw e

before_by : (g : Guard) (s c : ℕ) (f : Forest) (is : Bool) → is_element (kind_at c f) ≡ is → IsFree g s →
    is_element (kind_at s f) ≡ true → Holds c f → IsKeptForest g f → KeptOn g f (map (in_front s c) f)
before_by g s c f true is free one there held =
    let elements : (q : ℕ) →
    elements_among f (children_at q (map (in_front s c) f)) ≡ put_before s c (child_elements q f) = λ q.
    ap (elements_among f) (children_mapped (in_front s c) f (λ n. refl) q)
    ∙ elements_put f s c (children_at q f) one is in
    same_kinds g f (map (in_front s c) f) (put_before s c held.others)
    (λ n. ap (λ x. x.kind) (mapped_at n (in_front s c) f refl)) (size_mapped (in_front s c) f)
    (elements 0 ∙ (ap (put_before s c) held.below_document
    ∙ put_before_front s c (g.root ∷ []) [] (no_root_alone g s free)))
    (elements g.root ∙ (ap (put_before s c) held.below_root
    ∙ put_before_front s c g.firsts held.others (no_first g s free)))
    (λ shut. none_before s c held.others (held.closed shut)) (before_within s c f there held.within) held
before_by g s c f false is free one there held =
    let elements : (q : ℕ) → elements_among f (children_at q (map (in_front s c) f)) ≡ child_elements q f = λ q.
    ap (elements_among f) (children_mapped (in_front s c) f (λ n. refl) q)
    ∙ elements_leaf f s c (children_at q f) is in
    same_kinds g f (map (in_front s c) f) held.others
    (λ n. ap (λ x. x.kind) (mapped_at n (in_front s c) f refl)) (size_mapped (in_front s c) f)
    (elements 0 ∙ held.below_document) (elements g.root ∙ held.below_root) held.closed
    (before_within s c f there held.within) held

-- a node is put at a good place
pub put_kept : (g : Guard) (place : Place) (c : ℕ) (f : Forest) → IsGoodPlace g f place → Holds c f →
    IsKeptForest g f → KeptOn g f (put_node place c f)
put_kept g _ c f (within p no_document no_root) there held = below_kept g p c f no_document no_root there held
put_kept g _ c f (beside s free one) there held =
    before_by g s c f (is_element (kind_at c f)) refl free one there held
