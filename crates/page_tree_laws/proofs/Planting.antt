-- An element that is made and put below a node becomes the last of its child elements; all others keep theirs.
use Rattle.std.proofs.Common.{◌≡◌, ◌<◌, [], ◌∷◌, ◌++◌, ◌∙◌, ◌≤◌, if◌then◌else◌, Bool, List, None, Some, ap, arith}
use Rattle.std.proofs.Common.{false, inl, refl, subst, suc, sym, true, zero, ℕ}
use Rattle.tree_forest.specs.Changes.{changed, made, made_element}
use Rattle.tree_forest.specs.Forest.{Element, Forest, Holds, Node, children_at, contents_of, element, element_of}
use Rattle.tree_forest.specs.Forest.{kind_at, name_of, node_at, nodes}
use Rattle.tree_forest.specs.Orders.{IsForest, IsIn, of_child}
use Rattle.tree_forest.specs.Places.{trailing, below, put_node}
use Rattle.tree_forest.proofs.Nodes.{changed_has, children_made, contents_made, kept, kind_new, size_changed, size_made}
use Rattle.html_lexemes.specs.declared.names.Attribute.{Attribute}
use Rattle.html_lexemes.specs.declared.names.QualName.{QualName}
use Rattle.page_tree_laws.proofs.ElementLists.{elements_append, elements_same}
use Rattle.page_tree_laws.proofs.GuardedChanges.{made_like}
use Rattle.page_tree_laws.proofs.GuardedForests.{IsLike, below_within, like_on, still_held}
use Rattle.page_tree_laws.specs.Skeleton.{child_elements, elements_among, is_element}

-- children are there
abbrev pub AreWithin : Forest → Type 0
AreWithin f = (p c : ℕ) → IsIn c (children_at p f) → Holds c f

pub forest_within : (f : Forest) → IsForest f → AreWithin f
forest_within f is p c i = is.within p c (of_child p c i)

pub record IsPlanted (p : ℕ) (name : QualName) (f h : Forest) : Type 0 where
  pub like : IsLike f h
  pub there : child_elements p h ≡ child_elements p f ++ nodes f ∷ []
  pub elsewhere : (q : ℕ) → ¬ (q ≡ p) → child_elements q h ≡ child_elements q f
  pub within : AreWithin h
  pub held : Holds (nodes f) h
  pub named : name_of (nodes f) h ≡ name
  pub contents : (n c : ℕ) → contents_of n h ≡ Some c → contents_of n f ≡ Some c

changed_here : (p : ℕ) (h : Node → Node) (f : Forest) → Holds p f → node_at p (changed p h f) ≡ h (node_at p f)
changed_here p h [] held = absurd (omega (arith, held))
changed_here zero h (x ∷ f) held = refl
changed_here (suc p) h (x ∷ f) held = changed_here p h f (omega (arith, held))

one_more : (n x : ℕ) → x ≡ suc n → n < x
one_more n x e = omega (arith, e)

same_like : (f h : Forest) → ((n : ℕ) → kind_at n h ≡ kind_at n f) → nodes h ≡ nodes f → IsLike f h
same_like f h same size = record {
  elements = λ n held. ap is_element (same n);
  names = λ n held. ap (λ k. (element_of k).name) (same n);
  size = no_fewer (nodes f) (nodes h) size;
  contents = λ n c e. inl (sym (ap (λ k. (element_of k).contents) (same n)) ∙ e);
} where
  no_fewer : (x y : ℕ) → y ≡ x → x ≤ y
  no_fewer x y e = omega (arith, e)

-- an element without contents
plain_planted : (p : ℕ) (e : Element) (f : Forest) → e.contents ≡ None → Holds p f → AreWithin f →
    IsPlanted p e.name f (changed p (trailing (nodes f)) (made (element e) f))
plain_planted p e f plain held within =
    let g = made (element e) f in
    let h = changed p (trailing (nodes f)) g in
    let first : IsLike f g = made_like (element e) f plain in
    let same : (n : ℕ) → kind_at n h ≡ kind_at n g = λ n. kept (λ x. x.kind) (trailing (nodes f)) p n g (λ x. refl) in
    let like : IsLike f h = like_on f g h first (same_like g h same (size_changed p (trailing (nodes f)) g)) in
    let new : kind_at (nodes f) h ≡ element e = same (nodes f) ∙ kind_new (element e) f in
    let there : Holds (nodes f) g = one_more (nodes f) (nodes g) (size_made (element e) f) in
    let still : AreWithin g = λ q c i. still_held c (nodes f) (nodes g)
    (within q c (subst (IsIn c) (children_made q (element e) f) i)) first.size in
    let before : (q : ℕ) → elements_among h (children_at q f) ≡ child_elements q f = λ q.
    elements_same f h (children_at q f) (λ n i. like.elements n (within q n i)) in
    record {
      like = like;
      there = ap (λ x. elements_among h x.children)
          (changed_here p (trailing (nodes f)) g (still_held p (nodes f) (nodes g) held first.size))
          ∙ (ap (λ ns. elements_among h (ns ++ nodes f ∷ [])) (children_made p (element e) f)
          ∙ (elements_append h (children_at p f) (nodes f ∷ [])
          ∙ (ap (λ ns. ns ++ elements_among h (nodes f ∷ [])) (before p)
          ∙ ap (λ (b : Bool). child_elements p f ++ (if b then nodes f ∷ [] else [])) (ap is_element new))));
      elsewhere = λ q apart. changed_has (λ x. elements_among h x.children ≡ child_elements q f) q p
          (trailing (nodes f)) g (ap (elements_among h) (children_made q (element e) f) ∙ before q)
          (λ same_node. absurd (apart same_node));
      within = λ q c i. still_held c (nodes g) (nodes h) (below_within p (nodes f) g there still q c i)
          (same_like g h same (size_changed p (trailing (nodes f)) g)).size;
      held = still_held (nodes f) (nodes g) (nodes h) there
          (same_like g h same (size_changed p (trailing (nodes f)) g)).size;
      named = ap (λ k. (element_of k).name) new;
      contents = λ n c k. sym (ap (λ x. (element_of x).contents) (same n) ∙ contents_made n (element e) f plain) ∙ k;
    }

pub planted : (p : ℕ) (name : QualName) (attributes : List Attribute) (is_template point : Bool) (f : Forest) →
    is_template ≡ false → Holds p f → AreWithin f →
    IsPlanted p name f (put_node (below p) (nodes f) (made_element name attributes is_template point f))
planted p name attributes true point f e held within = absurd (let k : true ≡ false = e in cc)
planted p name attributes false point f e held within = plain_planted p (record {
  name = name;
  attributes = attributes;
  contents = None;
  integration_point = point;
}) f refl held within
