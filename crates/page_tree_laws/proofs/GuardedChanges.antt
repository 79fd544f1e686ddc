-- Changes of a forest that keep what is guarded in it: nodes are made, taken out, and lose their children to others.
use Rattle.std.proofs.Common.{◌≡◌, ◌+◌, ◌≤◌, ◌⊎◌, [], ◌∷◌, ◌++◌, ◌∙◌, Bool, List, None, Some, ap, arith, false, inl}
use Rattle.std.proofs.Common.{inr, map, refl, subst, suc, sym, true, ℕ}
use Rattle.tree_forest.specs.Changes.{changed, childless, contents_number, detached, left_out, made, made_element}
use Rattle.tree_forest.specs.Changes.{reparented, with_more, without_child}
use Rattle.tree_forest.specs.Forest.{Forest, Holds, Kind, children_at, contents_of, document, element, element_of}
use Rattle.tree_forest.specs.Forest.{kind_at, nodes}
use Rattle.tree_forest.specs.Orders.{IsIn}
use Rattle.tree_forest.specs.Places.{Place, before, trailing, below, in_front, put_node}
use Rattle.tree_forest.proofs.Nodes.{changed_has, children_made, contents_made, contents_made_at, kept, kind_made}
use Rattle.tree_forest.proofs.Nodes.{mapped_at, same_some, size_changed, size_made, size_mapped}
use Rattle.tree_forest.proofs.Numbers.{in_append, in_left_out}
use Rattle.tree_forest.proofs.Relations.{either}
use Rattle.html_lexemes.specs.declared.names.Attribute.{Attribute}
use Rattle.html_lexemes.specs.declared.names.QualName.{QualName}
use Rattle.page_tree_laws.proofs.ElementLists.{elements_append, elements_leaf, elements_left_out, left_out_front}
use Rattle.page_tree_laws.proofs.ElementLists.{no_more}
use Rattle.page_tree_laws.proofs.GuardedForests.{IsLike, KeptOn, before_within, below_within, changed_kept}
use Rattle.page_tree_laws.proofs.GuardedForests.{children_mapped, kept_then, no_first, no_root_alone, same_children}
use Rattle.page_tree_laws.proofs.GuardedForests.{same_kinds}
use Rattle.page_tree_laws.proofs.Guards.{Guard, IsFree, IsKeptForest}
use Rattle.page_tree_laws.specs.Skeleton.{child_elements, elements_among, is_element}

-- a free node is taken out
none_left : (c : ℕ) (others : List ℕ) → others ≡ [] → left_out c others ≡ []
none_left c others e = rw e

pub detached_kept : (g : Guard) (c : ℕ) (f : Forest) → IsFree g c → IsKeptForest g f → KeptOn g f (detached c f)
detached_kept g c f free held =
    let elements : (q : ℕ) →
    elements_among f (children_at q (map (without_child c) f)) ≡ left_out c (child_elements q f) = λ q.
    ap (elements_among f) (children_mapped (without_child c) f (λ n. refl) q)
    ∙ elements_left_out f c (children_at q f) in
    same_kinds g f (map (without_child c) f) (left_out c held.others)
    (λ n. ap (λ x. x.kind) (mapped_at n (without_child c) f refl)) (size_mapped (without_child c) f)
    (elements 0 ∙ (ap (left_out c) held.below_document
    ∙ left_out_front c (g.root ∷ []) [] (no_root_alone g c free)))
    (elements g.root ∙ (ap (left_out c) held.below_root
    ∙ left_out_front c g.firsts held.others (no_first g c free)))
    (λ shut. none_left c held.others (held.closed shut))
    (λ q d i. held.within q d
    (in_left_out d c (children_at q f) (subst (IsIn d) (children_mapped (without_child c) f (λ n. refl) q) i)).0)
    held

-- the children of a free node go to another one
free_apart : (g : Guard) (n : ℕ) → IsFree g n → ¬ (n ≡ 0)
free_apart g n free e = free (inl e)

free_no_root : (g : Guard) (n : ℕ) → IsFree g n → ¬ (n ≡ g.root)
free_no_root g n free e = free (inr (inl e))

more_within : (g : Guard) (old new : ℕ) (f : Forest) → IsKeptForest g f → IsKeptForest g (changed old childless f) →
    (c : ℕ) → IsIn c (children_at new (changed old childless f) ++ children_at old f) →
    Holds c (changed old childless f)
more_within g old new f held then c i = either (then.within new c)
    (λ was. subst (λ k. suc c ≤ k) (sym (size_changed old childless f)) (held.within old c was))
    (in_append c (children_at new (changed old childless f)) (children_at old f) i)

pub reparented_kept : (g : Guard) (old new : ℕ) (f : Forest) → IsFree g old → IsFree g new → IsKeptForest g f →
    KeptOn g f (reparented old new f)
reparented_kept g old new f free other held = kept_then g f (changed old childless f) (reparented old new f)
    (changed_kept g old childless f (free_apart g old free) (free_no_root g old free) (λ x. refl) (λ c i. absurd i)
    held)
    (λ then. changed_kept g new (with_more (children_at old f)) (changed old childless f) (free_apart g new other)
    (free_no_root g new other) (λ x. refl) (more_within g old new f held then) then)

-- nodes that are made
one_larger : (x y : ℕ) → y ≡ suc x → x ≤ y
one_larger x y e = omega (arith, e)

pub made_like : (kind : Kind) (f : Forest) → (element_of kind).contents ≡ None → IsLike f (made kind f)
made_like kind f plain = record {
  elements = λ n held. ap is_element (kind_made n kind f held);
  names = λ n held. ap (λ k. (element_of k).name) (kind_made n kind f held);
  size = one_larger (nodes f) (nodes (made kind f)) (size_made kind f);
  contents = λ n c e. inl (sym (contents_made n kind f plain) ∙ e);
}

pub made_kept : (g : Guard) (kind : Kind) (f : Forest) → (element_of kind).contents ≡ None → IsKeptForest g f →
    KeptOn g f (made kind f)
made_kept g kind f plain held =
    same_children g f (made kind f) (made_like kind f plain) (λ p. children_made p kind f) held

two_larger : (x y z : ℕ) → y ≡ suc x → z ≡ suc y → x ≤ z
two_larger x y z e k = omega (arith, e, k)

after_it : (x y z c : ℕ) → y ≡ suc x → z ≡ suc y → x + 1 ≡ c → (x ≤ c) × (suc c ≤ z)
after_it x y z c e k l = (omega (arith, e, k, l), omega (arith, e, k, l))

held_more : (n x y : ℕ) → suc n ≤ x → y ≡ suc x → suc n ≤ y
held_more n x y h e = omega (arith, h, e)

-- a template is made with what holds its contents
template_contents : (f h : Forest) (kind : Kind) → (element_of kind).contents ≡ Some (nodes f + 1) → (n c : ℕ) →
    nodes h ≡ suc (nodes (made kind f)) → contents_of n (made kind f) ≡ Some c →
    ((contents_of n (made kind f) ≡ contents_of n f)
    ⊎ ((n ≡ nodes f) × (contents_of n (made kind f) ≡ (element_of kind).contents))) →
    (contents_of n f ≡ Some c) ⊎ ((nodes f ≤ c) × Holds c h)
template_contents f h kind template n c size e (inl same) = inl (sym same ∙ e)
template_contents f h kind template n c size e (inr new) = inr (after_it (nodes f) (nodes (made kind f)) (nodes h) c
    (size_made kind f) size (same_some (nodes f + 1) c (sym template ∙ (sym new.1 ∙ e))))

template_like : (f : Forest) (kind : Kind) → (element_of kind).contents ≡ Some (nodes f + 1) →
    IsLike f (made document (made kind f))
template_like f kind template =
    let same : (n : ℕ) → Holds n f → kind_at n (made document (made kind f)) ≡ kind_at n f = λ n held.
    kind_made n document (made kind f) (held_more n (nodes f) (nodes (made kind f)) held (size_made kind f))
    ∙ kind_made n kind f held in
    record {
      elements = λ n held. ap is_element (same n held);
      names = λ n held. ap (λ k. (element_of k).name) (same n held);
      size = two_larger (nodes f) (nodes (made kind f)) (nodes (made document (made kind f))) (size_made kind f)
          (size_made document (made kind f));
      contents = λ n c e. template_contents f (made document (made kind f)) kind template n c
          (size_made document (made kind f)) (sym (contents_made n document (made kind f) refl) ∙ e)
          (contents_made_at n kind f);
    }

-- an element that is made keeps what is guarded
pub element_kept : (g : Guard) (name : QualName) (attributes : List Attribute) (t p : Bool) (f : Forest) →
    IsKeptForest g f → KeptOn g f (made_element name attributes t p f)
element_kept g name attributes true p f held =
    let kind = element (record {
      name = name;
      attributes = attributes;
      contents = contents_number true f;
      integration_point = p;
    }) in
    same_children g f (made document (made kind f)) (template_like f kind refl)
    (λ q. children_made q document (made kind f) ∙ children_made q kind f) held
element_kept g name attributes false p f held = made_kept g (element (record {
  name = name;
  attributes = attributes;
  contents = contents_number false f;
  integration_point = p;
})) f refl held

-- what is no element is put at any place
pub leaf_put : (g : Guard) (place : Place) (c : ℕ) (f : Forest) → is_element (kind_at c f) ≡ false → Holds c f →
    IsKeptForest g f → KeptOn g f (put_node place c f)
leaf_put g (before s) c f none there held =
    let elements : (q : ℕ) → elements_among f (children_at q (map (in_front s c) f)) ≡ child_elements q f = λ q.
    ap (elements_among f) (children_mapped (in_front s c) f (λ n. refl) q)
    ∙ elements_leaf f s c (children_at q f) none in
    same_kinds g f (map (in_front s c) f) held.others
    (λ n. ap (λ x. x.kind) (mapped_at n (in_front s c) f refl)) (size_mapped (in_front s c) f)
    (elements 0 ∙ held.below_document) (elements g.root ∙ held.below_root) held.closed
    (before_within s c f there held.within) held
leaf_put g (below p) c f none there held =
    let elements : (q : ℕ) → elements_among f (children_at q (changed p (trailing c) f)) ≡ child_elements q f = λ q.
    changed_has (λ x. elements_among f x.children ≡ child_elements q f) q p (trailing c) f refl
    (λ e. elements_append f (children_at q f) (c ∷ []) ∙ no_more f c (child_elements q f) none) in
    same_kinds g f (changed p (trailing c) f) held.others
    (λ n. kept (λ x. x.kind) (trailing c) p n f (λ x. refl)) (size_changed p (trailing c) f)
    (elements 0 ∙ held.below_document) (elements g.root ∙ held.below_root) held.closed
    (below_within p c f there held.within) held
