-- What stands at a node after a change, and what a change of a kind keeps.
use Rattle.std.proofs.Common.{◌≡◌, ◌⊎◌, [], ◌∷◌, List, None, Some, ap, arith, inl, inr, map, refl, subst, suc, sym}
use Rattle.std.proofs.Common.{zero, ℕ}
use Rattle.html_lexemes.specs.declared.names.Attribute.{Attribute}
use Rattle.tree_forest.specs.Changes.{changed, kind_with, made, saying_kind}
use Rattle.tree_forest.specs.Forest.{Forest, Holds, Kind, Node, children_at, comment, contents_of, doctype, document}
use Rattle.tree_forest.specs.Forest.{element, element_of, instruction, kind_at, node_at, nodes, text}
use Rattle.tree_forest.specs.Orders.{IsIn, IsParent, of_child, of_contents}

pub same_some : (a b : ℕ) → Some a ≡ Some b → a ≡ b
same_some a b e = cc

abbrev pub node_of : Kind → List ℕ → Node
node_of kind children = record { kind = kind; children = children }

one_further : {A B : Type 0} (q p : ℕ) → A ⊎ ((q ≡ p) × B) → A ⊎ ((suc q ≡ suc p) × B)
one_further q p (inl a) = inl a
one_further q p (inr b) = inr (ap suc b.0, b.1)

pub changed_at : (q p : ℕ) (h : Node → Node) (f : Forest) →
    (node_at q (changed p h f) ≡ node_at q f) ⊎ ((q ≡ p) × (node_at q (changed p h f) ≡ h (node_at q f)))
changed_at q p h [] = inl refl
changed_at zero zero h (x ∷ f) = inr (refl, refl)
changed_at zero (suc p) h (x ∷ f) = inl refl
changed_at (suc q) zero h (x ∷ f) = inl refl
changed_at (suc q) (suc p) h (x ∷ f) = one_further q p (changed_at q p h f)

-- one of two nodes stands at a place: what holds of both
one_or_other : (P : Node → Type 0) (A : Type 0) (x y z : Node) → (x ≡ y) ⊎ (A × (x ≡ z)) → P y → (A → P z) → P x
one_or_other P A x y z (inl e) old new = subst P (sym e) old
one_or_other P A x y z (inr e) old new = subst P (sym e.1) (new e.0)

pub changed_has : (P : Node → Type 0) (a p : ℕ) (h : Node → Node) (f : Forest) → P (node_at a f) →
    (a ≡ p → P (h (node_at a f))) →
    P (node_at a (changed p h f))
changed_has P a p h f = one_or_other P (a ≡ p) _ _ _ (changed_at a p h f)

-- what a change of nodes keeps, it keeps of each node
pub kept : {A : Type 0} (view : Node → A) (g : Node → Node) (n m : ℕ) (f : Forest) → ((x : Node) → view (g x) ≡ view x)
    → view (node_at m (changed n g f)) ≡ view (node_at m f)
kept view g n m f h =
    changed_has (λ x. view x ≡ view (node_at m f)) m n g f refl (λ _. h (node_at m f))

pub mapped_at : (q : ℕ) (h : Node → Node) (f : Forest) → h (node_at q []) ≡ node_at q [] →
    node_at q (map h f) ≡ h (node_at q f)
mapped_at q h [] e = sym e
mapped_at zero h (x ∷ f) e = refl
mapped_at (suc q) h (x ∷ f) e = mapped_at q h f e

pub size_changed : (p : ℕ) (h : Node → Node) (f : Forest) → nodes (changed p h f) ≡ nodes f
size_changed p h [] = refl
size_changed zero h (x ∷ f) = refl
size_changed (suc p) h (x ∷ f) = ap suc (size_changed p h f)

pub size_mapped : (h : Node → Node) (f : Forest) → nodes (map h f) ≡ nodes f
size_mapped h [] = refl
size_mapped h (x ∷ f) = ap suc (size_mapped h f)

pub size_made : (kind : Kind) (f : Forest) → nodes (made kind f) ≡ suc (nodes f)
size_made kind [] = refl
size_made kind (x ∷ f) = ap suc (size_made kind f)

pub children_made : (q : ℕ) (kind : Kind) (f : Forest) → children_at q (made kind f) ≡ children_at q f
children_made zero kind [] = refl
children_made (suc q) kind [] = refl
children_made zero kind (x ∷ f) = refl
children_made (suc q) kind (x ∷ f) = children_made q kind f

pub contents_made : (q : ℕ) (kind : Kind) (f : Forest) → (element_of kind).contents ≡ None →
    contents_of q (made kind f) ≡ contents_of q f
contents_made zero kind [] e = e
contents_made (suc q) kind [] e = refl
contents_made zero kind (x ∷ f) e = refl
contents_made (suc q) kind (x ∷ f) e = contents_made q kind f e

-- where contents are, after a node more
pub contents_made_at : (q : ℕ) (kind : Kind) (f : Forest) →
    (contents_of q (made kind f) ≡ contents_of q f) ⊎
    ((q ≡ nodes f) × (contents_of q (made kind f) ≡ (element_of kind).contents))
contents_made_at zero kind [] = inr (refl, refl)
contents_made_at (suc q) kind [] = inl refl
contents_made_at zero kind (x ∷ f) = inl refl
contents_made_at (suc q) kind (x ∷ f) = one_further q (nodes f) (contents_made_at q kind f)

pub node_made : (kind : Kind) (q : ℕ) (f : Forest) → Holds q f → node_at q (made kind f) ≡ node_at q f
node_made kind q [] h = absurd (omega arith)
node_made kind zero (x ∷ f) h = refl
node_made kind (suc q) (x ∷ f) h = node_made kind q f (omega arith)

pub kind_made : (q : ℕ) (kind : Kind) (f : Forest) → Holds q f → kind_at q (made kind f) ≡ kind_at q f
kind_made q kind f h = ap (λ x. x.kind) (node_made kind q f h)

pub kind_new : (kind : Kind) (f : Forest) → kind_at (nodes f) (made kind f) ≡ kind
kind_new kind [] = refl
kind_new kind (x ∷ f) = kind_new kind f

holds_further : (p : ℕ) (x : Node) (f : Forest) → Holds p f → Holds (suc p) (x ∷ f)
holds_further p x f h = omega arith

holds_first : (x : Node) (f : Forest) → Holds 0 (x ∷ f)
holds_first x f = omega arith

pub holds_child : (p c : ℕ) (f : Forest) → IsIn c (children_at p f) → Holds p f
holds_child p c [] i = absurd i
holds_child zero c (x ∷ f) i = holds_first x f
holds_child (suc p) c (x ∷ f) i = holds_further p x f (holds_child p c f i)

pub holds_contents : (p c : ℕ) (f : Forest) → contents_of p f ≡ Some c → Holds p f
holds_contents p c [] e = absurd (cc)
holds_contents zero c (x ∷ f) e = holds_first x f
holds_contents (suc p) c (x ∷ f) e = holds_further p x f (holds_contents p c f e)

-- a parent is there
pub holds_parent : (p c : ℕ) (f : Forest) → IsParent f p c → Holds p f
holds_parent p c f (of_child _ _ i) = holds_child p c f i
holds_parent p c f (of_contents _ _ e) = holds_contents p c f e

-- characters more, and attributes more, keep what a kind says of contents and documents
pub contents_said : (cs : List ℕ) (kind : Kind) →
    (element_of (saying_kind cs kind)).contents ≡ (element_of kind).contents
contents_said cs (text before) = refl
contents_said cs document = refl
contents_said cs (doctype name public system) = refl
contents_said cs (comment said) = refl
contents_said cs (instruction target said) = refl
contents_said cs (element e) = refl

pub document_said : (cs : List ℕ) (kind : Kind) → saying_kind cs kind ≡ document → kind ≡ document
document_said cs (text before) e = absurd (cc)
document_said cs document e = refl
document_said cs (doctype name public system) e = e
document_said cs (comment said) e = e
document_said cs (instruction target said) e = e
document_said cs (element x) e = e

pub contents_with : (more : List Attribute) (kind : Kind) →
    (element_of (kind_with more kind)).contents ≡ (element_of kind).contents
contents_with more (text before) = refl
contents_with more document = refl
contents_with more (doctype name public system) = refl
contents_with more (comment said) = refl
contents_with more (instruction target said) = refl
contents_with more (element e) = refl

pub document_with : (more : List Attribute) (kind : Kind) → kind_with more kind ≡ document → kind ≡ document
document_with more (text before) e = e
document_with more document e = refl
document_with more (doctype name public system) e = e
document_with more (comment said) e = e
document_with more (instruction target said) e = e
document_with more (element x) e = absurd (cc)

abbrev pub attributed : List Attribute → Node → Node
attributed more x = record { kind = kind_with more x.kind; children = x.children }
