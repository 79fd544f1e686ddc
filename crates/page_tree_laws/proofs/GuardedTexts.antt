-- Texts, comments, doctypes and attributes leave alone what is guarded in a forest, wherever they are put.
use Rattle.std.proofs.Common.{◌≡◌, ◌≤◌, [], ◌∷◌, ◌∙◌, List, None, Option, Some, ap, arith, false, inl, refl, subst, suc}
use Rattle.std.proofs.Common.{sym, ℕ}
use Rattle.tree_forest.specs.Changes.{changed, kind_with, made, saying, saying_kind, with_attributes}
use Rattle.tree_forest.specs.Forest.{Forest, Kind, Node, comment, doctype, document, element, element_of, instruction}
use Rattle.tree_forest.specs.Forest.{kind_at, nodes, text, text_of}
use Rattle.tree_forest.specs.Places.{Place, neighbour, put_node, put_words}
use Rattle.tree_forest.proofs.Nodes.{contents_said, contents_with, kept, kind_new, size_changed, size_made}
use Rattle.html_lexemes.specs.declared.names.Attribute.{Attribute}
use Rattle.page_tree_laws.proofs.GuardedChanges.{leaf_put, made_kept}
use Rattle.page_tree_laws.proofs.GuardedForests.{KeptOn, kept_then, no_fewer, same_children}
use Rattle.page_tree_laws.proofs.Guards.{Guard, IsKeptForest}
use Rattle.page_tree_laws.specs.Skeleton.{is_element}

there : (x y : ℕ) → y ≡ suc x → suc x ≤ y
there x y e = omega (arith, e)

-- a node that is made, and no element, is put at any place
pub leaf_kept : (g : Guard) (place : Place) (kind : Kind) (f : Forest) → is_element kind ≡ false →
    (element_of kind).contents ≡ None → IsKeptForest g f → KeptOn g f (put_node place (nodes f) (made kind f))
leaf_kept g place kind f none plain held =
    kept_then g f (made kind f) (put_node place (nodes f) (made kind f)) (made_kept g kind f plain held)
    (leaf_put g place (nodes f) (made kind f) (ap is_element (kind_new kind f) ∙ none)
    (there (nodes f) (nodes (made kind f)) (size_made kind f)))

-- a node says more, or has more attributes, and keeps its children
more_kept : (g : Guard) (n : ℕ) (h : Node → Node) (f : Forest) →
    ((x : Node) → is_element (h x).kind ≡ is_element x.kind) →
    ((x : Node) → (element_of (h x).kind).name ≡ (element_of x.kind).name) →
    ((x : Node) → (element_of (h x).kind).contents ≡ (element_of x.kind).contents) →
    ((x : Node) → (h x).children ≡ x.children) → IsKeptForest g f → KeptOn g f (changed n h f)
more_kept g n h f elements names contents children = same_children g f (changed n h f) (record {
  elements = λ m held. kept (λ x. is_element x.kind) h n m f elements;
  names = λ m held. kept (λ x. (element_of x.kind).name) h n m f names;
  size = no_fewer (nodes f) (nodes (changed n h f)) (size_changed n h f);
  contents = λ m c e. inl (sym (kept (λ x. (element_of x.kind).contents) h n m f contents) ∙ e);
}) (λ m. kept (λ x. x.children) h n m f children)

-- a text stays a text
said_element : (cs : List ℕ) (kind : Kind) → is_element (saying_kind cs kind) ≡ is_element kind
said_element cs (text before) = refl
said_element cs document = refl
said_element cs (doctype name public system) = refl
said_element cs (comment said) = refl
said_element cs (instruction target said) = refl
said_element cs (element e) = refl

said_name : (cs : List ℕ) (kind : Kind) → (element_of (saying_kind cs kind)).name ≡ (element_of kind).name
said_name cs (text before) = refl
said_name cs document = refl
said_name cs (doctype name public system) = refl
said_name cs (comment said) = refl
said_name cs (instruction target said) = refl
said_name cs (element e) = refl

said_kept : (g : Guard) (n : ℕ) (cs : List ℕ) (f : Forest) → IsKeptForest g f → KeptOn g f (changed n (saying cs) f)
said_kept g n cs f = more_kept g n (saying cs) f (λ x. said_element cs x.kind) (λ x. said_name cs x.kind)
    (λ x. contents_said cs x.kind) (λ x. refl)

-- attributes leave an element's name
with_element : (more : List Attribute) (kind : Kind) → is_element (kind_with more kind) ≡ is_element kind
with_element more (text before) = refl
with_element more document = refl
with_element more (doctype name public system) = refl
with_element more (comment said) = refl
with_element more (instruction target said) = refl
with_element more (element e) = refl

with_name : (more : List Attribute) (kind : Kind) → (element_of (kind_with more kind)).name ≡ (element_of kind).name
with_name more (text before) = refl
with_name more document = refl
with_name more (doctype name public system) = refl
with_name more (comment said) = refl
with_name more (instruction target said) = refl
with_name more (element e) = refl

-- attributes keep what is guarded
pub attributes_kept : (g : Guard) (n : ℕ) (more : List Attribute) (f : Forest) → IsKeptForest g f →
    KeptOn g f (with_attributes n more f)
attributes_kept g n more f = more_kept g n (λ x. record { kind = kind_with more x.kind; children = x.children }) f
    (λ x. with_element more x.kind) (λ x. with_name more x.kind) (λ x. contents_with more x.kind) (λ x. refl)

-- characters are a text more, or more of a text
new_text : (place : Place) (c : ℕ) (cs : List ℕ) (f : Forest) → neighbour place f ≡ None →
    put_words place (c ∷ cs) f ≡ put_node place (nodes f) (made (text (c ∷ cs)) f)
new_text place c cs f e = rw e

new_text_after : (place : Place) (c : ℕ) (cs : List ℕ) (n : ℕ) (f : Forest) → neighbour place f ≡ Some n →
    text_of (kind_at n f) ≡ None →
    put_words place (c ∷ cs) f ≡ put_node place (nodes f) (made (text (c ∷ cs)) f)
new_text_after place c cs n f e k = rw (e, k)

text_more : (place : Place) (c : ℕ) (cs said : List ℕ) (n : ℕ) (f : Forest) → neighbour place f ≡ Some n →
    text_of (kind_at n f) ≡ Some said → put_words place (c ∷ cs) f ≡ changed n (saying (c ∷ cs)) f
text_more place c cs said n f e k = rw (e, k)

by_text : (g : Guard) (place : Place) (c : ℕ) (cs : List ℕ) (n : ℕ) (f : Forest) (said : Option (List ℕ)) →
    neighbour place f ≡ Some n → text_of (kind_at n f) ≡ said → IsKeptForest g f →
    KeptOn g f (put_words place (c ∷ cs) f)
by_text g place c cs n f None e k held = subst (KeptOn g f) (sym (new_text_after place c cs n f e k))
    (leaf_kept g place (text (c ∷ cs)) f refl refl held)
by_text g place c cs n f (Some said) e k held = subst (KeptOn g f) (sym (text_more place c cs said n f e k))
    (said_kept g n (c ∷ cs) f held)

by_neighbour : (g : Guard) (place : Place) (c : ℕ) (cs : List ℕ) (f : Forest) (found : Option ℕ) →
    neighbour place f ≡ found → IsKeptForest g f → KeptOn g f (put_words place (c ∷ cs) f)
by_neighbour g place c cs f None e held = subst (KeptOn g f) (sym (new_text place c cs f e))
    (leaf_kept g place (text (c ∷ cs)) f refl refl held)
by_neighbour g place c cs f (Some n) e held = by_text g place c cs n f (text_of (kind_at n f)) e refl held

-- characters at any place keep what is guarded
pub words_kept : (g : Guard) (place : Place) (cs : List ℕ) (f : Forest) → IsKeptForest g f →
    KeptOn g f (put_words place cs f)
words_kept g place [] f held = record {
  like = record {
    elements = λ n is. refl;
    names = λ n is. refl;
    size = omega arith;
    contents = λ n c e. inl e;
  };
  kept = held;
}
words_kept g place (c ∷ cs) f held = by_neighbour g place c cs f (neighbour place f) refl held
