-- Nodes that are there, and nodes that aren't.
use Rattle.std.proofs.Common.{◌≡◌, ◌<◌, ◌≤◌, ◌⊎◌, [], ◌∷◌, ◌∙◌, ap, arith, false, inl, inr, refl, subst, suc, sym, true}
use Rattle.std.proofs.Common.{zero, ℕ}
use Rattle.std.specs.Bool.{nat_lt}
use Rattle.std.proofs.lemmas.Bool.{cases_lt, lt-ltb}
use Rattle.tree_forest.specs.Forest.{Forest, IsElement, IsElementKind, Kind, Node, comment, contents_of, doctype}
use Rattle.tree_forest.specs.Forest.{document, element, element_of, instruction, kind_at, nodes, text}
use Rattle.tree_forest.specs.Orders.{IsDocument, IsForest, IsIn}
use Rattle.tree_serializer.specs.Walks.{contents_or, inner_of}
use Rattle.dom_writing.specs.Turns.{is_document}

past_less : (n : ℕ) (x : Node) (f : Forest) → nodes (x ∷ f) ≤ suc n → nodes f ≤ n
past_less n x f h = omega arith

past_last : (n : ℕ) (f : Forest) → nodes f ≤ n → kind_at n f ≡ document
past_last n [] h = refl
past_last zero (x ∷ f) h = absurd (omega arith)
past_last (suc n) (x ∷ f) h = past_last n f (past_less n x f h)

-- past the last node there is a document
pub past_all : (n : ℕ) (f : Forest) → false ≡ nat_lt n (nodes f) → kind_at n f ≡ document
past_all n f h = past_last n f (past (cases_lt n (nodes f))) where
  past : (n < nodes f) ⊎ (nodes f ≤ n) → nodes f ≤ n
  past (inl more) = absurd (let k : true ≡ false = sym (lt-ltb n (nodes f) more) ∙ sym h in cc)
  past (inr is) = is

pub holder_past : (n : ℕ) (f : Forest) → false ≡ nat_lt n (nodes f) → n ≡ contents_or (contents_of n f) n
holder_past n f h = sym (ap (λ k. contents_or (element_of k).contents n) (past_all n f h))

pub document_past : (n : ℕ) (f : Forest) → false ≡ nat_lt n (nodes f) → true ≡ is_document (kind_at n f)
document_past n f h = sym (ap is_document (past_all n f h))

-- what stands in a node is no document
pub inner_plain : (f : Forest) (n : ℕ) → IsForest f → (c : ℕ) → IsIn c (inner_of n f) → ¬ (IsDocument c f)
inner_plain f n forest c i = forest.childless (contents_or (contents_of n f) n) c i

-- what is an element is of an element's kind
pub as_element : (k l : Kind) → k ≡ l → IsElementKind l → IsElementKind k
as_element k l e is = subst IsElementKind (sym e) is

pub plain_kind : (n : ℕ) (f : Forest) → false ≡ is_document (kind_at n f) → ¬ (IsDocument n f)
plain_kind n f h e = let k : true ≡ false = sym (ap is_document e) ∙ sym h in cc

pub document_kind : (k : Kind) → true ≡ is_document k → k ≡ document
document_kind document h = refl
document_kind (doctype name public system) h = cc
document_kind (text cs) h = cc
document_kind (comment cs) h = cc
document_kind (instruction target cs) h = cc
document_kind (element e) h = cc

-- an element is there
pub no_element_past : (n : ℕ) (f : Forest) → false ≡ nat_lt n (nodes f) → IsElement n f → ⊥
no_element_past n f h is = subst IsElementKind (past_all n f h) is

pub plain_holds : (n : ℕ) (f : Forest) → false ≡ nat_lt n (nodes f) → ¬ (IsDocument n f) → ⊥
plain_holds n f h plain = plain (past_all n f h)
