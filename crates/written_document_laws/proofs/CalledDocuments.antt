-- The walk of a document's tree emits the document.
use Rattle.std.proofs.Common.{◌≡◌, ◌+◌, ◌≤◌, [], ◌∷◌, ◌++◌, ◌∙◌, List, None, Option, Some, ap, append-nil, append_assoc}
use Rattle.std.proofs.Common.{arith, codes, length, refl, suc, zero, ℕ}
use Rattle.tree_forest.specs.Forest.{Forest, Node, children_at, document, element_of, node_at, text}
use Rattle.html_lexemes.specs.declared.names.QualName.{QualName}
use Rattle.tree_serializer.specs.Calls.{Call, doctype_of, finish, start, text_run}
use Rattle.tree_serializer.specs.Walks.{calls_by, calls_of, calls_within, contents_or, joined}
use Rattle.tree_serializer.specs.declared.options.TraversalScope.{TraversalScope}
use Rattle.tree_serializer.specs.declared.options.TraversalScope.TheVariants.{ChildrenOnly, IncludeNode}
use Rattle.document_laws.specs.Contents.{Content, none, say, span}
use Rattle.document_laws.specs.Planted.{listed, node_of_element, of_html, roots, size}
use Rattle.written_document_laws.proofs.WalkedDocuments.{StandsAs, body_stands, length_listed}
use Rattle.written_document_laws.specs.Emissions.{calls_and, document_calls}
use Rattle.written_document_laws.specs.Trees.{body_number, doctype_node, head_nodes, whole_tree}

module _ (f : Forest) where
  calls_at : (k n : ℕ) (x : Node) → node_at n f ≡ x → calls_within (suc k) f n
      ≡ calls_by x.kind (joined (calls_within k f) (children_at (contents_or (element_of x.kind).contents n) f))
  calls_at k n x e = ap (λ (y : Node). calls_by y.kind
      (joined (calls_within k f) (children_at (contents_or (element_of y.kind).contents n) f))) e

  less_kids : (k a b : ℕ) → suc (a + b) ≤ suc k → a ≤ k
  less_kids k a b h = omega (arith, h)

  less_rest : (k a b : ℕ) → suc (a + b) ≤ k → b ≤ k
  less_rest k a b h = omega (arith, h)

  inner_end : (inner later more : List Call) (last : Call) →
      ((inner ++ last ∷ []) ++ later) ++ more ≡ inner ++ last ∷ (later ++ more)
  inner_end inner later more last =
      append_assoc (inner ++ last ∷ []) later more ∙ append_assoc inner (last ∷ []) (later ++ more)

  called : (k n : ℕ) (content : Content) (more : List Call) → StandsAs n content f → size content ≤ k →
      joined (calls_within k f) (roots n content) ++ more ≡ calls_and content more
  called k n none more h l = refl
  called zero n (say c cs rest) more h l = absurd (omega (arith, l))
  called (suc k) n (say c cs rest) more h l =
      ap (λ t. (t ++ joined (calls_within (suc k) f) (roots (suc n) rest)) ++ more)
      (calls_at k n (record { kind = text (c ∷ cs); children = [] }) h.0)
      ∙ ap (λ t. text_run (c ∷ cs) ∷ t)
      (called (suc k) (suc n) rest more h.1 (less_rest (suc k) 0 (size rest) (omega (arith, l))))
  called zero n (span name attributes kids rest) more h l = absurd (omega (arith, l))
  called (suc k) n (span name attributes kids rest) more h l =
      let x : Node = node_of_element name attributes (roots (suc n) kids) in
      let q : QualName = of_html name in
      let later : List Call = joined (calls_within (suc k) f) (roots (suc n + size kids) rest) in
      let inner : List ℕ → List Call = λ ns. joined (calls_within k f) ns in
      let children : children_at n f ≡ roots (suc n) kids = ap (λ (y : Node). y.children) h.0 in
      ap (λ t. (t ++ later) ++ more) (calls_at k n x h.0)
      ∙ ap (λ ns. start q attributes ∷ (((inner ns ++ finish q ∷ []) ++ later) ++ more)) children
      ∙ ap (λ t. start q attributes ∷ t)
      (inner_end (inner (roots (suc n) kids)) later more (finish q)
      ∙ called k (suc n) kids (finish q ∷ (later ++ more)) h.1.0 (less_kids k (size kids) (size rest) l)
      ∙ ap (λ t. calls_and kids (finish q ∷ t))
      (called (suc k) (suc n + size kids) rest more h.1.1 (less_rest (suc k) (size kids) (size rest) l)))

body_end : (inside : List Call) (body root : Call) →
    (((inside ++ body ∷ []) ++ []) ++ root ∷ []) ++ [] ≡ inside ++ body ∷ root ∷ []
body_end inside body root =
    append-nil (((inside ++ body ∷ []) ++ []) ++ root ∷ [])
    ∙ ap (λ t. t ++ root ∷ []) (append-nil (inside ++ body ∷ [])) ∙ append_assoc inside (body ∷ []) (root ∷ [])

module _ (content : Content) where
  abbrev first_nodes : ℕ → Forest
  first_nodes n = record { kind = document; children = 1 ∷ 2 ∷ [] } ∷ doctype_node
      ∷ node_of_element (codes "html") [] (3 ∷ n ∷ []) ∷ []

  abbrev front : Option (List ℕ) → Forest
  front title = let n = body_number title in
      first_nodes n ++ (head_nodes title ++ node_of_element (codes "body") [] (roots (suc n) content) ∷ [])

  body_calls : (front : Forest) (n k : ℕ) → length front ≡ n → size content ≤ k →
      (((joined (calls_within k (front ++ listed n content)) (roots n content) ++ finish (of_html (codes "body")) ∷ [])
      ++ []) ++ finish (of_html (codes "html")) ∷ []) ++ []
      ≡ calls_and content (finish (of_html (codes "body")) ∷ finish (of_html (codes "html")) ∷ [])
  body_calls front n k e l =
      body_end (joined (calls_within k (front ++ listed n content)) (roots n content)) (finish (of_html (codes "body")))
      (finish (of_html (codes "html")))
      ∙ called (front ++ listed n content) k n content
      (finish (of_html (codes "body")) ∷ finish (of_html (codes "html")) ∷ []) (body_stands front n content e) l

  abbrev head_start : List Call → List Call
  head_start more = doctype_of (codes "html") ∷ start (of_html (codes "html")) [] ∷ start (of_html (codes "head")) []
      ∷ more

  abbrev body_start : List Call → List Call
  body_start more = finish (of_html (codes "head")) ∷ start (of_html (codes "body")) [] ∷ more

  page_calls : (title : Option (List ℕ)) (m : ℕ) → size content ≤ suc (suc m) →
      joined (calls_within (suc (suc (suc (suc m)))) (whole_tree title content)) (1 ∷ 2 ∷ [])
      ≡ document_calls title content
  page_calls None m l =
      ap (λ t. head_start (body_start t)) (body_calls (front None) 5 (suc (suc m)) refl l)
  page_calls (Some []) m l =
      ap (λ t. head_start (start (of_html (codes "title")) [] ∷ finish (of_html (codes "title")) ∷ body_start t))
      (body_calls (front (Some [])) 6 (suc (suc m)) refl l)
  page_calls (Some (c ∷ cs)) m l =
      ap (λ t. head_start (start (of_html (codes "title")) [] ∷ text_run (c ∷ cs) ∷ finish (of_html (codes "title"))
      ∷ body_start t)) (body_calls (front (Some (c ∷ cs))) 7 (suc (suc m)) refl l)

  enough : (n m : ℕ) → length (listed n content) ≤ m → size content ≤ suc (suc m)
  enough n m h = omega (arith, length_listed n content, h)

  pub document_called : (scope : TraversalScope) (title : Option (List ℕ)) →
      calls_of scope 0 (whole_tree title content) ≡ document_calls title content
  document_called IncludeNode None = page_calls None (length (listed 5 content)) (enough 5 _ (omega arith))
  document_called IncludeNode (Some []) =
      page_calls (Some []) (suc (length (listed 6 content))) (enough 6 _ (omega arith))
  document_called IncludeNode (Some (c ∷ cs)) =
      page_calls (Some (c ∷ cs)) (suc (suc (length (listed 7 content)))) (enough 7 _ (omega arith))
  document_called (ChildrenOnly name) None =
      page_calls None (suc (length (listed 5 content))) (enough 5 _ (omega arith))
  document_called (ChildrenOnly name) (Some []) =
      page_calls (Some []) (suc (suc (length (listed 6 content)))) (enough 6 _ (omega arith))
  document_called (ChildrenOnly name) (Some (c ∷ cs)) =
      page_calls (Some (c ∷ cs)) (suc (suc (suc (length (listed 7 content))))) (enough 7 _ (omega arith))

pub called_whole : (scope : TraversalScope) (title : Option (List ℕ)) (content : Content) →
    calls_of scope 0 (whole_tree title content) ≡ document_calls title content
called_whole scope title content = document_called content scope title
