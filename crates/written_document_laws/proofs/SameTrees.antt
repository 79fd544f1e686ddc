-- Documents whose trees are equal are equal.
use Rattle.std.proofs.Common.{◌≡◌, ◌+◌, [], ◌∷◌, ◌++◌, ◌∙◌, List, None, Option, Some, ap, codes, length, refl, subst}
use Rattle.std.proofs.Common.{suc, sym, ℕ}
use Rattle.tree_forest.specs.Forest.{Forest, Node, children_at, document, element_of, node_at, text, text_of}
use Rattle.html_lexemes.specs.declared.names.Attribute.{Attribute}
use Rattle.document_laws.specs.Contents.{Content, none, say, span}
use Rattle.document_laws.specs.Planted.{listed, node_of_element, roots, size}
use Rattle.written_document_laws.proofs.WalkedDocuments.{StandsAs, body_stands}
use Rattle.written_document_laws.specs.Trees.{body_number, doctype_node, head_nodes, whole_tree}

-- ---- contents

heads : (a b : ℕ) (xs ys : List ℕ) → a ∷ xs ≡ b ∷ ys → a ≡ b
heads a b xs ys e = cc

tails : (a b : ℕ) (xs ys : List ℕ) → a ∷ xs ≡ b ∷ ys → xs ≡ ys
tails a b xs ys e = cc

no_more_of : (P : Type 0) (a : ℕ) (xs : List ℕ) → [] ≡ a ∷ xs → P
no_more_of P a xs e = absurd cc

none_is_some : (P : Type 0) (xs : List ℕ) → None ≡ Some xs → P
none_is_some P xs e = absurd cc

some_same : (xs ys : List ℕ) → Some xs ≡ Some ys → xs ≡ ys
some_same xs ys e = cc

abbrev text_node : List ℕ → Node
text_node cs = record { kind = text cs; children = [] }

same_text : (xs ys : List ℕ) → text_node xs ≡ text_node ys → xs ≡ ys
same_text xs ys e = some_same xs ys (ap (λ (x : Node). text_of x.kind) e)

abbrev name_in : Node → List ℕ
name_in x = (element_of x.kind).name.local

abbrev attributes_in : Node → List Attribute
attributes_in x = (element_of x.kind).attributes

pub same_content : (n : ℕ) (one other : Content) (f : Forest) → StandsAs n one f → StandsAs n other f →
    roots n one ≡ roots n other → one ≡ other
same_content n none none f h k e = refl
same_content n none (say d ds more) f h k e = no_more_of _ n (roots (suc n) more) e
same_content n none (span name attributes kids more) f h k e = no_more_of _ n (roots (suc n + size kids) more) e
same_content n (say c cs rest) none f h k e = no_more_of _ n (roots (suc n) rest) (sym e)
same_content n (span name attributes kids rest) none f h k e = no_more_of _ n (roots (suc n + size kids) rest) (sym e)
same_content n (say c cs rest) (say d ds more) f h k e =
    let t = same_text (c ∷ cs) (d ∷ ds) (sym h.0 ∙ k.0) in
    ap (λ x. say x cs rest) (heads c d cs ds t) ∙ ap (λ xs. say d xs rest) (tails c d cs ds t)
    ∙ ap (say d ds) (same_content (suc n) rest more f h.1 k.1 (tails n n (roots (suc n) rest) (roots (suc n) more) e))
same_content n (say c cs rest) (span name attributes kids more) f h k e =
    none_is_some _ (c ∷ cs) (ap (λ (x : Node). text_of x.kind) (sym k.0 ∙ h.0))
same_content n (span name attributes kids rest) (say d ds more) f h k e =
    none_is_some _ (d ∷ ds) (ap (λ (x : Node). text_of x.kind) (sym h.0 ∙ k.0))
same_content n (span name attributes kids rest) (span other others within more) f h k e =
    let node : node_of_element name attributes (roots (suc n) kids)
    ≡ node_of_element other others (roots (suc n) within)
    = sym h.0 ∙ k.0 in
    let inner : kids ≡ within =
    same_content (suc n) kids within f h.1.0 k.1.0 (ap (λ (x : Node). x.children) node) in
    let later : rest ≡ more = same_content (suc n + size kids) rest more f h.1.1
    (subst (λ (x : Content). StandsAs (suc n + size x) more f) (sym inner) k.1.1)
    (tails n n (roots (suc n + size kids) rest) (roots (suc n + size within) more) e
    ∙ ap (λ (x : Content). roots (suc n + size x) more) (sym inner)) in
    ap (λ x. span x attributes kids rest) (ap name_in node) ∙ ap (λ x. span other x kids rest) (ap attributes_in node)
    ∙ ap (λ x. span other others x rest) inner ∙ ap (span other others within) later

same_body : (n : ℕ) (front before : Forest) (one other : Content) → length front ≡ n → length before ≡ n →
    front ++ listed n one ≡ before ++ listed n other → roots n one ≡ roots n other → one ≡ other
same_body n front before one other h k e r = same_content n one other (front ++ listed n one)
    (body_stands front n one h)
    (subst (StandsAs n other) (sym e) (body_stands before n other k)) r

-- ---- documents

abbrev front_nodes : Option (List ℕ) → Content → Forest
front_nodes title content = let n = body_number title in
    record { kind = document; children = 1 ∷ 2 ∷ [] } ∷ doctype_node
    ∷ node_of_element (codes "html") [] (3 ∷ n ∷ [])
    ∷ (head_nodes title ++ (node_of_element (codes "body") [] (roots (suc n) content) ∷ []))

pub same_whole : (title another : Option (List ℕ)) (content other : Content) →
    whole_tree title content ≡ whole_tree another other → (title ≡ another) × (content ≡ other)
same_whole None None content other e = (
  refl,
  same_body 5 (front_nodes None content) (front_nodes None other) content other refl refl e
      (ap (λ f. children_at 4 f) e),
)
same_whole None (Some title) content other e = no_more_of _ 4 [] (ap (λ f. children_at 3 f) e)
same_whole (Some title) None content other e = no_more_of _ 4 [] (ap (λ f. children_at 3 f) (sym e))
same_whole (Some []) (Some []) content other e = (
  refl,
  same_body 6 (front_nodes (Some []) content) (front_nodes (Some []) other) content other refl refl e
      (ap (λ f. children_at 5 f) e),
)
same_whole (Some []) (Some (d ∷ ds)) content other e = no_more_of _ 5 [] (ap (λ f. children_at 4 f) e)
same_whole (Some (c ∷ cs)) (Some []) content other e = no_more_of _ 5 [] (ap (λ f. children_at 4 f) (sym e))
same_whole (Some (c ∷ cs)) (Some (d ∷ ds)) content other e = (
  ap Some (same_text (c ∷ cs) (d ∷ ds) (ap (λ f. node_at 5 f) e)),
  same_body 7 (front_nodes (Some (c ∷ cs)) content) (front_nodes (Some (d ∷ ds)) other) content other refl refl e
      (ap (λ f. children_at 6 f) e),
)
