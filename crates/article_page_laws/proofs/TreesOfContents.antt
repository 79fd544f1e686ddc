-- The trees of documents, without the numbers of nodes.
use Rattle.std.proofs.Common.{◌≡◌, ◌+◌, ◌≤◌, [], ◌∷◌, ◌++◌, ◌∙◌, List, ap, append-nil, append_assoc, arith, codes}
use Rattle.std.proofs.Common.{length, refl, suc, sym, zero, ℕ}
use Rattle.std.proofs.lemmas.List.{length-append}
use Rattle.std.specs.Prelude.{Option, None, Some}
use Rattle.tree_forest.specs.Trees.{Trees, each_before, node, tree_before, trees}
use Rattle.tree_forest.specs.Trees as of_trees
use Rattle.tree_forest.specs.Forest.{Forest, Kind, Node, doctype, document, text}
use Rattle.html_lexemes.specs.declared.names.Attribute.{Attribute}
use Rattle.paragraph_laws.proofs.TreesOfPages.{length_listed, longer, node_here, tree_here}
use Rattle.document_laws.specs.Contents.{Content, none, say, span}
use Rattle.document_laws.specs.Planted.{listed, node_of_element, roots, size}
use Rattle.written_document_laws.specs.Trees.{doctype_node, whole_tree}

abbrev pub kind_of : List ℕ → List Attribute → Kind
kind_of name attributes = (node_of_element name attributes []).kind

abbrev pub trees_of_content : Content → Trees
trees_of_content none = of_trees.none
trees_of_content (say c cs rest) = node (text (c ∷ cs)) of_trees.none (trees_of_content rest)
trees_of_content (span name attributes kids rest) =
    node (kind_of name attributes) (trees_of_content kids) (trees_of_content rest)

abbrev pub title_trees : Option (List ℕ) → Trees
title_trees None = of_trees.none
title_trees (Some []) = node (kind_of (codes "title") []) of_trees.none of_trees.none
title_trees (Some (c ∷ cs)) =
    node (kind_of (codes "title") []) (node (text (c ∷ cs)) of_trees.none of_trees.none) of_trees.none

-- `head` and `body` in `html`, with these in them
abbrev pub document_trees : (in_head in_body : Trees) → Trees
document_trees in_head in_body = node document
    (node (doctype (codes "html") [] []) of_trees.none
    (node (kind_of (codes "html") [])
    (node (kind_of (codes "head") []) in_head (node (kind_of (codes "body") []) in_body of_trees.none))
    of_trees.none)) of_trees.none

-- ---- contents that stand somewhere in a forest

abbrev text_node : List ℕ → Node
text_node cs = record { kind = text cs; children = [] }

less : (s k : ℕ) → suc s ≤ suc k → s ≤ suc k
less s k h = omega (arith, h)

less_inside : (s t k : ℕ) → suc (s + t) ≤ suc k → s ≤ k
less_inside s t k h = omega (arith, h)

less_after : (s t k : ℕ) → suc (s + t) ≤ suc k → t ≤ suc k
less_after s t k h = omega (arith, h)

number_after : (n a b x s : ℕ) → x ≡ a + b → a ≡ suc n → b ≡ s → x ≡ suc n + s
number_after n a b x s e h k = omega (arith, e, h, k)

trees_of_listed : (content : Content) (k n : ℕ) (f front trailing : Forest) → f
    ≡ front ++ (listed n content ++ trailing) →
    length front ≡ n → size content ≤ k → each_before (tree_before k f) (roots n content) ≡ trees_of_content content
trees_of_listed none k n f front trailing e before held = refl
trees_of_listed (say c cs rest) zero n f front trailing e before held = absurd (omega (arith, held))
trees_of_listed (say c cs rest) (suc k) n f front trailing e before held =
    let x = text_node (c ∷ cs) in
    let later = listed (suc n) rest ++ trailing in
    tree_here k n f x (each_before (tree_before (suc k) f) (roots (suc n) rest)) (node_here f front later x n e before)
    ∙ ap (node (text (c ∷ cs)) of_trees.none)
    (trees_of_listed rest (suc k) (suc n) f (front ++ x ∷ []) trailing (e ∙ sym (append_assoc front (x ∷ []) later))
    (longer front x n before) (less (size rest) k held))
trees_of_listed (span name attributes kids rest) zero n f front trailing e before held = absurd (omega (arith, held))
trees_of_listed (span name attributes kids rest) (suc k) n f front trailing e before held =
    let x = node_of_element name attributes (roots (suc n) kids) in
    let m = suc n + size kids in
    let inner = listed (suc n) kids in
    let outer = listed m rest in
    let more = each_before (tree_before (suc k) f) (roots m rest) in
    let kind = kind_of name attributes in
    let past = front ++ x ∷ [] in
    let after_x : f ≡ past ++ (inner ++ (outer ++ trailing)) =
    e ∙ sym (append_assoc front (x ∷ []) ((inner ++ outer) ++ trailing))
    ∙ ap (λ (later : Forest). past ++ later) (append_assoc inner outer trailing) in
    tree_here k n f x more (node_here f front ((inner ++ outer) ++ trailing) x n e before)
    ∙ ap (λ ts. node kind ts more)
    (trees_of_listed kids k (suc n) f past (outer ++ trailing) after_x (longer front x n before)
    (less_inside (size kids) (size rest) k held))
    ∙ ap (λ ts. node kind (trees_of_content kids) ts)
    (trees_of_listed rest (suc k) m f (past ++ inner) trailing
    (after_x ∙ sym (append_assoc past inner (outer ++ trailing)))
    (number_after n (length past) (length inner) (length (past ++ inner)) (size kids) (length-append past inner)
    (longer front x n before) (length_listed (suc n) kids)) (less_after (size kids) (size rest) k held))

-- ---- the whole document

abbrev node_document : List ℕ → Node
node_document children = record { kind = document; children = children }

-- after nodes of a document, the body's contents
in_body : (content : Content) (n k : ℕ) (front : Forest) → length front ≡ n → (held : size content ≤ k) →
    each_before (tree_before k (front ++ listed n content)) (roots n content) ≡ trees_of_content content
in_body content n k front before held =
    trees_of_listed content k n (front ++ listed n content) front []
    (ap (λ (later : Forest). front ++ later) (sym (append-nil (listed n content)))) before held

at_least : (s l : ℕ) → l ≡ s → s ≤ suc (suc l)
at_least s l e = omega (arith, e)

at_least_more : (s l : ℕ) → l ≡ s → s ≤ suc (suc (suc l))
at_least_more s l e = omega (arith, e)

at_least_most : (s l : ℕ) → l ≡ s → s ≤ suc (suc (suc (suc l)))
at_least_most s l e = omega (arith, e)

pub trees_of_document : (title : Option (List ℕ)) (content : Content) →
    trees (whole_tree title content) (0 ∷ []) ≡ document_trees (title_trees title) (trees_of_content content)
trees_of_document None content =
    let later = listed 5 content in
    let front : Forest = node_document (1 ∷ 2 ∷ []) ∷ doctype_node ∷ node_of_element (codes "html") [] (3 ∷ 4 ∷ [])
    ∷ node_of_element (codes "head") [] [] ∷ node_of_element (codes "body") [] (roots 5 content) ∷ [] in
    ap (document_trees of_trees.none)
    (in_body content 5 (suc (suc (length later))) front refl
    (at_least (size content) (length later) (length_listed 5 content)))
trees_of_document (Some []) content =
    let later = listed 6 content in
    let front : Forest = node_document (1 ∷ 2 ∷ []) ∷ doctype_node ∷ node_of_element (codes "html") [] (3 ∷ 5 ∷ [])
    ∷ node_of_element (codes "head") [] (4 ∷ []) ∷ node_of_element (codes "title") [] []
    ∷ node_of_element (codes "body") [] (roots 6 content) ∷ [] in
    ap (document_trees (title_trees (Some [])))
    (in_body content 6 (suc (suc (suc (length later)))) front refl
    (at_least_more (size content) (length later) (length_listed 6 content)))
trees_of_document (Some (c ∷ cs)) content =
    let later = listed 7 content in
    let front : Forest = node_document (1 ∷ 2 ∷ []) ∷ doctype_node ∷ node_of_element (codes "html") [] (3 ∷ 6 ∷ [])
    ∷ node_of_element (codes "head") [] (4 ∷ []) ∷ node_of_element (codes "title") [] (5 ∷ []) ∷ text_node (c ∷ cs)
    ∷ node_of_element (codes "body") [] (roots 7 content) ∷ [] in
    ap (document_trees (title_trees (Some (c ∷ cs))))
    (in_body content 7 (suc (suc (suc (suc (length later))))) front refl
    (at_least_most (size content) (length later) (length_listed 7 content)))
