-- The tree of a document, all nodes of it at once.
use Rattle.std.specs.Prelude.{ℕ, suc, List, [], ◌∷◌, ◌++◌, Option, None, Some, codes}
use Rattle.tree_forest.specs.Forest.{Forest, Node, doctype, document, text}
use Rattle.document_laws.specs.Contents.{Content}
use Rattle.document_laws.specs.Planted.{listed, node_of_element, roots}

abbrev pub doctype_node : Node
doctype_node = record { kind = doctype (codes "html") [] []; children = [] }

-- a title without characters holds no text
abbrev pub text_nodes : List ℕ → List Node
text_nodes [] = []
text_nodes (c ∷ cs) = record { kind = text (c ∷ cs); children = [] } ∷ []

abbrev pub title_children : List ℕ → List ℕ
title_children [] = []
title_children (c ∷ cs) = 5 ∷ []

-- from the head on, which is node 3
abbrev pub head_nodes : Option (List ℕ) → List Node
head_nodes None = node_of_element (codes "head") [] [] ∷ []
head_nodes (Some title) = node_of_element (codes "head") [] (4 ∷ [])
    ∷ node_of_element (codes "title") [] (title_children title) ∷ text_nodes title

abbrev pub body_number : Option (List ℕ) → ℕ
body_number None = 4
body_number (Some []) = 5
body_number (Some (c ∷ cs)) = 6

abbrev pub whole_tree : Option (List ℕ) → Content → Forest
whole_tree title content = let n = body_number title in
    record { kind = document; children = 1 ∷ 2 ∷ [] } ∷ doctype_node
    ∷ node_of_element (codes "html") [] (3 ∷ n ∷ [])
    ∷ (head_nodes title ++ (node_of_element (codes "body") [] (roots (suc n) content) ∷ listed (suc n) content))
