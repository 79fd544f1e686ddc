-- The tree of a document, planted node by node, is the one that has all nodes at once.
use Rattle.std.proofs.Common.{◌≡◌, ℕ, ◌<◌, List, [], ◌∷◌, codes, Option, None, Some, arith}
use Rattle.tree_forest.specs.Forest.{Forest, nodes}
use Rattle.document_laws.specs.Contents.{Content}
use Rattle.document_laws.specs.Planted.{planted, standing, with_new}
use Rattle.document_laws.specs.Rebuilt.{document_tree, head_alone, with_title}
use Rattle.written_document_laws.specs.Trees.{whole_tree}

pub tree_at_once : ((p : ℕ) (content : Content) (f : Forest) → p < nodes f → planted p content f
    ≡ standing p content f) →
    (title : Option (List ℕ)) (content : Content) → document_tree title content ≡ whole_tree title content
tree_at_once stands None content = stands 4 content (with_new 2 (codes "body") [] head_alone) (omega arith)
tree_at_once stands (Some []) content =
    stands 5 content (with_new 2 (codes "body") [] (with_title (Some []) head_alone)) (omega arith)
tree_at_once stands (Some (c ∷ cs)) content =
    stands 6 content (with_new 2 (codes "body") [] (with_title (Some (c ∷ cs)) head_alone)) (omega arith)
