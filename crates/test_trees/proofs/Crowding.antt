-- A comment that is put right before a child.
use Rattle.std.proofs.Common.{◌≡◌, ℕ, inl, refl, sym, ap₂, subst, ◌∙◌, List}
use Rattle.tree_forest.specs.Changes.{made}
use Rattle.tree_forest.specs.Conditions.{IsPlace}
use Rattle.tree_forest.specs.Forest.{Forest, comment, document, nodes, page_alone}
use Rattle.tree_forest.specs.Orders.{IsForest}
use Rattle.tree_forest.specs.Places.{before, below, put_node}

pub not_document : (cs : List ℕ) → ¬ (comment cs ≡ document)
not_document cs e = absurd (cc)

-- a comment alone below the document
pub begun : (cs : List ℕ) → IsForest (put_node (below 0) 1 (made (comment cs) page_alone)) →
    IsForest (put_node (below 0) 1 (made (comment cs) page_alone))
    × IsPlace (before 1) (put_node (below 0) 1 (made (comment cs) page_alone))
begun cs forest = (forest, (0, inl refl))

pub kept : (s n : ℕ) (cs : List ℕ) (f g h : Forest) → n ≡ nodes f → g ≡ made (comment cs) f →
    h ≡ put_node (before s) n g → IsForest (put_node (before s) (nodes f) (made (comment cs) f)) →
    IsPlace (before s) (put_node (before s) (nodes f) (made (comment cs) f)) → IsForest h × IsPlace (before s) h
kept s n cs f g h number is_made is_put forest place =
    let is : h ≡ put_node (before s) (nodes f) (made (comment cs) f) =
    is_put ∙ ap₂ (λ m k. put_node (before s) m k) number is_made in
    (subst IsForest (sym is) forest, subst (IsPlace (before s)) (sym is) place)
