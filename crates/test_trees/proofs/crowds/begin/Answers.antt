use Rattle.tree_forest.specs.Changes.{made}
use Rattle.tree_forest.specs.Forest.{comment, page_alone}
use Rattle.tree_forest.specs.Places.{below, node}
use Rattle.std.proofs.Common.{refl}
use Rattle.test_trees.proofs.Crowding.{begun, not_document}
use Rattle.test_trees.proofs.crowds.begin.Goals as goal

pub returns : goal.returns
returns g c =
    let cs = c.in_ok-from_str.field-0 in
    let alone = c.a_page_alone_is_a_forest.ensures in
    rw (
      c.in_ok-append.ensures.forest,
      c.in_ok-last.ensures.forest,
      c.in_ok-last.ensures.number,
      c.requires,
      c.get_document-document.ensures,
    )
    (begun cs (c.putting_keeps_a_forest.ensures (below 0) (node 1) (made (comment cs) page_alone)
    (c.making_keeps_a_forest.ensures.leaf (comment cs) page_alone alone refl)
    (c.what_was_made_may_be_put.ensures.leaf (below 0) (comment cs) page_alone alone alone.page.0 refl
    (not_document cs))))
