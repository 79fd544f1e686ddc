use Rattle.std.proofs.Common.{refl}
use Rattle.test_trees.proofs.Computed.{node_below}
use Rattle.test_trees.proofs.elements.add_twice.Goals as goal

pub append-requires : goal.append-requires
append-requires g c =
    rw (c.in_ok-html.ensures.forest, c.in_ok-html.ensures.number, c.requires, c.get_document-document.ensures)
    (node_below 0 1 _ refl refl)
