use Rattle.std.proofs.Common.{refl}
use Rattle.test_trees.proofs.Computed.{node_before, node_below}
use Rattle.test_trees.proofs.moves.foster.Goals as goal

pub append-requires : goal.append-requires
append-requires g c =
    rw (c.in_ok-table.ensures.forest, c.in_ok-table.ensures.number, c.requires, c.get_document-document.ensures)
    (node_below 0 1 _ refl refl)

pub append_based_on_parent_node-requires : goal.append_based_on_parent_node-requires
append_based_on_parent_node-requires g c =
    rw (
      c.in_ok-a.ensures.forest,
      c.in_ok-a.ensures.number,
      c.in_ok-append.ensures.forest,
      c.in_ok-table.ensures.forest,
      c.in_ok-table.ensures.number,
      c.requires,
      c.get_document-document.ensures,
    )
    (node_before 0 1 2 _ refl refl)

pub append_based_on_parent_node-requires-2 : goal.append_based_on_parent_node-requires-2
append_based_on_parent_node-requires-2 g c =
    rw (
      c.in_ok-b.ensures.forest,
      c.in_ok-b.ensures.number,
      c.in_ok-remove_from_parent.ensures.forest,
      c.in_ok-append_based_on_parent_node.ensures.forest,
      c.in_ok-a.ensures.forest,
      c.in_ok-a.ensures.number,
      c.in_ok-append.ensures.forest,
      c.in_ok-table.ensures.forest,
      c.in_ok-table.ensures.number,
      c.requires,
      c.get_document-document.ensures,
    )
    (node_below 2 3 _ refl refl)
