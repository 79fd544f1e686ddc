use Rattle.std.proofs.Common.{refl}
use Rattle.test_trees.proofs.Computed.{node_before, node_below}
use Rattle.test_trees.proofs.outline.build_remarks.Goals as goal

pub append-requires : goal.append-requires
append-requires g c =
    rw (c.in_ok-comment.ensures.forest, c.in_ok-comment.ensures.number, c.requires, c.get_document-document.ensures)
    (node_below 0 1 _ refl refl)

pub append_before_sibling-requires : goal.append_before_sibling-requires
append_before_sibling-requires g c =
    rw (
      c.in_ok-instruction.ensures.forest,
      c.in_ok-instruction.ensures.number,
      c.in_ok-append.ensures.forest,
      c.in_ok-comment.ensures.forest,
      c.in_ok-comment.ensures.number,
      c.requires,
      c.get_document-document.ensures,
    )
    (node_before 0 1 2 _ refl refl)
