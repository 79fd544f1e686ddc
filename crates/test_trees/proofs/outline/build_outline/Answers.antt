use Rattle.std.proofs.Common.{refl}
use Rattle.test_trees.proofs.Computed.{node_below}
use Rattle.test_trees.proofs.outline.build_outline.Goals as goal

pub append-requires : goal.append-requires
append-requires g c =
    rw (
      c.in_ok-html.ensures.forest,
      c.in_ok-html.ensures.number,
      c.in_ok-append_doctype_to_document.ensures.forest,
      c.requires,
      c.get_document-document.ensures,
    )
    (node_below 0 2 _ refl refl)

pub append-requires-2 : goal.append-requires-2
append-requires-2 g c =
    rw (
      c.in_ok-head.ensures.forest,
      c.in_ok-head.ensures.number,
      c.in_ok-append.ensures.forest,
      c.in_ok-html.ensures.forest,
      c.in_ok-html.ensures.number,
      c.in_ok-append_doctype_to_document.ensures.forest,
      c.requires,
      c.get_document-document.ensures,
    )
    (node_below 2 3 _ refl refl)

pub append-requires-3 : goal.append-requires-3
append-requires-3 g c =
    rw (
      c.in_ok-body.ensures.forest,
      c.in_ok-body.ensures.number,
      c.in_ok-append-2.ensures.forest,
      c.in_ok-head.ensures.forest,
      c.in_ok-head.ensures.number,
      c.in_ok-append.ensures.forest,
      c.in_ok-html.ensures.forest,
      c.in_ok-html.ensures.number,
      c.in_ok-append_doctype_to_document.ensures.forest,
      c.requires,
      c.get_document-document.ensures,
    )
    (node_below 2 4 _ refl refl)
