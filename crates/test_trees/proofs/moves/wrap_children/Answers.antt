use Rattle.std.proofs.Common.{refl}
use Rattle.test_trees.proofs.Computed.{node_below, reparents}
use Rattle.test_trees.proofs.moves.wrap_children.Goals as goal

pub append-requires : goal.append-requires
append-requires g c =
    rw (c.in_ok-outer.ensures.forest, c.in_ok-outer.ensures.number, c.requires, c.get_document-document.ensures)
    (node_below 0 1 _ refl refl)

pub append-requires-2 : goal.append-requires-2
append-requires-2 g c =
    rw (
      c.in_ok-a.ensures.forest,
      c.in_ok-a.ensures.number,
      c.in_ok-append.ensures.forest,
      c.in_ok-outer.ensures.forest,
      c.in_ok-outer.ensures.number,
      c.requires,
      c.get_document-document.ensures,
    )
    (node_below 1 2 _ refl refl)

pub append-requires-3 : goal.append-requires-3
append-requires-3 g c =
    rw (
      c.in_ok-b.ensures.forest,
      c.in_ok-b.ensures.number,
      c.in_ok-append-2.ensures.forest,
      c.in_ok-a.ensures.forest,
      c.in_ok-a.ensures.number,
      c.in_ok-append.ensures.forest,
      c.in_ok-outer.ensures.forest,
      c.in_ok-outer.ensures.number,
      c.requires,
      c.get_document-document.ensures,
    )
    (node_below 1 3 _ refl refl)

pub reparent_children-requires : goal.reparent_children-requires
reparent_children-requires g c =
    rw (
      c.in_ok-inner.ensures.forest,
      c.in_ok-inner.ensures.number,
      c.in_ok-append-3.ensures.forest,
      c.in_ok-b.ensures.forest,
      c.in_ok-b.ensures.number,
      c.in_ok-append-2.ensures.forest,
      c.in_ok-a.ensures.forest,
      c.in_ok-a.ensures.number,
      c.in_ok-append.ensures.forest,
      c.in_ok-outer.ensures.forest,
      c.in_ok-outer.ensures.number,
      c.requires,
      c.get_document-document.ensures,
    )
    (reparents 1 4 _ refl)

pub append-requires-4 : goal.append-requires-4
append-requires-4 g c =
    rw (
      c.in_ok-reparent_children.ensures.forest,
      c.in_ok-inner.ensures.forest,
      c.in_ok-inner.ensures.number,
      c.in_ok-append-3.ensures.forest,
      c.in_ok-b.ensures.forest,
      c.in_ok-b.ensures.number,
      c.in_ok-append-2.ensures.forest,
      c.in_ok-a.ensures.forest,
      c.in_ok-a.ensures.number,
      c.in_ok-append.ensures.forest,
      c.in_ok-outer.ensures.forest,
      c.in_ok-outer.ensures.number,
      c.requires,
      c.get_document-document.ensures,
    )
    (node_below 1 4 _ refl refl)
