use Rattle.std.proofs.Common.{◌≡◌, Some, refl, sym, ◌∙◌}
use Rattle.tree_forest.specs.Forest.{contents_of}
use Rattle.tree_forest.proofs.Nodes.{same_some}
use Rattle.test_trees.proofs.Computed.{node_below}
use Rattle.test_trees.proofs.elements.fill_template.Goals as goal

pub append-requires : goal.append-requires
append-requires g c =
    rw (c.in_ok-template.ensures.forest, c.in_ok-template.ensures.number, c.requires, c.get_document-document.ensures)
    (node_below 0 1 _ refl refl)

pub get_template_contents-contents-requires : goal.get_template_contents-contents-requires
get_template_contents-contents-requires g c = (
  2,
  rw (
    c.in_ok-a.ensures.forest,
    c.in_ok-append.ensures.forest,
    c.in_ok-template.ensures.forest,
    c.in_ok-template.ensures.number,
    c.requires,
    c.get_document-document.ensures,
  ) refl,
)

pub append-requires-2 : goal.append-requires-2
append-requires-2 g c =
    let s = g.S.TreeSink in
    let e : contents_of (s.view.number c.in_ok-template.template) (s.view.forest c.create_element-2.new.self) ≡ Some 2 =
    rw (
      c.in_ok-a.ensures.forest,
      c.in_ok-append.ensures.forest,
      c.in_ok-template.ensures.forest,
      c.in_ok-template.ensures.number,
      c.requires,
      c.get_document-document.ensures,
    ) refl in
    let n : s.view.number c.get_template_contents-contents.result ≡ 2 =
    same_some _ _ (sym c.get_template_contents-contents.ensures ∙ e) in
    rw (
      n,
      c.in_ok-a.ensures.forest,
      c.in_ok-a.ensures.number,
      c.in_ok-append.ensures.forest,
      c.in_ok-template.ensures.forest,
      c.in_ok-template.ensures.number,
      c.requires,
      c.get_document-document.ensures,
    )
    (node_below 2 3 _ refl refl)

pub append-requires-3 : goal.append-requires-3
append-requires-3 g c =
    let s = g.S.TreeSink in
    let e : contents_of (s.view.number c.in_ok-template.template) (s.view.forest c.create_element-2.new.self) ≡ Some 2 =
    rw (
      c.in_ok-a.ensures.forest,
      c.in_ok-append.ensures.forest,
      c.in_ok-template.ensures.forest,
      c.in_ok-template.ensures.number,
      c.requires,
      c.get_document-document.ensures,
    ) refl in
    let n : s.view.number c.get_template_contents-contents.result ≡ 2 =
    same_some _ _ (sym c.get_template_contents-contents.ensures ∙ e) in
    rw (
      c.in_ok-b.ensures.forest,
      c.in_ok-b.ensures.number,
      c.in_ok-append-2.ensures.forest,
      n,
      c.in_ok-a.ensures.forest,
      c.in_ok-a.ensures.number,
      c.in_ok-append.ensures.forest,
      c.in_ok-template.ensures.forest,
      c.in_ok-template.ensures.number,
      c.requires,
      c.get_document-document.ensures,
    )
    (node_below 1 4 _ refl refl)
