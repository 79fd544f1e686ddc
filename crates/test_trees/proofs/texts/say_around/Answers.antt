use Rattle.std.proofs.Common.{◌≡◌, [], refl}
use Rattle.tree_forest.specs.Changes.{detached}
use Rattle.test_trees.specs.Pages.{one_element, said_four, said_one, said_three, said_two}
use Rattle.test_trees.proofs.Computed.{node_below, words_below}
use Rattle.test_trees.proofs.Said.{four_is, gone_at, one_at, one_is, page_is, three_at, three_is, two_at, two_is}
use Rattle.test_trees.proofs.texts.say_around.Goals as goal

pub append-requires : goal.append-requires
append-requires g c =
    rw (c.in_ok-a.ensures.forest, c.in_ok-a.ensures.number, c.requires, c.get_document-document.ensures)
    (node_below 0 1 _ refl refl)

pub append-requires-2 : goal.append-requires-2
append-requires-2 g c =
    let s = g.S.TreeSink in
    let name = c.args.name in
    let d = c.get_document-document.ensures in
    let n : s.view.number c.in_ok-a.a ≡ 1 = rw (c.in_ok-a.ensures.number, c.requires) refl in
    let p0 : s.view.forest c.append.new.self ≡ one_element name =
    rw (c.in_ok-append.ensures.forest, c.in_ok-a.ensures.forest, c.new.ensures, n, c.requires, d) refl in
    rw (p0, d) (words_below 0 [] (one_element name) refl)

pub append-requires-3 : goal.append-requires-3
append-requires-3 g c =
    let s = g.S.TreeSink in
    let name = c.args.name in
    let d = c.get_document-document.ensures in
    let n : s.view.number c.in_ok-a.a ≡ 1 = rw (c.in_ok-a.ensures.number, c.requires) refl in
    let p0 : s.view.forest c.append.new.self ≡ one_element name =
    rw (c.in_ok-append.ensures.forest, c.in_ok-a.ensures.forest, c.new.ensures, n, c.requires, d) refl in
    let p1 : s.view.forest c.append-2.new.self ≡ said_one name =
    rw (c.in_ok-append-2.ensures.forest, d, c.in_ok-first.ensures, p0) (one_is name) in
    rw (p1, d) (one_at name)

pub append_before_sibling-requires : goal.append_before_sibling-requires
append_before_sibling-requires g c =
    let s = g.S.TreeSink in
    let name = c.args.name in
    let d = c.get_document-document.ensures in
    let n : s.view.number c.in_ok-a.a ≡ 1 = rw (c.in_ok-a.ensures.number, c.requires) refl in
    let p0 : s.view.forest c.append.new.self ≡ one_element name =
    rw (c.in_ok-append.ensures.forest, c.in_ok-a.ensures.forest, c.new.ensures, n, c.requires, d) refl in
    let p1 : s.view.forest c.append-2.new.self ≡ said_one name =
    rw (c.in_ok-append-2.ensures.forest, d, c.in_ok-first.ensures, p0) (one_is name) in
    let p2 : s.view.forest c.append-3.new.self ≡ said_two name =
    rw (c.in_ok-append-3.ensures.forest, d, c.in_ok-second.ensures, p1) (two_is name) in
    rw (p2, n) (two_at name)

pub append_based_on_parent_node-requires : goal.append_based_on_parent_node-requires
append_based_on_parent_node-requires g c =
    let s = g.S.TreeSink in
    let name = c.args.name in
    let d = c.get_document-document.ensures in
    let n : s.view.number c.in_ok-a.a ≡ 1 = rw (c.in_ok-a.ensures.number, c.requires) refl in
    let p0 : s.view.forest c.append.new.self ≡ one_element name =
    rw (c.in_ok-append.ensures.forest, c.in_ok-a.ensures.forest, c.new.ensures, n, c.requires, d) refl in
    let p1 : s.view.forest c.append-2.new.self ≡ said_one name =
    rw (c.in_ok-append-2.ensures.forest, d, c.in_ok-first.ensures, p0) (one_is name) in
    let p2 : s.view.forest c.append-3.new.self ≡ said_two name =
    rw (c.in_ok-append-3.ensures.forest, d, c.in_ok-second.ensures, p1) (two_is name) in
    let p3 : s.view.forest c.append_before_sibling.new.self ≡ said_three name =
    rw (c.in_ok-append_before_sibling.ensures.forest, n, c.in_ok-third.ensures, p2) (three_is name) in
    rw (p3, n, d) (three_at name)

pub append_based_on_parent_node-requires-2 : goal.append_based_on_parent_node-requires-2
append_based_on_parent_node-requires-2 g c =
    let s = g.S.TreeSink in
    let name = c.args.name in
    let d = c.get_document-document.ensures in
    let n : s.view.number c.in_ok-a.a ≡ 1 = rw (c.in_ok-a.ensures.number, c.requires) refl in
    let p0 : s.view.forest c.append.new.self ≡ one_element name =
    rw (c.in_ok-append.ensures.forest, c.in_ok-a.ensures.forest, c.new.ensures, n, c.requires, d) refl in
    let p1 : s.view.forest c.append-2.new.self ≡ said_one name =
    rw (c.in_ok-append-2.ensures.forest, d, c.in_ok-first.ensures, p0) (one_is name) in
    let p2 : s.view.forest c.append-3.new.self ≡ said_two name =
    rw (c.in_ok-append-3.ensures.forest, d, c.in_ok-second.ensures, p1) (two_is name) in
    let p3 : s.view.forest c.append_before_sibling.new.self ≡ said_three name =
    rw (c.in_ok-append_before_sibling.ensures.forest, n, c.in_ok-third.ensures, p2) (three_is name) in
    let p4 : s.view.forest c.append_based_on_parent_node.new.self ≡ said_four name =
    rw (c.in_ok-append_based_on_parent_node.ensures.forest, n, d, c.in_ok-fourth.ensures, p3) (four_is name) in
    let p5 : s.view.forest c.remove_from_parent.new.self ≡ detached 1 (said_four name) =
    rw (c.in_ok-remove_from_parent.ensures.forest, n, p4) refl in
    rw (p5, n, d) (gone_at name)

pub returns : goal.returns
returns g c =
    let s = g.S.TreeSink in
    let name = c.args.name in
    let d = c.get_document-document.ensures in
    let n : s.view.number c.in_ok-a.a ≡ 1 = rw (c.in_ok-a.ensures.number, c.requires) refl in
    let p0 : s.view.forest c.append.new.self ≡ one_element name =
    rw (c.in_ok-append.ensures.forest, c.in_ok-a.ensures.forest, c.new.ensures, n, c.requires, d) refl in
    let p1 : s.view.forest c.append-2.new.self ≡ said_one name =
    rw (c.in_ok-append-2.ensures.forest, d, c.in_ok-first.ensures, p0) (one_is name) in
    let p2 : s.view.forest c.append-3.new.self ≡ said_two name =
    rw (c.in_ok-append-3.ensures.forest, d, c.in_ok-second.ensures, p1) (two_is name) in
    let p3 : s.view.forest c.append_before_sibling.new.self ≡ said_three name =
    rw (c.in_ok-append_before_sibling.ensures.forest, n, c.in_ok-third.ensures, p2) (three_is name) in
    let p4 : s.view.forest c.append_based_on_parent_node.new.self ≡ said_four name =
    rw (c.in_ok-append_based_on_parent_node.ensures.forest, n, d, c.in_ok-fourth.ensures, p3) (four_is name) in
    let p5 : s.view.forest c.remove_from_parent.new.self ≡ detached 1 (said_four name) =
    rw (c.in_ok-remove_from_parent.ensures.forest, n, p4) refl in
    rw (c.in_ok-append_based_on_parent_node-2.ensures.forest, n, d, c.in_ok-fifth.ensures, p5) (page_is name)
