use Rattle.std.proofs.Common.{chars, string_bytes}
use Rattle.std.proofs.lemmas.Result.{on_ok_weaker}
use Rattle.html_render_dom.specs.ChildNodes.{children_left}
use Rattle.test_tree_lines.specs.ToCome.{lines_to_come}
use Rattle.test_tree_lines.proofs.ComingLemmas.{next_step}
use Rattle.test_tree_lines.proofs.coming.push_first.Goals as goal

pub returns : goal.returns
returns c =
    let f = c.args.dom.now.forest in
    on_ok_weaker c.push_contents.result
    (λ within. next_step f c.args.first c.in_ok-below.below (children_left c.children.result)
    (chars (string_bytes c.args.lines.now)) (chars (string_bytes c.push_node.new.lines)) c.args.coming.now.items
    c.push_contents.new.coming.items (lines_to_come f c.push_row.new.coming.items)
    (lines_to_come f c.push_row-2.new.coming.items)
    (λ level n. c.lines_go_one_step_on.ensures f level n c.document.ensures.forest) c.in_ok-below.ensures
    c.children.ensures c.in_ok-push_node.ensures (c.in_ok-push_row.ensures f) (c.in_ok-push_row-2.ensures f) within)
    c.push_contents.ensures
