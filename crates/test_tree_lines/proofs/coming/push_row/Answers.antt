use Rattle.html_render_dom.specs.ChildNodes.{children_left}
use Rattle.test_tree_lines.proofs.ComingLemmas.{row_pushed}
use Rattle.test_tree_lines.proofs.coming.push_row.Goals as goal

pub returns : goal.returns
returns c f = row_pushed f c.args.coming.now.items c.push.new.self.items c.args.level (children_left c.args.row)
    (children_left c.next.new.self) c.in-Some.node c.in-Some.ensures.steps c.in_ok-push.ensures.items
