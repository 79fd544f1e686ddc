use Rattle.html_render_dom.specs.ChildNodes.{children_left}
use Rattle.dom_writing.proofs.ComingLemmas.{row-put}
use Rattle.dom_writing.proofs.coming.row_of.Goals as goal

pub returns : goal.returns
returns c = row-put c.args.level (children_left c.args.nodes) (children_left c.next.new.self) c.in-Some.node
    c.in-Some.ensures.steps
