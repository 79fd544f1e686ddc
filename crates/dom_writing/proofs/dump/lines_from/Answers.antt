use Rattle.html_render_dom.specs.ChildNodes.{children_left}
use Rattle.html_render_dom.specs.Numbers.{number_of}
use Rattle.dom_writing.proofs.ComingLemmas.{first_to_come}
use Rattle.dom_writing.proofs.dump.lines_from.Goals as goal

pub nodes-init : goal.nodes-init
nodes-init c = first_to_come c.args.dom.now.forest (number_of c.args.target) (children_left c.children.result)
    c.in_ok-lines.lines c.push_line.new.lines c.new-coming.result.items c.row_of-next.result
    (λ level n. c.a_dump_goes_one_step_on.ensures c.args.dom.now.forest level n c.document.ensures.forest)
    c.in_ok-lines.ensures c.in_ok-push_line.ensures c.new-coming.ensures.items c.row_of-next.ensures
    c.children.ensures
