use Rattle.html_render_dom.specs.ChildNodes.{children_left}
use Rattle.render_conversion.specs.Styles.{styles_of}
use Rattle.render_conversion.proofs.StepLemmas.{row_done, row_open}
use Rattle.render_conversion.proofs.walk.visit_first.Goals as goal

pub visit-requires-clause-ordered : goal.visit-requires-clause-ordered
visit-requires-clause-ordered c =
    row_open c.args.place (children_left c.args.others) c.args.turns.now c.push_visits.new.turns
    c.args.nodes.now.items c.in_ok-push_visits.ensures c.requires.ordered

pub returns : goal.returns
returns c =
    row_done c.visit.result c.args.options (styles_of c.args.rules.now) c.args.dom.now.forest c.args.node
    (children_left c.args.others) c.args.place c.args.turns.now c.push_visits.new.turns c.visit.new.turns
    c.args.nodes.now.items c.visit.new.nodes.items
    (λ n ns. c.a_tree_goes_one_step_on.ensures.first c.args.dom.now.forest n ns c.requires.forest)
    c.in_ok-push_visits.ensures c.visit.ensures
