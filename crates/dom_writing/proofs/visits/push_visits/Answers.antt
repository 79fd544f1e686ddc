use Rattle.html_render_dom.specs.ChildNodes.{children_left}
use Rattle.dom_writing.proofs.TurnLemmas.{visits-put}
use Rattle.dom_writing.proofs.visits.push_visits.Goals as goal

pub returns : goal.returns
returns c = visits-put c.args.turns.now.items c.push.new.self.items (children_left c.args.nodes)
    (children_left c.next.new.self) c.in-Some.first c.in-Some.ensures.steps c.in_ok-push.ensures.items
