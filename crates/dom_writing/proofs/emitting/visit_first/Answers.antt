use Rattle.html_render_dom.specs.ChildNodes.{children_left}
use Rattle.dom_writing.proofs.StepLemmas.{cut_of, none_err, step_of}
use Rattle.dom_writing.proofs.TurnLemmas.{row-calls, row-ready}
use Rattle.dom_writing.proofs.emitting.visit_first.Goals as goal

pub returns-in_err-push_visits-clause-err : goal.returns-in_err-push_visits-clause-err
returns-in_err-push_visits-clause-err g c =
    none_err g.S.Serializer.means _ _ c.from_residual.result c.from_residual.ensures.1

pub visit-requires : goal.visit-requires
visit-requires g c = (
  c.requires.0,
  row-ready c.args.dom.now.forest c.args.turns.now.items c.push_visits.new.turns.items c.args.node
      (children_left c.args.others) c.in_ok-push_visits.ensures c.requires.1.0 c.requires.1.1,
)

pub returns-clause-ok : goal.returns-clause-ok
returns-clause-ok g c =
    step_of g.S.Serializer.means c.args.dom.now.forest _ _ _ _ _ c.visit.result
    (row-calls c.args.dom.now.forest c.args.turns.now.items c.push_visits.new.turns.items c.args.node
    (children_left c.args.others) c.in_ok-push_visits.ensures)
    c.visit.ensures.ok

pub returns-clause-err : goal.returns-clause-err
returns-clause-err g c =
    cut_of g.S.Serializer.means _ _ _ _ c.visit.result
    (row-calls c.args.dom.now.forest c.args.turns.now.items c.push_visits.new.turns.items c.args.node
    (children_left c.args.others) c.in_ok-push_visits.ensures)
    c.visit.ensures.err
