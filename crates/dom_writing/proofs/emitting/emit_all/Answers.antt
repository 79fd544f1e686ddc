use Rattle.std.proofs.Common.{vec_len}
use Rattle.dom_writing.proofs.StepLemmas.{going_done, going_falls, going_on, going_popped, going_ready, reply_err}
use Rattle.dom_writing.proofs.TurnLemmas.{none_popped}
use Rattle.dom_writing.proofs.emitting.emit_all.Goals as goal

pub emit-requires : goal.emit-requires
emit-requires g c = (
  c.requires.0,
  going_ready g.S.Serializer.means c.args.dom.now.forest _ _ _ c.turns.turns.items c.pop.new.self.items c.in-Some.turn
      c.in-Some.ensures.items c.turns.invariant,
)

pub turns-smaller : goal.turns-smaller
turns-smaller g c =
    going_falls g.S.Serializer.means c.args.dom.now.forest _ _ c.turns.turns.items c.pop.new.self.items
    c.emit.new.turns.items c.in-Some.turn c.in-Some.ensures.items c.in_ok-emit.ensures.ok

pub turns-preserved : goal.turns-preserved
turns-preserved g c =
    going_on g.S.Serializer.means c.args.dom.now.forest _ _ _ _ c.turns.turns.items c.pop.new.self.items
    c.emit.new.turns.items c.in-Some.turn c.in-Some.ensures.items c.turns.invariant c.in_ok-emit.ensures.ok

pub returns-in_err-emit : goal.returns-in_err-emit
returns-in_err-emit g c =
    reply_err g.S.Serializer.means _ _ _ c.in_err-emit.field-0.0 c.from_residual.result
    (going_popped g.S.Serializer.means c.args.dom.now.forest _ _ _ c.turns.turns.items c.pop.new.self.items
    c.in-Some.turn c.in-Some.ensures.items c.turns.invariant _ _ c.in_err-emit.ensures.err)
    c.from_residual.ensures.1

pub returns : goal.returns
returns g c =
    going_done g.S.Serializer.means c.args.dom.now.forest _ _ _ c.turns.turns.items
    (none_popped c.turns.turns.items c.pop.new.self.items (vec_len c.turns.turns) c.in_default.ensures.cases.0
    c.in_default.ensures.rest c.in_default.ensures.items)
    c.turns.invariant
