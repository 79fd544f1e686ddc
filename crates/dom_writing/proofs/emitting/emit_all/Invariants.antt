use Rattle.std.proofs.Common.{length}
use Rattle.dom_writing.specs.Turns.{pending}
use Rattle.dom_writing.proofs.StepLemmas.{IsGoing}
use Rattle.dom_writing.proofs.emitting.emit_all.Given as goal

abbrev pub invariant-turns : goal.invariant-turns
invariant-turns g l =
    IsGoing g.S.Serializer.means l.dom.forest (g.S.Serializer.seen l.fn.serializer)
    (pending l.dom.forest l.fn.turns.items) (g.S.Serializer.seen l.serializer) l.turns.items

abbrev pub decreases-turns : goal.decreases-turns
decreases-turns g l = length (pending l.dom.forest l.turns.items)
