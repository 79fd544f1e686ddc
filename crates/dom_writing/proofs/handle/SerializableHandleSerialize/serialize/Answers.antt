use Rattle.dom_writing.proofs.StepLemmas.{nothing_emitted}
use Rattle.dom_writing.proofs.handle.SerializableHandleSerialize.serialize.Goals as goal

pub returns-in_err-turns : goal.returns-in_err-turns
returns-in_err-turns g c = nothing_emitted g.S.Serializer.means _ _ c.from_residual.result c.from_residual.ensures.1
