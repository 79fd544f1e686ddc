use Rattle.document_laws.proofs.WholeStates.{inlines_whole}
use Rattle.document_laws.proofs.rebuilt.inlines_rebuild.Goals as goal

pub returns : goal.returns
returns c = inlines_whole
