use Rattle.document_laws.proofs.WholeStates.{blocks_whole}
use Rattle.document_laws.proofs.rebuilt.blocks_rebuild.Goals as goal

pub returns : goal.returns
returns c = blocks_whole
