use Rattle.document_laws.proofs.Documents.{documents_come}
use Rattle.document_laws.proofs.rebuilt.documents_rebuild.Goals as goal

pub returns : goal.returns
returns c = documents_come
