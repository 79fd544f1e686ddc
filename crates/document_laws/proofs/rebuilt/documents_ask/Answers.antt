use Rattle.document_laws.proofs.Asking.{documents_ask}
use Rattle.document_laws.proofs.rebuilt.documents_ask.Goals as goal

pub returns : goal.returns
returns c = documents_ask
