use Rattle.written_document_laws.proofs.CalledDocuments.{called_whole}
use Rattle.written_document_laws.proofs.laws.a_document_is_emitted.Goals as goal

pub returns : goal.returns
returns c = called_whole
