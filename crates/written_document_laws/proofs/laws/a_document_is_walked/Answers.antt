use Rattle.written_document_laws.proofs.WalkedDocuments.{walked_whole}
use Rattle.written_document_laws.proofs.laws.a_document_is_walked.Goals as goal

pub returns : goal.returns
returns c = walked_whole c.a_documents_tree_at_once.ensures
