use Rattle.written_document_laws.proofs.TreesAtOnce.{tree_at_once}
use Rattle.written_document_laws.proofs.laws.a_documents_tree_at_once.Goals as goal

pub returns : goal.returns
returns c = tree_at_once c.a_planted_tree_is_at_once.ensures
