use Rattle.written_document_laws.proofs.TreesWritten.{tree_written}
use Rattle.written_document_laws.proofs.laws.a_written_document_has_its_tree.Goals as goal

pub returns : goal.returns
returns g c = λ handle table knows last s title content final is alone keeps h blocks reading.
    tree_written handle c.documents_ask.ensures c.documents_rebuild.ensures
    (c.tree_construction_is_lawful.ensures handle) table knows last s title content final is alone keeps h blocks
    reading
