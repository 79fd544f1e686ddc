use Rattle.std.proofs.Common.{None, ap, ◌∙◌}
use Rattle.tree_serializer.specs.Walks.{walk_text}
use Rattle.tree_serializer.specs.declared.options.TraversalScope.TheVariants.{ChildrenOnly}
use Rattle.written_document_laws.proofs.laws.a_written_document_is_written_back.Goals as goal

pub returns : goal.returns
returns g c = λ handle scripting table knows last s title content final is alone keeps h blocks reading.
    ap (walk_text scripting (ChildrenOnly None) 0)
    (c.a_written_document_has_its_tree.ensures handle table knows last s title content final is alone keeps h blocks
    reading)
    ∙ c.a_document_is_walked.ensures scripting title content blocks
