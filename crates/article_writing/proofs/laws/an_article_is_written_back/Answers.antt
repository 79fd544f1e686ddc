use Rattle.std.proofs.Common.{None, sym, ap, ◌∙◌}
use Rattle.tree_serializer.specs.Walks.{walk_text}
use Rattle.tree_serializer.specs.declared.options.TraversalScope.TheVariants.{ChildrenOnly}
use Rattle.article_writing.proofs.laws.an_article_is_written_back.Goals as goal
use Rattle.article_writing.specs.Contents.{content_of_blocks}

pub returns : goal.returns
returns c = λ scripting title blocks faultless.
    ap (walk_text scripting (ChildrenOnly None) 0)
    (sym (c.a_documents_tree_at_once.ensures title (content_of_blocks blocks)))
    ∙ c.a_document_is_walked.ensures scripting title (content_of_blocks blocks)
    (c.accepted_articles_are_documents.ensures.blocks title blocks faultless)
