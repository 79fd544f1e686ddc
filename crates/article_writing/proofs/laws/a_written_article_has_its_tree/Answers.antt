use Rattle.std.proofs.Common.{◌∙◌}
use Rattle.article_writing.proofs.laws.a_written_article_has_its_tree.Goals as goal
use Rattle.article_writing.specs.Contents.{content_of_blocks}

pub returns : goal.returns
returns g c = λ handle table scripting knows title blocks forest quirks faultless tree.
    let are = c.accepted_articles_are_documents.ensures in
    c.a_written_page_has_its_tree.ensures handle table scripting knows title (content_of_blocks blocks) forest quirks
    (are.no_nul title blocks faultless) (are.no_return title blocks faultless) (are.blocks title blocks faultless) tree
    ∙ c.a_documents_tree_at_once.ensures title (content_of_blocks blocks)
