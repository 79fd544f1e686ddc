use Rattle.article_writing.proofs.BlocksRead.{same_blocks}
use Rattle.article_writing.proofs.laws.no_text_is_two_articles.Goals as goal
use Rattle.article_writing.specs.Contents.{content_of_blocks}

pub returns : goal.returns
returns c = λ title another blocks others faultless either fit fits same.
    let are = c.accepted_articles_are_documents.ensures in
    let both = c.no_text_is_two_documents.ensures title another (content_of_blocks blocks) (content_of_blocks others)
    (are.no_nul title blocks faultless) (are.no_nul another others either) (are.blocks title blocks faultless)
    (are.blocks another others either) same in
    (both.0, same_blocks title another blocks others faultless either fit fits both.1)
