use Rattle.article_definitions.proofs.BlocksCalled.{lines_called}
use Rattle.article_definitions.proofs.laws.calls_of_an_article.Goals as goal

pub returns : goal.returns
returns c = λ o width a. lines_called c.normal_lines_keep_markers.ensures o width a
