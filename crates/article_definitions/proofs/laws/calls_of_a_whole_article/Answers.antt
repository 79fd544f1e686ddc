use Rattle.article_definitions.proofs.NotesCalled.{whole_called}
use Rattle.article_definitions.proofs.laws.calls_of_a_whole_article.Goals as goal

pub returns : goal.returns
returns c = λ o width a. whole_called c.normal_lines_keep_markers.ensures o width a
