use Rattle.article_answers.proofs.Answers.{as_itself}
use Rattle.article_answers.proofs.laws.an_article_is_laid_out_as_itself.Goals as goal

pub returns : goal.returns
returns f = λ c width title blocks bytes answer is w h.
    as_itself f.bytes_of_an_article_have_its_tree.ensures f.articles_have_their_values.ensures
    f.articles_are_laid.ensures c title blocks bytes is w width answer h
