use Rattle.article_page_laws.proofs.BlockValues.{values_of_article}
use Rattle.article_page_laws.proofs.conversion.articles_have_their_values.Goals as goal

pub returns : goal.returns
returns c = values_of_article
