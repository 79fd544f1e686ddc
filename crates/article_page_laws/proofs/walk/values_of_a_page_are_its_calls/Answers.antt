use Rattle.article_page_laws.proofs.ArticlesWalked.{page_walked}
use Rattle.article_page_laws.proofs.walk.values_of_a_page_are_its_calls.Goals as goal

pub returns : goal.returns
returns c = λ given decorates min_wrap held width blocks filled.
    page_walked given decorates min_wrap held width blocks filled
