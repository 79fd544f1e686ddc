use Rattle.article_page_laws.proofs.InlinesWalked.{are_walked}
use Rattle.article_page_laws.proofs.walk.values_of_a_paragraph_are_its_calls.Goals as goal

pub returns : goal.returns
returns c = λ given decorates min_wrap held place targets tag block inlines filled quiet.
    are_walked given decorates min_wrap held inlines filled place targets tag block quiet
