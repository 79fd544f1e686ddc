use Rattle.article_page_laws.proofs.SameLayouts as same
use Rattle.article_page_laws.proofs.plain.lines_stay.Goals as goal

pub returns : goal.returns
returns c = λ o width blocks unshared unprinted. same.lines_stay o unshared unprinted width blocks
