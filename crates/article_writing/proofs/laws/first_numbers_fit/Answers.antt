use Rattle.article_writing.proofs.NumbersFitting.{blocks_fit}
use Rattle.article_writing.proofs.laws.first_numbers_fit.Goals as goal

pub returns : goal.returns
returns c = λ blocks. blocks_fit blocks
