use Rattle.std.proofs.Common.{refl}
use Rattle.article_writing.proofs.Accepted.{are_blocks, are_without}
use Rattle.article_writing.proofs.laws.accepted_articles_are_documents.Goals as goal

pub returns-clause-blocks : goal.returns-clause-blocks
returns-clause-blocks c = are_blocks

pub returns-clause-no_nul : goal.returns-clause-no_nul
returns-clause-no_nul c = are_without 0 refl

pub returns-clause-no_return : goal.returns-clause-no_return
returns-clause-no_return c = are_without 13 refl
