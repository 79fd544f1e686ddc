use Rattle.article_page_laws.proofs.BlocksWalked.{blocks_walked}
use Rattle.article_page_laws.proofs.walk.values_of_blocks_are_their_calls.Goals as goal

pub returns : goal.returns
returns c = λ given decorates min_wrap held place targets block blocks filled.
    blocks_walked given decorates min_wrap held blocks filled place targets block
