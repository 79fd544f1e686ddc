use Rattle.text_wrapping.proofs.NormalBlocks.{block_lines_are}
use Rattle.text_wrapping.proofs.laws.normal_lines_of_a_block.Goals as goal

pub returns : goal.returns
returns g c = λ width overflow source lines none e.
    block_lines_are width overflow source lines
    (λ room. c.normal_lines_are_fullest.ensures width overflow source none room) e
