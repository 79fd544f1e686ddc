use Rattle.text_wrapping.proofs.NormalBlocks.{narrow_block}
use Rattle.text_wrapping.proofs.laws.narrow_normal_text.Goals as goal

pub returns : goal.returns
returns g c = λ width overflow source e.
    narrow_block width overflow source (λ wide. c.wide_text_never_fits.ensures width source wide) e
