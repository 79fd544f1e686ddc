use Rattle.std.proofs.Common.{chars, ◌∙◌}
use Rattle.render_conversion.proofs.HidingLemmas.{blank_is}
use Rattle.render_conversion.proofs.hiding.is_blank.Goals as goal

pub returns : goal.returns
returns c = c.is_empty.ensures
    ∙ blank_is (chars c.args.text.now) c.trimmed.result.now c.trimmed.ensures.utf8 c.trimmed.ensures.rest
