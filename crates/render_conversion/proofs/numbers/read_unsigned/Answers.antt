use Rattle.std.proofs.Common.{◌∙◌}
use Rattle.render_conversion.proofs.NumberLemmas.{unsigned_read}
use Rattle.render_conversion.proofs.numbers.read_unsigned.Goals as goal

pub returns : goal.returns
returns c =
    c.ok.ensures.value
    ∙ unsigned_read c.args.text.now c.parse.result c.utf8.text c.parse.ensures.value.0
