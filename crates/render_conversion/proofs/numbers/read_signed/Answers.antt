use Rattle.std.proofs.Common.{◌∙◌}
use Rattle.render_conversion.proofs.NumberLemmas.{signed_read}
use Rattle.render_conversion.proofs.numbers.read_signed.Goals as goal

pub returns : goal.returns
returns c =
    c.ok.ensures.value
    ∙ signed_read c.args.text.now c.parse.result c.utf8.text c.parse.ensures.value.0
