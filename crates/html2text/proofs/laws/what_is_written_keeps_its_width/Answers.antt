use Rattle.std.proofs.Common.{ap}
use Rattle.text_decorators.specs.Laws.{rich_mark_tag}
use Rattle.text_decorators.specs.Steady.{plain_is_steady, rich_is_steady}
use Rattle.html2text.proofs.OneWay.{look_within}
use Rattle.html2text.proofs.laws.what_is_written_keeps_its_width.Goals as goal

pub returns : goal.returns
returns c = λ asked names bytes text wide has.
    let overflow = ap (λ o. o.allow_width_overflow) has.is.options in
    let wrap = ap (λ o. o.wrap_links) has.is.options in
    look_within asked.rich has.setting asked.width bytes text
    (λ t. c.a_text_keeps_its_width-2.ensures (λ _ m. rich_mark_tag m) has.setting asked.width bytes text rich_is_steady
    overflow wrap wide t)
    (λ t. c.a_text_keeps_its_width.ensures (λ _ _. tt) has.setting asked.width bytes text plain_is_steady overflow wrap
    wide t) has.has
