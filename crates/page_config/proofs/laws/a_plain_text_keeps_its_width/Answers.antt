use Rattle.std.proofs.Common.{ap}
use Rattle.text_decorators.specs.Steady.{plain_is_steady}
use Rattle.page_config.proofs.laws.a_plain_text_keeps_its_width.Goals as goal

pub returns : goal.returns
returns c = λ table width bytes text wide has. c.a_text_keeps_its_width.ensures (λ _ _. tt) has.setting width bytes text
    plain_is_steady (ap (λ o. o.allow_width_overflow) has.plain.options) (ap (λ o. o.wrap_links) has.plain.options) wide
    has.has
