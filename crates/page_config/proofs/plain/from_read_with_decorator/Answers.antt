use Rattle.std.proofs.Common.{ap}
use Rattle.std.proofs.lemmas.Result.{IfOk-weaker}
use Rattle.page_config.proofs.plain.from_read_with_decorator.Goals as goal

pub returns-clause-within : goal.returns-clause-within
returns-clause-within g c = IfOk-weaker c.string_from_read.result _ _
    (λ text within tag p steady wide. within tag p steady
    (ap (λ s. s.rendering.options.allow_width_overflow) c.with_decorator.ensures.setting)
    (ap (λ s. s.rendering.options.wrap_links) c.with_decorator.ensures.setting) wide)
    c.string_from_read.ensures.within
