use Rattle.std.proofs.Common.{ap}
use Rattle.std.proofs.lemmas.Result.{IfOk-weaker}
use Rattle.page_config.proofs.rich.from_read_rich.Goals as goal
use Rattle.text_decorators.specs.Laws.{rich_mark_tag, rich_tag_fits}
use Rattle.text_decorators.specs.Steady.{rich_is_steady}

pub returns-clause-within : goal.returns-clause-within
returns-clause-within g c = IfOk-weaker c.lines_from_read.result _ _
    (λ shown within wide. within (λ _ m. rich_mark_tag m) (λ h m a given. rich_tag_fits m a given) rich_is_steady
    (ap (λ s. s.rendering.options.allow_width_overflow) c.rich.ensures.setting)
    (ap (λ s. s.rendering.options.wrap_links) c.rich.ensures.setting) wide)
    c.lines_from_read.ensures.within
