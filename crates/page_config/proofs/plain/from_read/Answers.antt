use Rattle.std.proofs.Common.{ap, refl}
use Rattle.std.proofs.lemmas.Result.{IfOk-weaker}
use Rattle.text_decorators.specs.Steady.{plain_is_steady}
use Rattle.page_config.proofs.PlainLemmas.{plain_answer, emitted_text}
use Rattle.page_config.proofs.plain.from_read.Goals as goal
use Rattle.page_config.specs.PageAnswers.{fail, too_narrow}
use Rattle.page_config.specs.Settings.{bare_setting}

pub returns-clause-text : goal.returns-clause-text
returns-clause-text g c = emitted_text c.args.table (bare_setting c.in_ok-plain.field-0) c.args.width
    (g.R.ByteReader.remaining c.args.input.now) c.string_from_read.result c.in_ok-plain.ensures.plain
    c.string_from_read.ensures.text

pub returns-clause-narrow : goal.returns-clause-narrow
returns-clause-narrow g c = λ e. plain_answer c.args.table (bare_setting c.in_ok-plain.field-0) c.args.width
    (g.R.ByteReader.remaining c.args.input.now) too_narrow c.in_ok-plain.ensures.plain
    (c.string_from_read.ensures.narrow e)

pub returns-clause-fail : goal.returns-clause-fail
returns-clause-fail g c = λ e. plain_answer c.args.table (bare_setting c.in_ok-plain.field-0) c.args.width
    (g.R.ByteReader.remaining c.args.input.now) fail c.in_ok-plain.ensures.plain (c.string_from_read.ensures.fail e)

pub returns-clause-within : goal.returns-clause-within
returns-clause-within g c = IfOk-weaker c.string_from_read.result _ _
    (λ text within wide. within (λ _ _. tt) (λ h m a given. refl) plain_is_steady
    (ap (λ o. o.allow_width_overflow) c.in_ok-plain.ensures.plain.options)
    (ap (λ o. o.wrap_links) c.in_ok-plain.ensures.plain.options) wide)
    c.string_from_read.ensures.within
