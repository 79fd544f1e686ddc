use Rattle.std.proofs.Common.{◌≡◌, drop, max}
use Rattle.article_layout.specs.Settings.{options_of}
use Rattle.article_definitions.specs.Layouts.{least_in}
use Rattle.article_values.specs.Views.{inlines_view}
use Rattle.article_layout.proofs.leasts.+measuring.Given as goal

abbrev pub invariant-least_in-inlines : goal.invariant-least_in-inlines
invariant-least_in-inlines l =
    max l.least (least_in (options_of l.options) (inlines_view (drop l.inline-index l.inlines)))
    ≡ least_in (options_of l.options) (inlines_view l.inlines)
