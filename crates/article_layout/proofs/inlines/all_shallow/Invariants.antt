use Rattle.std.proofs.Common.{◌≡◌, drop}
use Rattle.article_layout.specs.Settings.{options_of}
use Rattle.article_definitions.specs.Layouts.{all_shallow}
use Rattle.article_values.specs.Views.{inlines_view}
use Rattle.article_layout.proofs.inlines.all_shallow.Given as goal

abbrev pub invariant-inlines : goal.invariant-inlines
invariant-inlines l =
    all_shallow (options_of l.options) (inlines_view l.inlines)
    ≡ all_shallow (options_of l.options) (inlines_view (drop l.inline-index l.inlines))
