use Rattle.std.proofs.Common.{◌≡◌, drop}
use Rattle.article_layout.specs.Lines.{tag_of}
use Rattle.article_layout.specs.Seen.{said_of}
use Rattle.article_layout.specs.Settings.{options_of}
use Rattle.article_layout.specs.Walks.{said}
use Rattle.article_definitions.specs.Calls.{measure}
use Rattle.article_values.specs.Views.{inlines_view}
use Rattle.article_layout.proofs.inlines.+saying.Given as goal

abbrev pub invariant-say_inlines-inlines : goal.invariant-say_inlines-inlines
invariant-say_inlines-inlines l =
    said (options_of l.room.options) (measure (options_of l.room.options) l.room.width) (tag_of l.tag)
    (inlines_view l.inlines) (said_of l.fn.block l.fn.targets)
    ≡ said (options_of l.room.options) (measure (options_of l.room.options) l.room.width) (tag_of l.tag)
    (inlines_view (drop l.inline-index l.inlines)) (said_of l.block l.targets)
