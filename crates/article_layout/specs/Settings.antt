-- What contracts see of how lines are laid out.
use Rattle.article_layout.specs.declared.options.LineOptions.{LineOptions}
use Rattle.article_definitions.specs.Layouts.{Options}

abbrev pub options_of : LineOptions → Options
options_of o = record {
  wrap_width = o.wrap_width;
  pads = o.pads;
  decorates = o.decorates;
  footnotes = o.footnotes;
  shares_footnotes = o.shares_footnotes;
  prints_targets = o.prints_targets;
  wraps_links = o.wraps_links;
  min_wrap_width = o.min_wrap_width;
}
