-- What the values of articles are measured by.
use Rattle.article_definitions.specs.Layouts.{Options}
use Rattle.block_trait.specs.declared.options.RenderOptions.{RenderOptions}
use Rattle.html_render_tree.specs.PageLines.{sizing_by}
use Rattle.layout_values.specs.Sizing.{Sizing}
use Rattle.layout_state.specs.Items.{prefix_columns}
use Rattle.render_sizes.specs.Extents.{Measure, measure_of}
use Rattle.text_decorators.specs.Texts.{plain_text}

-- the prefixes of plain text, and so narrow may text be wrapped as the options say
abbrev pub plain_measure : Options → Measure
plain_measure o = measure_of o.min_wrap_width (prefix_columns plain_text)

-- Columns of tables, of which an article has none, may be fitted.
abbrev pub plain_sizing : RenderOptions → Options → Sizing
plain_sizing given o = sizing_by given (plain_measure o)
