use Rattle.render_sizes.specs.Extents.{measure_of}
use Rattle.html_render_tree.specs.PageLines.{prefix_columns, sizing_by}
use Rattle.html_render_tree.proofs.config.RenderConfig.laid.Given as goal

abbrev pub ghost-laid : goal.ghost-laid
ghost-laid g a = sizing_by a.options (measure_of a.min_wrap_width
    (prefix_columns (g.D.TextDecorator.view.text (g.D.TextDecorator.view.held a.decorator))))
