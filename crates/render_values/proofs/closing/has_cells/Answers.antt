use Rattle.std.proofs.Common.{◌∙◌}
use Rattle.render_values.proofs.CellLemmas.{any_cell_is}
use Rattle.render_values.proofs.closing.has_cells.Goals as goal

pub returns : goal.returns
returns c = c.any_cell.ensures ∙ any_cell_is c.args.nodes.now c.requires
