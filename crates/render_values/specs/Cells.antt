-- Cells of a table among values.
use Rattle.std.specs.Prelude.{◌||◌, Bool, true, false}
use Rattle.render_values.specs.Values.{Values, none, value}
use Rattle.render_values.specs.declared.info.RenderInfo.{RenderInfo}
use Rattle.render_values.specs.declared.info.RenderInfo.TheVariants as infos

abbrev pub is_cell : RenderInfo → Bool
is_cell (infos.TableCell columns rows) = true
is_cell _ = false

-- some cell is there, at any depth
abbrev pub has_cells : Values → Bool
has_cells none = false
has_cells (value head inside rest) = is_cell head.info || (has_cells inside || has_cells rest)
