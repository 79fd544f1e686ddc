use Rattle.std.proofs.Common.{string_bytes, length}
use Rattle.html_render_tree.proofs.ColouredLemmas.{HasColouredLines}
use Rattle.html_render_tree.specs.Coloured.{Colours}
use Rattle.html_render_tree.proofs.coloured.coloured.Given as goal

abbrev pub invariant-lines : goal.invariant-lines
invariant-lines g l = HasColouredLines (Colours g.F.Fn l.colour_map) l.lines l.rest (string_bytes l.text)

abbrev pub decreases-lines : goal.decreases-lines
decreases-lines g l = length l.rest
