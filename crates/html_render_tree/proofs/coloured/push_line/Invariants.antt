use Rattle.std.proofs.Common.{string_bytes}
use Rattle.text_lines.specs.Iterating.{strings_left}
use Rattle.text_lines.specs.Tagged.{line_strings}
use Rattle.html_render_tree.proofs.ColouredLemmas.{HasColoured}
use Rattle.html_render_tree.specs.Coloured.{Colours}
use Rattle.html_render_tree.proofs.coloured.push_line.Given as goal

abbrev pub invariant-strings : goal.invariant-strings
invariant-strings g l =
    HasColoured (Colours g.F.Fn l.colour_map) (line_strings l.line) (strings_left l.string-iterator)
    (string_bytes l.fn.text) (string_bytes l.text)
