use Rattle.std.proofs.Common.{Some, ap, map, sym, ◌∙◌}
use Rattle.std.specs.Option.{option_map}
use Rattle.text_borders.specs.Lines.{line_shown}
use Rattle.html_render_tree.proofs.closing.lines_of.Goals as goal

pub returns-clause-lines : goal.returns-clause-lines
returns-clause-lines g c =
    ap (option_map (map line_shown)) c.in_ok-lines.ensures.lines ∙ ap Some (sym c.in_ok-texts_of.ensures)
