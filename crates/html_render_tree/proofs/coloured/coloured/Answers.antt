use Rattle.std.proofs.Common.{rules, string_bytes, subst, ◌∷◌}
use Rattle.html_render_tree.proofs.ColouredLemmas.{HasColouredLines, line_coloured, lines_coloured}
use Rattle.html_render_tree.specs.Coloured.{Colours}
use Rattle.html_render_tree.proofs.coloured.coloured.Goals as goal

pub lines-preserved : goal.lines-preserved
lines-preserved g c =
    let makes = Colours g.F.Fn c.args.colour_map.now in
    let before : HasColouredLines makes c.args.lines.now (c.in-Some.line.now ∷ c.in-Some.others.now)
    (string_bytes c.lines.text) =
    subst (λ left. HasColouredLines makes c.args.lines.now left (string_bytes c.lines.text))
    (search rules) c.lines.invariant in
    line_coloured makes c.args.lines.now c.in-Some.others.now c.in-Some.line.now (string_bytes c.lines.text)
    (string_bytes c.push_line.new.text) before c.in_ok-push_line.ensures

pub returns : goal.returns
returns g c = lines_coloured (Colours g.F.Fn c.args.colour_map.now) c.args.lines.now c.lines.rest.now
    (string_bytes c.lines.text) c.in_default.ensures.cases c.lines.invariant
