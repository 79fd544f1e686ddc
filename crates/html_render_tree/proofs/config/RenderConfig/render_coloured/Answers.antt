use Rattle.std.proofs.Common.{string_bytes, subst}
use Rattle.html_render_tree.specs.Coloured.{AreColouredLines, Colours}
use Rattle.html_render_tree.proofs.config.RenderConfig.render_coloured.Goals as goal

pub returns-clause-text : goal.returns-clause-text
returns-clause-text g c = (
  c.in_ok-lines.lines.items,
  c.in_ok-lines.ensures.lines,
  subst (λ lines. AreColouredLines (Colours g.F.Fn c.args.colour_map) lines (string_bytes c.in_ok-coloured.field-0))
      c.as_slice.ensures.value c.in_ok-coloured.ensures,
)
