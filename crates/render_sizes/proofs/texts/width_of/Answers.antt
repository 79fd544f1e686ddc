use Rattle.std.proofs.Common.{ap, ◌∙◌}
use Rattle.std.specs.Prelude.{unwrap_or}
use Rattle.text_lines.specs.Columns.{width_of}
use Rattle.render_sizes.proofs.texts.width_of.Goals as goal

pub returns : goal.returns
unfolding width_of
returns c = c.unwrap_or.ensures ∙ ap (λ o. unwrap_or o 0) c.columns.ensures
