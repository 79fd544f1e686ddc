use Rattle.std.proofs.Common.{◌∙◌, ap}
use Rattle.std.specs.Str.{chars}
use Rattle.render_conversion.specs.Kinds.{leaf}
use Rattle.render_values.specs.declared.info.RenderInfo.TheVariants.{Text}
use Rattle.render_conversion.proofs.meaning.word_break.Goals as goal

pub returns : goal.returns
unfolding chars
returns c = c.leaf.ensures ∙ ap (λ cs. leaf (Text cs)) c.in_ok-from_str.ensures
