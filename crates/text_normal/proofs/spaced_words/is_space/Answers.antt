use Rattle.std.proofs.Common.{sym, ◌∙◌}
use Rattle.text_normal.proofs.SpacedEnds.{space_only}
use Rattle.text_normal.proofs.spaced_words.is_space.Goals as goal

pub returns : goal.returns
returns c = λ e. space_only c.args.text.now (sym c.eq.ensures ∙ e)
