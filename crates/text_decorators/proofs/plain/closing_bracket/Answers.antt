use Rattle.std.specs.Str.{chars}
use Rattle.text_decorators.proofs.plain.closing_bracket.Goals as goal

pub returns : goal.returns
unfolding chars
returns c = c.literal.ensures
