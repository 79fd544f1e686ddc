use Rattle.std.specs.Str.{chars}
use Rattle.text_decorators.proofs.default_marks.superscript_end.Goals as goal

pub returns : goal.returns
unfolding chars
returns c = c.literal.ensures
