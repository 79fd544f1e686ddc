use Rattle.std.proofs.Common.{rules}
use Rattle.std.specs.Str.{chars}
use Rattle.text_decorators.proofs.default_marks.superscript_start.Goals as goal

pub returns-clause-text : goal.returns-clause-text
unfolding chars
returns-clause-text g c = search rules
