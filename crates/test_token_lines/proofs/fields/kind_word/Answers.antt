use Rattle.std.proofs.Common.{rules}
use Rattle.std.specs.Str.{chars}
use Rattle.test_token_lines.proofs.fields.kind_word.Goals as goal

pub returns-in-StartTag : goal.returns-in-StartTag
unfolding chars
returns-in-StartTag c = search rules

pub returns-in-EndTag : goal.returns-in-EndTag
unfolding chars
returns-in-EndTag c = search rules
