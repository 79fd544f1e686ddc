use Rattle.std.proofs.Common.{append_assoc, rules}
use Rattle.std.proofs.lemmas.Result.{IfOk-equal}
use Rattle.std.specs.Str.{chars}
use Rattle.test_token_lines.proofs.fields.push_if_given.Goals as goal

pub returns-in_ok-push_word-in-None : goal.returns-in_ok-push_word-in-None
unfolding chars
returns-in_ok-push_word-in-None c = search (rules, IfOk-equal, append_assoc)
