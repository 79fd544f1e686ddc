use Rattle.std.proofs.Common.{chars, refl, string_bytes}
use Rattle.std.proofs.lemmas.Str.{IsUtf8-string_bytes}
use Rattle.test_fields.proofs.AddedLemmas.{is_pushed}
use Rattle.test_fields.proofs.lines.push_word.Goals as goal

pub returns : goal.returns
returns c =
    let word = c.args.word.now in
    is_pushed c.push_str.result (string_bytes c.args.lines.now) (string_bytes c.push_str.new.self) word (chars word)
    (IsUtf8-string_bytes c.args.lines.now) refl c.push_str.ensures.bytes
