use Rattle.std.proofs.Common.{chars, string_bytes}
use Rattle.std.proofs.lemmas.Str.{IsUtf8-string_bytes}
use Rattle.test_fields.proofs.AddedLemmas.{is_pushed}
use Rattle.test_token_lines.proofs.AddedLines.{is_said}
use Rattle.test_token_lines.proofs.token_lines.TokenLines.add.Goals as goal

pub returns-in-CharacterTokens : goal.returns-in-CharacterTokens
returns-in-CharacterTokens c =
    let old = c.args.self.now in
    let said = string_bytes old.text in
    let new = string_bytes c.push_str.new.self in
    rw c.in-CharacterTokens.is (is_said c.push_str.result (chars (string_bytes old.lines)) (chars said) (chars new)
    c.in-CharacterTokens.text
    (is_pushed c.push_str.result said new c.as_str.result.now c.in-CharacterTokens.text (IsUtf8-string_bytes old.text)
    c.as_str.ensures c.push_str.ensures.bytes))
