use Rattle.std.proofs.Common.{◌∷◌, rules, string_bytes}
use Rattle.std.proofs.lemmas.Str.{IsUtf8-string_bytes}
use Rattle.std.specs.Fmt.{decimal}
use Rattle.test_fields.proofs.AddedLemmas.{is_added}
use Rattle.test_token_lines.proofs.AddedLines.{number_reads}
use Rattle.test_token_lines.proofs.fields.push_number.Goals as goal

pub returns : goal.returns
returns c =
    let number = 9 ∷ decimal c.args.number in
    is_added c.write.result (string_bytes c.args.lines.now) (string_bytes c.write.new.self) number number
    (IsUtf8-string_bytes c.args.lines.now) (number_reads c.args.number (search rules)) c.write.ensures.bytes
