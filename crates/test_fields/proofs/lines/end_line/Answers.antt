use Rattle.std.proofs.Common.{[], ◌∷◌, encode_utf8, refl, string_bytes}
use Rattle.std.proofs.lemmas.Str.{IsUtf8-string_bytes}
use Rattle.test_fields.proofs.AddedLemmas.{chars-encode, is_pushed}
use Rattle.test_fields.proofs.lines.end_line.Goals as goal

pub returns : goal.returns
returns c =
    is_pushed c.push.result (string_bytes c.args.lines.now) (string_bytes c.push.new.self) (encode_utf8 10) (10 ∷ [])
    (IsUtf8-string_bytes c.args.lines.now) (chars-encode 10 refl) c.push.ensures.bytes
