use Rattle.std.proofs.Common.{chars, string_bytes, refl}
use Rattle.std.proofs.lemmas.Str.{IsUtf8-string_bytes}
use Rattle.std.proofs.lemmas.Result.{on_ok_weaker}
use Rattle.test_fields.specs.Escapes.{field_of}
use Rattle.test_fields.proofs.AddedLemmas.{after_one}
use Rattle.test_fields.proofs.lines.push_field.Goals as goal

pub returns : goal.returns
returns c =
    let old = string_bytes c.args.line.now in
    on_ok_weaker c.push_escaped.result
    (λ more. after_one old (string_bytes c.push.new.self) (string_bytes c.push_escaped.new.line)
    (field_of (chars c.args.text.now)) 9 refl (IsUtf8-string_bytes c.args.line.now) c.in_ok-push.ensures.bytes more)
    c.push_escaped.ensures
