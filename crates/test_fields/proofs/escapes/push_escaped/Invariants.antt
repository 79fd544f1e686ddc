use Rattle.std.proofs.Common.{◌≡◌, ◌++◌, chars, length, string_bytes, take}
use Rattle.test_fields.specs.Escapes.{field_of}
use Rattle.test_fields.proofs.escapes.push_escaped.Given as goal

abbrev pub invariant-loop-c : goal.invariant-loop-c
invariant-loop-c l =
    chars (string_bytes l.line) ≡ chars (string_bytes l.fn.line) ++ field_of (take (length l.yielded) (chars l.text))
