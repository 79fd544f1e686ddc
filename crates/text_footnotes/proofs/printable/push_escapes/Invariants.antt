use Rattle.std.proofs.Common.{◌≡◌, ◌++◌, chars, string_bytes, take}
use Rattle.text_footnotes.proofs.PrintableLemmas.{escapes}
use Rattle.text_footnotes.proofs.printable.push_escapes.Given as goal

abbrev pub invariant-loop-byte : goal.invariant-loop-byte
invariant-loop-byte l = chars (string_bytes l.text)
    ≡ chars (string_bytes l.fn.text) ++ escapes (take l.byte-index l.bytes)
