use Rattle.std.proofs.Common.{arith}
use Rattle.text_lines.proofs.Widths.{printable_counted}
use Rattle.text_lines.proofs.tagged_string.has_only_printable_ascii.Goals as goal

pub returns : goal.returns
returns c _ =
    printable_counted c.args.text.now c.as_bytes-byte-items.result.now c.as_bytes-byte-items.ensures.value
    (λ k inside. c.loop-byte.invariant k (omega (arith, inside)))
