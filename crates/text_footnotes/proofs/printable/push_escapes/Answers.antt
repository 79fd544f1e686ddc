use Rattle.std.proofs.Common.{◌++◌, ◌∙◌, ap, append-nil, chars, string_bytes, sym}
use Rattle.std.proofs.lemmas.List.{take_all}
use Rattle.std.proofs.lemmas.Str.{IsUtf8-string_bytes}
use Rattle.text_footnotes.proofs.PrintableLemmas.{escapes, pushed_escape}
use Rattle.text_footnotes.proofs.printable.push_escapes.Goals as goal

pub loop-byte-init : goal.loop-byte-init
loop-byte-init c = sym (append-nil (chars (string_bytes c.args.text.now)))

pub loop-byte-preserved : goal.loop-byte-preserved
loop-byte-preserved c = pushed_escape (chars (string_bytes c.args.text.now)) (string_bytes c.loop-byte.text)
    (string_bytes c.push_str.new.self) c.args.bytes.now c.loop-byte.byte-index c.loop-byte-test.true
    (IsUtf8-string_bytes c.loop-byte.text)
    (c.in_ok-push_str.ensures.bytes ∙ ap (λ l. string_bytes c.loop-byte.text ++ l) c.percent_encode_byte.ensures)
    c.loop-byte.invariant

pub returns : goal.returns
returns c = c.loop-byte.invariant ∙ ap (λ l. chars (string_bytes c.args.text.now) ++ escapes l)
    (take_all c.loop-byte.byte-index c.args.bytes.now c.loop-byte-test.false)
