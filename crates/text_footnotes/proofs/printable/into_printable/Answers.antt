use Rattle.std.proofs.Common.{◌∙◌, ap, chars, string_bytes, sym}
use Rattle.std.proofs.lemmas.Iterator.{YieldsList-from_chars}
use Rattle.std.proofs.lemmas.Iterator.Consumers.{YieldsList-end, YieldsList-turn}
use Rattle.std.proofs.lemmas.Str.{IsUtf8-string_bytes, chars-nil}
use Rattle.std.specs.List.{list_any}
use Rattle.text_footnotes.specs.Printable.{is_unprintable}
use Rattle.text_footnotes.proofs.PrintableLemmas.{all_printable, next_printable, printable_same}
use Rattle.text_footnotes.proofs.printable.into_printable.Goals as goal

pub returns-then-not-has_unprintable : goal.returns-then-not-has_unprintable
returns-then-not-has_unprintable c = sym (printable_same (chars (string_bytes c.args.target))
    (ap (λ l. list_any is_unprintable (chars l)) (sym c.as_str.ensures.value)
    ∙ sym c.has_unprintable.ensures ∙ c.if-not-has_unprintable.true))

pub loop-c-init : goal.loop-c-init
loop-c-init c = ap chars c.in_ok-text.ensures.bytes ∙ chars-nil

pub loop-c-preserved : goal.loop-c-preserved
loop-c-preserved c =
    let text = string_bytes c.args.target in
    let t = YieldsList-turn (YieldsList-from_chars text (IsUtf8-string_bytes c.args.target) cc) c.loop-c.yielded _
    c.loop-c.yielded_by _ _ c.in-Some.c c.in-Some.is c.next.ensures.steps in
    next_printable (chars text) c.loop-c.yielded (chars (string_bytes c.loop-c.text))
    (chars (string_bytes c.push_printable.new.text)) c.in-Some.c c.in-Some.c t c.in_ok-push_printable.ensures
    c.loop-c.invariant

pub returns : goal.returns
returns c =
    let text = string_bytes c.args.target in
    let t = YieldsList-end (YieldsList-from_chars text (IsUtf8-string_bytes c.args.target) cc) c.loop-c.yielded _
    c.loop-c.yielded_by _ _ c.in-None.is c.next.ensures.steps in
    all_printable (chars text) c.loop-c.yielded (chars (string_bytes c.loop-c.text)) t.1 c.loop-c.invariant
