use Rattle.std.proofs.Common.{◌++◌, chars, length, take}
use Rattle.std.proofs.lemmas.Iterator.{YieldsList-from_chars}
use Rattle.std.proofs.lemmas.Iterator.Consumers.{YieldsList-end, YieldsList-turn}
use Rattle.content_widths.proofs.FlowLemmas.{all_read, next_read, nothing_read}
use Rattle.content_widths.proofs.reading.Reading.after_text.Goals as goal

pub loop-c-init : goal.loop-c-init
loop-c-init c = λ mode cs h. nothing_read c.args.self mode cs h

pub loop-c-preserved : goal.loop-c-preserved
loop-c-preserved c =
    let text = c.args.text.now in
    let t = YieldsList-turn (YieldsList-from_chars text c.utf8.text cc) c.loop-c.yielded _
    c.loop-c.yielded_by _ _ c.in-Some.c c.in-Some.is c.next.ensures.steps in
    λ mode cs h. next_read c.after-reading.result mode cs (chars text) c.loop-c.yielded c.in-Some.c c.in-Some.c t
    (c.after-reading.ensures mode (cs ++ take (length c.loop-c.yielded) (chars text))
    (c.loop-c.invariant mode cs h))

pub returns : goal.returns
returns c =
    let text = c.args.text.now in
    let t = YieldsList-end (YieldsList-from_chars text c.utf8.text cc) c.loop-c.yielded _
    c.loop-c.yielded_by _ _ c.in-None.is c.next.ensures.steps in
    λ mode cs h. all_read c.loop-c.reading mode cs (chars text) c.loop-c.yielded t.1 (c.loop-c.invariant mode cs h)
