use Rattle.std.proofs.Common.{arith}
use Rattle.std.specs.Str.{chars}
use Rattle.std.proofs.lemmas.Iterator.{YieldsList-from_chars}
use Rattle.std.proofs.lemmas.Iterator.Consumers.{YieldsList-turn, YieldsList-end}
use Rattle.text_lines.proofs.Widths.{columns-le-bytes, one_more, all_counted}
use Rattle.text_lines.proofs.tagged_string.columns_of.Goals as goal

pub overflow_add-columns : goal.overflow_add-columns
overflow_add-columns c =
    let t = YieldsList-turn (YieldsList-from_chars c.args.text.now c.utf8.text cc) c.loop-c.yielded _
    c.loop-c.yielded_by _ _ c.in-Some.c c.in-Some.is c.next.ensures.steps in
    let more = one_more (chars c.args.text.now) c.loop-c.yielded c.in-Some.c _ _ _ t c.loop-c.invariant
    c.columns.ensures c.unwrap_or-columns.ensures in
    omega (arith, more.1, columns-le-bytes c.args.text.now c.utf8.text)

pub loop-c-preserved : goal.loop-c-preserved
loop-c-preserved c =
    let t = YieldsList-turn (YieldsList-from_chars c.args.text.now c.utf8.text cc) c.loop-c.yielded _
    c.loop-c.yielded_by _ _ c.in-Some.c c.in-Some.is c.next.ensures.steps in
    (one_more (chars c.args.text.now) c.loop-c.yielded c.in-Some.c _ _ _ t c.loop-c.invariant c.columns.ensures
    c.unwrap_or-columns.ensures).0

pub returns : goal.returns
returns c =
    let t = YieldsList-end (YieldsList-from_chars c.args.text.now c.utf8.text cc) c.loop-c.yielded _
    c.loop-c.yielded_by _ _ c.in-None.is c.next.ensures.steps in
    all_counted (chars c.args.text.now) c.loop-c.yielded c.loop-c.columns t.1 c.loop-c.invariant
