use Rattle.std.proofs.Common.{chars}
use Rattle.std.proofs.lemmas.Iterator.{YieldsList-from_chars}
use Rattle.std.proofs.lemmas.Iterator.Consumers.{YieldsList-turn, YieldsList-end}
use Rattle.tree_formatting.specs.Prints.{mixed}
use Rattle.tree_formatting.proofs.PrintLemmas.{all_taken, next_taken}
use Rattle.tree_formatting.proofs.prints.text_print.Goals as goal

pub loop-c-preserved : goal.loop-c-preserved
loop-c-preserved c =
    let text = c.args.text.now in
    let turn = YieldsList-turn (YieldsList-from_chars text c.utf8.text cc) c.loop-c.yielded _
    c.loop-c.yielded_by _ _ c.in-Some.c c.in-Some.is c.next.ensures.steps in
    next_taken mixed (chars text) c.loop-c.yielded c.in-Some.c c.in-Some.c turn c.args.print c.loop-c.taken
    c.mixed-taken.result c.loop-c.invariant c.mixed-taken.ensures

pub returns : goal.returns
returns c =
    let text = c.args.text.now in
    let end = YieldsList-end (YieldsList-from_chars text c.utf8.text cc) c.loop-c.yielded _
    c.loop-c.yielded_by _ _ c.in-None.is c.next.ensures.steps in
    all_taken mixed (chars text) c.loop-c.yielded end.1 c.args.print c.loop-c.taken c.loop-c.invariant
