use Rattle.std.proofs.Common.{chars, subst}
use Rattle.std.proofs.lemmas.Iterator.{YieldsList-from_chars}
use Rattle.std.proofs.lemmas.Iterator.Consumers.{YieldsList-turn, YieldsList-end}
use Rattle.text_lines.specs.Tagged.{tagged}
use Rattle.text_normal.specs.NormalStates.{Cuts}
use Rattle.text_pieces.proofs.ElementLemmas.{all_taken}
use Rattle.text_normal.proofs.NormalFilling.{cuts_nothing, next_letter}
use Rattle.text_normal.proofs.filling.Filling.cut_text.Goals as goal

pub loop-c-init : goal.loop-c-init
loop-c-init g c = cuts_nothing g.T.EqualCopy.seen c.args.self.now

pub loop-c-preserved : goal.loop-c-preserved
loop-c-preserved g c =
    let s = c.args.text.now in
    let t = YieldsList-turn (YieldsList-from_chars s c.utf8.text cc) c.loop-c.yielded _
    c.loop-c.yielded_by _ _ c.in-Some.c c.in-Some.is c.next.ensures.steps in
    next_letter g.T.EqualCopy.seen c.args.self.now c.loop-c.self _ (chars s) c.loop-c.yielded c.in-Some.c c.in-Some.c _
    t c.loop-c.invariant c.in_ok-add_char.ensures.laid

pub returns-clause-laid : goal.returns-clause-laid
returns-clause-laid g c =
    let s = c.args.text.now in
    let t = YieldsList-end (YieldsList-from_chars s c.utf8.text cc) c.loop-c.yielded _
    c.loop-c.yielded_by _ _ c.in-None.is c.next.ensures.steps in
    subst (λ cs. Cuts g.T.EqualCopy.seen c.args.self.now c.loop-c.self
    (tagged cs (g.T.EqualCopy.seen c.args.tag.now))) (all_taken (chars s) c.loop-c.yielded t.1)
    c.loop-c.invariant
