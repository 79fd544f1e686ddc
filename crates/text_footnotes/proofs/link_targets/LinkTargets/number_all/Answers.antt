use Rattle.std.proofs.Common.{arith}
use Rattle.text_footnotes.proofs.LastLemmas.{one_numbered}
use Rattle.text_footnotes.proofs.link_targets.LinkTargets.number_all.Goals as goal

pub invariant_of-self-in-more-clause-sound : goal.invariant_of-self-in-more-clause-sound
invariant_of-self-in-more-clause-sound c =
    one_numbered c.more.self.targets.items c.more.self.numbered c.index.result.now c.note.new.numbers (omega (
      arith,
      c.len.ensures,
      c.more-test.true,
      c.more.self.targets.ok.0,
    )) c.index.ensures
    (c.in_ok-note.ensures.noted _ c.more.self.sound)
