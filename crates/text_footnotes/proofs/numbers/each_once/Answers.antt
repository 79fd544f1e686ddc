use Rattle.std.proofs.Common.{ap, is_some, sym, ◌∙◌}
use Rattle.std.specs.Vec.Iter.{into_iter_items}
use Rattle.text_footnotes.proofs.OnceLemmas.{noted_one}
use Rattle.text_footnotes.proofs.numbers.each_once.Goals as goal

pub targets-preserved-in-Continue-branch-2 : goal.targets-preserved-in-Continue-branch-2
targets-preserved-in-Continue-branch-2 c = record {
  noting = noted_one c.args.targets.items c.targets.noted.items c.push.new.self.items
      (into_iter_items c.targets.target-iterator) (into_iter_items c.next.new.self) c.in-Some.target c.targets.numbers
      c.remove.new.self c.in_ok-push.ensures.items c.in-Some.ensures.steps.0
      (sym (ap is_some c.remove.ensures.value) ∙ (sym c.is_some.ensures ∙ c.if-is_some.true)) c.remove.ensures.updates
      c.targets.invariant.noting;
  can_next = tt;
  is_finite = tt;
}
