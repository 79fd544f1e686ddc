use Rattle.std.proofs.Common.{refl, take}
use Rattle.tree_formatting.proofs.StepLemmas.{gives, over}
use Rattle.tree_formatting.proofs.iter.ActiveFormattingIterIterator.next.Goals as goal

pub returns-in_default-clause-steps : goal.returns-in_default-clause-steps
returns-in_default-clause-steps g c = (
  refl,
  over (take c.args.self.now.left c.args.self.now.entries.now)
      (c.last_element.ensures.none c.in_default.is),
)

pub returns-clause-steps : goal.returns-clause-steps
returns-clause-steps g c = (
  refl,
  gives (take c.args.self.now.left c.args.self.now.entries.now)
      c.in-Some.before.now c.in-Some.handle c.in-Some.tag c.in-Some.ensures.some,
)
