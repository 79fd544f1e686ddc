use Rattle.std.proofs.Common.{length}
use Rattle.tree_formatting.proofs.CountingLemmas.{IsCounting}
use Rattle.tree_formatting.proofs.find.earliest_of_three.Given as goal

abbrev pub invariant-back : goal.invariant-back
invariant-back g l = IsCounting l.tag l.entries l.rest l.alike l.earliest

abbrev pub decreases-back : goal.decreases-back
decreases-back g l = length l.rest
