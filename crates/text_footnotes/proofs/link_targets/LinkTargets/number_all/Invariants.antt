use Rattle.std.proofs.Common.{◌≡◌, ◌-◌, length}
use Rattle.text_footnotes.specs.Links.{all_targets}
use Rattle.text_footnotes.proofs.link_targets.LinkTargets.number_all.Given as goal

abbrev pub invariant-more : goal.invariant-more
invariant-more l = all_targets l.self ≡ all_targets l.initial.self

abbrev pub decreases-more : goal.decreases-more
decreases-more l = length l.self.targets.items - l.self.numbered
