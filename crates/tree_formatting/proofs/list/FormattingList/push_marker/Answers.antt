use Rattle.std.proofs.Common.{ap, ◌∙◌}
use Rattle.tree_formatting.specs.Counted.{tags_of}
use Rattle.tree_formatting.proofs.CountLemmas.{counted_same, tags_of-marker}
use Rattle.tree_formatting.proofs.list.FormattingList.push_marker.Goals as goal

pub invariant_of-self-2 : goal.invariant_of-self-2
invariant_of-self-2 g c = counted_same c.self.inside.counts _ _
    (ap tags_of c.in_ok-push.ensures.items ∙ tags_of-marker c.self.inside.entries.items) c.self.invariant
