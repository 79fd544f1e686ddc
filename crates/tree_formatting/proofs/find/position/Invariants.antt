use Rattle.std.proofs.Common.{◌≡◌, ◌≤◌, drop, false, length}
use Rattle.tree_formatting.specs.Entries.{entries_of, is_listed}
use Rattle.tree_formatting.proofs.find.position.Given as goal

-- the element stands nowhere after
abbrev pub invariant-back : goal.invariant-back
invariant-back g l = (l.at ≤ length l.entries)
    × (is_listed (g.S.TreeSink.view.number l.target) (entries_of g.S.TreeSink.view.number (drop l.at l.entries))
    ≡ false)

abbrev pub decreases-back : goal.decreases-back
decreases-back g l = l.at
