use Rattle.std.proofs.Common.{◌≡◌, length}
use Rattle.tree_formatting.specs.Entries.{entries_of, is_listed, up_to_marker}
use Rattle.tree_formatting.proofs.find.is_after_marker.Given as goal

-- it wasn't passed
abbrev pub invariant-back : goal.invariant-back
invariant-back g l = is_listed (g.S.TreeSink.view.number l.target)
    (up_to_marker (entries_of g.S.TreeSink.view.number l.rest))
    ≡ is_listed (g.S.TreeSink.view.number l.target) (up_to_marker (entries_of g.S.TreeSink.view.number l.entries))

abbrev pub decreases-back : goal.decreases-back
decreases-back g l = length l.rest
