use Rattle.std.proofs.Common.{◌≡◌, ℕ, length}
use Rattle.tree_formatting.specs.Counted.{IsCounted, tags_of}
use Rattle.tree_formatting.specs.Entries.{before_marker, entries_of}
use Rattle.tree_formatting.proofs.taken.take_off_to_marker.Given as goal

-- elements alone were taken off, and are counted no longer
abbrev pub invariant-back : goal.invariant-back
invariant-back g l = ((number : _ → ℕ) →
    before_marker (entries_of number l.entries.items) ≡ before_marker (entries_of number l.fn.entries.items))
    × (IsCounted (tags_of l.fn.entries.items) l.fn.counts → IsCounted (tags_of l.entries.items) l.counts)

abbrev pub decreases-back : goal.decreases-back
decreases-back g l = length l.entries.items
