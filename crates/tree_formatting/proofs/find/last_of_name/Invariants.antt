use Rattle.std.proofs.Common.{◌≡◌, ℕ, length}
use Rattle.tree_formatting.specs.Entries.{entries_of, last_named}
use Rattle.tree_formatting.proofs.find.last_of_name.Given as goal

-- none of that name was passed
abbrev pub invariant-back : goal.invariant-back
invariant-back g l = (number : _ → ℕ) →
    last_named l.name (entries_of number l.rest) ≡ last_named l.name (entries_of number l.entries)

abbrev pub decreases-back : goal.decreases-back
decreases-back g l = length l.rest
