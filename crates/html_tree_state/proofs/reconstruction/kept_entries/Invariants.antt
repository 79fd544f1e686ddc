use Rattle.std.proofs.Common.{◌≡◌, ◌≤◌, length, take}
use Rattle.tree_formatting.specs.Entries.{entries_of}
use Rattle.tree_model.specs.Building.{stack_of}
use Rattle.tree_model.specs.Formatting.{made_already}
use Rattle.html_tree_state.proofs.reconstruction.kept_entries.Given as goal

-- none of those that were passed stays
abbrev pub invariant-back : goal.invariant-back
invariant-back g l =
    let number = g.S.TreeSink.view.number in
    (l.at ≤ length l.entries)
    × (made_already (stack_of number l.elements) (entries_of number (take l.at l.entries))
    ≡ made_already (stack_of number l.elements) (entries_of number l.entries))

abbrev pub decreases-back : goal.decreases-back
decreases-back g l = l.at
