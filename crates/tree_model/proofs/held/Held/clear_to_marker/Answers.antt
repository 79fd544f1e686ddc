use Rattle.std.proofs.Common.{◌≡◌, ℕ, subst}
use Rattle.tree_formatting.specs.Entries.{before_marker, entries_of}
use Rattle.tree_model.specs.Building.{Parts}
use Rattle.tree_model.proofs.held.Held.clear_to_marker.Goals as goal

pub returns-clause-entries : goal.returns-clause-entries
returns-clause-entries g c = subst
    (λ (p : Parts g.row.H.Denot). (number : g.row.H.Denot → ℕ) →
    entries_of number c.clear_to_marker.new.self ≡ before_marker (entries_of number p.entries))
    c.self.view_is c.clear_to_marker.ensures
