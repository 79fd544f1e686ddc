use Rattle.std.proofs.Common.{◌≡◌, ℕ, ◌∷◌, OnOk, subst}
use Rattle.tree_formatting.specs.Entries.{entries_of, marker}
use Rattle.tree_model.specs.Building.{Parts}
use Rattle.tree_model.proofs.held.Held.push_marker.Goals as goal

pub returns-clause-entries : goal.returns-clause-entries
returns-clause-entries g c = subst
    (λ (p : Parts g.row.H.Denot). OnOk c.push_marker.result ((number : g.row.H.Denot → ℕ) →
    entries_of number c.push_marker.new.self ≡ marker ∷ entries_of number p.entries))
    c.self.view_is c.push_marker.ensures.ok
