use Rattle.std.proofs.Common.{◌≡◌, subst}
use Rattle.tree_formatting.specs.Entries.{entries_of, handed_over}
use Rattle.tree_model.specs.Building.{Parts}
use Rattle.tree_model.proofs.held.Held.hand_over.Goals as goal

pub returns-clause-entries : goal.returns-clause-entries
returns-clause-entries g c = subst
    (λ (p : Parts g.row.H.Denot). entries_of g.S.TreeSink.view.number c.hand_over.new.self
    ≡ handed_over (g.S.TreeSink.view.number c.args.element) (g.S.TreeSink.view.number c.args.to)
    (entries_of g.S.TreeSink.view.number p.entries))
    c.self.view_is c.hand_over.ensures
