use Rattle.std.proofs.Common.{◌≡◌}
use Rattle.tree_model.specs.Adoption.{turns}
use Rattle.tree_model.specs.Building.{seen}
use Rattle.tree_model.specs.Sound.{Sound}
use Rattle.html_tree_state.proofs.construction.Construction.adoption_agency.Given as goal

abbrev pub invariant-turns : goal.invariant-turns
invariant-turns g l =
    let tree = g.S.TreeSink in
    let now = seen tree.view l.self.held l.self.sink in
    let first = seen tree.view l.initial.self.held l.initial.self.sink in
    record { sound : Sound now; same : turns l.left l.name now ≡ turns 8 l.name first }

abbrev pub decreases-turns : goal.decreases-turns
decreases-turns g l = l.left
