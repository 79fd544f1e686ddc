use Rattle.std.proofs.Common.{◌≡◌, ◌-◌, length}
use Rattle.tree_model.specs.Building.{seen}
use Rattle.tree_model.specs.Formatting.{made_from, reconstructed}
use Rattle.tree_model.specs.Sound.{Sound}
use Rattle.html_tree_state.proofs.construction.Construction.reconstruct_active_formatting_elements.Given as goal

abbrev pub invariant-forward : goal.invariant-forward
invariant-forward g l =
    let tree = g.S.TreeSink in
    let now = seen tree.view l.self.held l.self.sink in
    let first = seen tree.view l.initial.self.held l.initial.self.sink in
    record { sound : Sound now; same : made_from l.index now ≡ reconstructed first }

abbrev pub decreases-forward : goal.decreases-forward
decreases-forward g l = length l.self.held.entries - l.index
