use Rattle.std.proofs.Common.{◌≡◌, length}
use Rattle.tree_model.specs.Building.{seen}
use Rattle.tree_model.specs.Scopes.{implied}
use Rattle.tree_names.specs.Wanted.{elements_of}
use Rattle.tree_model.specs.Sound.{Sound}
use Rattle.html_tree_state.proofs.construction.Construction.generate_implied_end_tags.Given as goal

abbrev pub invariant-loop-current : goal.invariant-loop-current
invariant-loop-current g l =
    let tree = g.S.TreeSink in
    let now = seen tree.view l.self.held l.self.sink in
    let first = seen tree.view l.initial.self.held l.initial.self.sink in
    record { sound : Sound now; same : implied (elements_of l.except) now ≡ implied (elements_of l.except) first }

abbrev pub decreases-loop-current : goal.decreases-loop-current
decreases-loop-current g l = length l.self.held.open_elements
