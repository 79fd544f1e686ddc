use Rattle.std.proofs.Common.{◌≤◌, ap, arith, length, sym, ◌∙◌}
use Rattle.tree_model.proofs.MadeAnewLemmas.{all_made}
use Rattle.html_tree_state.proofs.construction.Construction.reconstruct_active_formatting_elements.Goals as goal

pub returns-clause-seen : goal.returns-clause-seen
returns-clause-seen g c =
    let tree = g.S.TreeSink in
    let within : length c.forward.self.held.entries ≤ c.forward.index
    = omega (arith, ap length (c.as_slice.ensures ∙ c.formatting.ensures), c.forward-test.false) in
    sym (all_made tree.view c.forward.index c.forward.self.held c.forward.self.sink within)
    ∙ c.forward.invariant.same
