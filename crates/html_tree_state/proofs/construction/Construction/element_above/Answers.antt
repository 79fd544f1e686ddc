use Rattle.std.proofs.Common.{◌≡◌, List, false, subst, sym}
use Rattle.tree_forest.specs.Forest.{is_in}
use Rattle.tree_model.specs.Building.{stack_of}
use Rattle.html_tree_state.proofs.BlockWords.{none_above}
use Rattle.html_tree_state.proofs.construction.Construction.element_above.Goals as goal

pub returns-in-None : goal.returns-in-None
returns-in-None g c =
    let number = g.S.TreeSink.view.number in
    sym (none_above (number c.args.element) (stack_of number c.args.self.now.held.open_elements)
    (subst (λ (o : List g.row.S-Handle.Denot). is_in (number c.args.element) (stack_of number o) ≡ false)
    c.open_elements-open.ensures (c.position.ensures.missing c.in-None.is)))
