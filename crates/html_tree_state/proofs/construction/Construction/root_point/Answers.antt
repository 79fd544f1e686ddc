use Rattle.std.proofs.Common.{List, subst}
use Rattle.tree_forest.specs.Orders.{IsIn}
use Rattle.tree_model.specs.Building.{stack_of}
use Rattle.html_tree_state.proofs.construction.Construction.root_point.Goals as goal

pub returns-in-Some-clause-there : goal.returns-in-Some-clause-there
returns-in-Some-clause-there g c =
    let number = g.S.TreeSink.view.number in
    c.laws_of_forests.ensures.element_there (number c.in-Some.root) (g.S.TreeSink.view.forest c.args.self.now.sink)
    (c.requires.elements (number c.in-Some.root)
    (subst (λ (o : List g.row.S-Handle.Denot). IsIn (number c.in-Some.root) (stack_of number o))
    c.open_elements.ensures (c.in-Some.ensures number).1))
