use Rattle.std.proofs.Common.{rules, sym, subst}
use Rattle.tree_forest.specs.Conditions.{IsPlace}
use Rattle.tree_model.proofs.PlaceLemmas.{here_there}
use Rattle.html_tree_state.proofs.construction.Construction.insertion_point.Goals as goal

pub returns-in-Some-clause-place : goal.returns-in-Some-clause-place
returns-in-Some-clause-place g c = search rules

pub returns-in-Some-clause-there : goal.returns-in-Some-clause-there
returns-in-Some-clause-there g c =
    subst (λ p. IsPlace p (g.S.TreeSink.view.forest c.args.self.now.sink)) (sym (returns-in-Some-clause-place g c))
    (here_there c.laws_of_forests.ensures _ c.requires)
