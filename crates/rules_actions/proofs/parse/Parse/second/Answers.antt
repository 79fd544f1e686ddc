use Rattle.std.proofs.Common.{ap, slice_get, ◌∙◌}
use Rattle.rules_actions.proofs.OpenedLemmas.{at_one, is_second, second_is_there}
use Rattle.rules_actions.proofs.parse.Parse.second.Goals as goal

pub returns-clause-second : goal.returns-clause-second
returns-clause-second g c = is_second g.S.TreeSink.view.number c.args.self.now.tree.held.open_elements c.copied.result
    (c.copied.ensures ∙ (at_one _ c.get.result c.get.ensures.lookup.3
    ∙ ap (λ xs. slice_get xs 1) c.open_elements.ensures))

pub returns-clause-there : goal.returns-clause-there
returns-clause-there g c = second_is_there g.S.TreeSink.view.number c.args.self.now.tree.held.open_elements
    c.copied.result
    (c.copied.ensures ∙ (at_one _ c.get.result c.get.ensures.lookup.3
    ∙ ap (λ xs. slice_get xs 1) c.open_elements.ensures))
