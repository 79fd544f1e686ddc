use Rattle.std.proofs.Common.{ap, slice_get, ◌∙◌}
use Rattle.rules_actions.proofs.OpenedLemmas.{first_is_there, is_first}
use Rattle.rules_actions.proofs.parse.Parse.root.Goals as goal

pub returns-clause-root : goal.returns-clause-root
returns-clause-root g c = is_first g.S.TreeSink.view.number c.args.self.now.tree.held.open_elements c.copied.result
    (c.copied.ensures ∙ (c.first.ensures.value ∙ ap (λ xs. slice_get xs 0) c.open_elements.ensures))

pub returns-clause-there : goal.returns-clause-there
returns-clause-there g c = first_is_there g.S.TreeSink.view.number c.args.self.now.tree.held.open_elements
    c.copied.result
    (c.copied.ensures ∙ (c.first.ensures.value ∙ ap (λ xs. slice_get xs 0) c.open_elements.ensures))
