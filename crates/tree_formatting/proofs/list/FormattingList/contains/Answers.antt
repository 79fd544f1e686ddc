use Rattle.std.proofs.Common.{ap, ◌∙◌}
use Rattle.tree_formatting.specs.Entries.{entries_of, is_listed}
use Rattle.tree_formatting.proofs.PlaceLemmas.{is_found}
use Rattle.tree_formatting.proofs.list.FormattingList.contains.Goals as goal

pub returns : goal.returns
returns g c = c.is_some.ensures
    ∙ is_found g.S.TreeSink.view.number (g.S.TreeSink.view.number c.args.target) c.as_slice.result.now c.position.result
    c.position.ensures.found c.position.ensures.missing
    ∙ ap (λ v. is_listed (g.S.TreeSink.view.number c.args.target) (entries_of g.S.TreeSink.view.number v))
    (c.as_slice.ensures.value ∙ c.self.view_is)
