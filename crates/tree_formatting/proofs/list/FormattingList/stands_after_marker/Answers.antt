use Rattle.std.proofs.Common.{ap, ◌∙◌}
use Rattle.tree_formatting.specs.Entries.{entries_of, is_listed, up_to_marker, without_entry}
use Rattle.tree_formatting.proofs.list.FormattingList.stands_after_marker.Goals as goal

pub returns : goal.returns
returns g c = c.is_after_marker_without.ensures
    ∙ ap (λ v. is_listed (g.S.TreeSink.view.number c.args.target)
    (up_to_marker (without_entry (g.S.TreeSink.view.number c.args.without) (entries_of g.S.TreeSink.view.number v))))
    (c.as_slice.ensures.value ∙ c.self.view_is)
