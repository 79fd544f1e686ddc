use Rattle.std.proofs.Common.{ap, ◌∙◌}
use Rattle.tree_formatting.specs.Entries.{before_marker, entries_of}
use Rattle.tree_formatting.proofs.list.FormattingList.clear_to_marker.Goals as goal

pub returns : goal.returns
returns g c = λ number. c.take_off_to_marker.ensures.items number
    ∙ ap (λ v. before_marker (entries_of number v)) c.self.view_is
