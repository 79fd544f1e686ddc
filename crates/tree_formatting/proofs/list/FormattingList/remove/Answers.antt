use Rattle.std.proofs.Common.{ap, sym, ◌∙◌}
use Rattle.std.specs.List.{remove}
use Rattle.tree_formatting.specs.Entries.{entries_of, without_entry}
use Rattle.tree_formatting.proofs.PlaceLemmas.{removed}
use Rattle.tree_formatting.proofs.EntryLemmas.{without_entry_none}
use Rattle.tree_formatting.proofs.list.FormattingList.remove.Goals as goal

pub returns-in-Some : goal.returns-in-Some
returns-in-Some g c =
    ap (entries_of g.S.TreeSink.view.number)
    (c.take_off.ensures.items ∙ ap (λ v. remove v c.in-Some.at) (sym c.as_slice.ensures.value))
    ∙ removed g.S.TreeSink.view.number (g.S.TreeSink.view.number c.args.target) c.as_slice.result.now c.in-Some.at
    c.in-Some.ensures.found
    ∙ ap (λ v. without_entry (g.S.TreeSink.view.number c.args.target) (entries_of g.S.TreeSink.view.number v))
    (c.as_slice.ensures.value ∙ c.self.view_is)

pub returns-in_default : goal.returns-in_default
returns-in_default g c =
    ap (entries_of g.S.TreeSink.view.number) (sym (c.as_slice.ensures.value ∙ c.self.view_is))
    ∙ sym (without_entry_none (g.S.TreeSink.view.number c.args.target) (entries_of g.S.TreeSink.view.number
    c.as_slice.result.now)
    (c.position.ensures.missing c.in_default.is))
    ∙ ap (λ v. without_entry (g.S.TreeSink.view.number c.args.target) (entries_of g.S.TreeSink.view.number v))
    (c.as_slice.ensures.value ∙ c.self.view_is)
