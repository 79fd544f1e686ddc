use Rattle.std.proofs.Common.{List, ap₂, length, ◌∙◌}
use Rattle.tree_formatting.specs.Entries.{entries_of}
use Rattle.tree_formatting.specs.declared.entry.FormatEntry.{FormatEntry}
use Rattle.tree_model.specs.Building.{seen, stack_of}
use Rattle.tree_model.specs.Formatting.{made_already}
use Rattle.tree_model.proofs.MadeAnewLemmas.{made_from_first}
use Rattle.html_tree_state.proofs.construction.Construction.first_to_make.Goals as goal

pub returns : goal.returns
returns g c =
    let tree = g.S.TreeSink in
    made_from_first (seen tree.view c.args.self.now.held c.args.self.now.sink)
    c.kept_entries.result (c.kept_entries.ensures
    ∙ ap₂ (λ (o : List g.row.S-Handle.Denot) (e : List (FormatEntry g.row.S-Handle.Denot)).
    length (made_already (stack_of tree.view.number o) (entries_of tree.view.number e)))
    c.open_elements.ensures (c.as_slice.ensures ∙ c.formatting.ensures))
