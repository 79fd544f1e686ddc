use Rattle.std.proofs.Common.{◌≡◌, List, IfOk, Some, ap, option_map, subst, sym, ◌∙◌}
use Rattle.tree_formatting.specs.Entries.{entries_of, last_named, tag_in}
use Rattle.tree_formatting.specs.declared.entry.FormatEntry.{FormatEntry}
use Rattle.tree_model.specs.Adoption.{Turn}
use Rattle.tree_model.specs.Building.{seen}
use Rattle.html_tree_state.specs.Turns.{turn_of}
use Rattle.tree_model.proofs.TurnLemmas.{named_listed, turn_is_other_end, turn_is_over, turn_is_with}
use Rattle.html_tree_state.proofs.construction.Construction.adoption_turn.Goals as goal

pub returns-in_default-clause-turn : goal.returns-in_default-clause-turn
returns-in_default-clause-turn g c =
    let tree = g.S.TreeSink in
    let b = seen tree.view c.args.self.now.held c.args.self.now.sink in
    turn_is_other_end c.args.name.now b (sym (ap (option_map tree.view.number) c.in_default.is)
    ∙ c.last_named.ensures tree.view.number
    ∙ ap (λ (es : List (FormatEntry g.row.S-Handle.Denot)). last_named c.args.name.now (entries_of tree.view.number es))
    c.formatting.ensures)

pub returns-in_default-tag_of-clause-turn : goal.returns-in_default-tag_of-clause-turn
returns-in_default-tag_of-clause-turn g c =
    let tree = g.S.TreeSink in
    let n = tree.view.number c.in-Some.element in
    let b = seen tree.view c.args.self.now.held c.args.self.now.sink in
    turn_is_over c.args.name.now n b (sym (ap (option_map tree.view.number) c.in-Some.is)
    ∙ c.last_named.ensures tree.view.number
    ∙ ap (λ (es : List (FormatEntry g.row.S-Handle.Denot)). last_named c.args.name.now (entries_of tree.view.number es))
    c.formatting.ensures)
    (sym (ap (option_map (λ tag. tag.now)) c.in_default-tag_of.is) ∙ c.tag_of.ensures
    ∙ ap (λ (es : List (FormatEntry g.row.S-Handle.Denot)). tag_in n (entries_of tree.view.number es))
    c.formatting-2.ensures)

pub turn_with-requires-clause-listed : goal.turn_with-requires-clause-listed
turn_with-requires-clause-listed g c =
    let tree = g.S.TreeSink in
    named_listed c.args.name.now (tree.view.number c.in-Some.element)
    (entries_of tree.view.number c.args.self.now.held.entries)
    (sym (sym (ap (option_map tree.view.number) c.in-Some.is) ∙ c.last_named.ensures tree.view.number
    ∙ ap (λ (es : List (FormatEntry g.row.S-Handle.Denot)). last_named c.args.name.now (entries_of tree.view.number es))
    c.formatting.ensures))

pub returns-clause-turn : goal.returns-clause-turn
returns-clause-turn g c =
    let tree = g.S.TreeSink in
    let n = tree.view.number c.in-Some.element in
    let b = seen tree.view c.args.self.now.held c.args.self.now.sink in
    let new = seen tree.view c.turn_with.new.self.held c.turn_with.new.self.sink in
    subst (λ (t : Turn). IfOk c.turn_with.result (λ outcome. turn_of outcome new ≡ t))
    (turn_is_with c.args.name.now n c.in_ok-tag.tag b (sym (ap (option_map tree.view.number) c.in-Some.is)
    ∙ c.last_named.ensures tree.view.number
    ∙ ap (λ (es : List (FormatEntry g.row.S-Handle.Denot)). last_named c.args.name.now (entries_of tree.view.number es))
    c.formatting.ensures)
    (ap Some c.in_ok-tag.ensures ∙ sym (ap (option_map (λ tag. tag.now)) c.in-Some-tag_of.is) ∙ c.tag_of.ensures
    ∙ ap (λ (es : List (FormatEntry g.row.S-Handle.Denot)). tag_in n (entries_of tree.view.number es))
    c.formatting-2.ensures)) c.turn_with.ensures.turn
