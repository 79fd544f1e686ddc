use Rattle.std.proofs.Common.{List, ap, arith, length, slice_index_or, ◌∙◌}
use Rattle.tree_formatting.specs.declared.entry.FormatEntry.{FormatEntry}
use Rattle.tree_model.specs.Building.{Building}
use Rattle.tree_model.proofs.MadeAnewLemmas.{IsMadeAnew, as_many, made_element, made_marker}
use Rattle.html_tree_state.proofs.construction.Construction.make_anew.Given.{Over}
use Rattle.html_tree_state.proofs.construction.Construction.make_anew.Goals as goal

pub returns-in_default-clause-made : goal.returns-in_default-clause-made
returns-in_default-clause-made g c =
    let tree = g.S.TreeSink in
    let x = c.index-as_slice-index.result in
    made_marker tree.view c.args.index c.args.self.now.held c.args.self.now.sink x
    c.requires.within (c.index-as_slice-index.is
    ∙ ap (λ (v : List (FormatEntry g.row.S-Handle.Denot)). slice_index_or v c.args.index x)
    (c.as_slice.ensures ∙ c.formatting.ensures)) c.in_default.is

made_anew : (g : Over) (c : goal.After-drop-tag-3 g) → IsMadeAnew g.S.TreeSink.view c.args.index c.give.new.self
    c.args.self.now.held c.insert_element_for.new.self.sink
    c.args.self.now.sink
made_anew g c =
    let tree = g.S.TreeSink in
    let x = c.index-as_slice-index.result in
    made_element tree.view c.args.index c.give.new.self c.insert_element_for.new.self.held
    c.args.self.now.held c.insert_element_for.new.self.sink c.args.self.now.sink x c.in-Element.field-0
    c.in_ok-element.element c.in-Element.tag c.in_ok-tag.tag c.laws_of_forests.ensures c.requires.sound
    c.requires.within (c.index-as_slice-index.is
    ∙ ap (λ (v : List (FormatEntry g.row.S-Handle.Denot)). slice_index_or v c.args.index x)
    (c.as_slice.ensures ∙ c.formatting.ensures)) c.in-Element.is c.in_ok-tag.ensures c.in_ok-element.ensures.seen
    c.in_ok-element.ensures.number c.give.ensures.open c.give.ensures.entries c.give.ensures.fostering
    c.give.ensures.counts

pub returns-clause-made : goal.returns-clause-made
returns-clause-made g c = (made_anew g c).made

pub returns-clause-size : goal.returns-clause-size
returns-clause-size g c = (made_anew g c).size

pub returns-clause-sound : goal.returns-clause-sound
returns-clause-sound g c = (made_anew g c).sound

pub give-requires : goal.give-requires
give-requires g c =
    let number = g.S.TreeSink.view.number in
    omega (
      arith,
      as_many number c.args.self.now.held.entries,
      as_many number c.insert_element_for.new.self.held.entries,
      ap (λ (x : Building). length x.formatting) c.in_ok-element.ensures.seen,
      c.requires.within,
    )
