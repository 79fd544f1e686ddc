use Rattle.std.proofs.Common.{◌∷◌, ◌++◌, sym, ap, ◌∙◌}
use Rattle.tree_model.specs.Building.{stack_of}
use Rattle.tree_model.proofs.CountedLemmas.{unopened}
use Rattle.html_tree_state.proofs.construction.Construction.is_element_open.Goals as goal
use Rattle.tree_names.specs.Counts.{counts_of}

pub returns-then-has_none_named : goal.returns-then-has_none_named
returns-then-has_none_named g c =
    let tree = g.S.TreeSink in
    sym (unopened (tree.view.number c.args.element) (stack_of tree.view.number c.args.self.now.held.open_elements)
    (tree.view.forest c.args.self.now.sink) c.args.self.now.held.counts c.has_none_named.result
    (λ front back are. c.has_none_named.ensures front back
    (c.counts.ensures ∙ are ∙ ap (λ x. counts_of (front ++ x ∷ back)) (sym c.elem_name.ensures)))
    c.requires.sound.counted c.if-has_none_named.true)
