use Rattle.std.proofs.Common.{ap, option_map, ◌∙◌}
use Rattle.tree_forest.specs.Forest.{name_of}
use Rattle.html_tree_builder.proofs.fragments.parse_fragment_for_element.Goals as goal
use Rattle.html_tree_builder.specs.Begun.{begun_fragment, context_state}

pub returns-clause-begins : goal.returns-clause-begins
returns-clause-begins g c = λ text final does.
    let tree = g.S.TreeSink in
    let context = tree.view.number c.args.context in
    let nodes = tree.view.forest c.args.sink in
    c.parser_from.ensures.begins
    (begun_fragment c.args.opts.tree_builder context (option_map tree.view.number c.args.form) nodes
    (tree.view.quirks c.args.sink))
    (context_state c.args.scripting (name_of context nodes))
    c.in_ok-builder.ensures.begun
    (c.context_state-first.ensures ∙ ap (context_state c.args.scripting) c.elem_name.ensures)
    text final does
