use Rattle.std.proofs.Common.{option_map, rules, subst, sym}
use Rattle.token_grammar.specs.Items.{Item, error}
use Rattle.html_tree_builder.proofs.FragmentLemmas.{fragment_welcomes}
use Rattle.html_tree_builder.proofs.builder.TreeBuilder.new_for_fragment.Goals as goal
use Rattle.rules_table.specs.State.{State}
use Rattle.rules_table.specs.Welcome.{IsWelcome}

pub returns-in-Ok-clause-begun : goal.returns-in-Ok-clause-begun
returns-in-Ok-clause-begun g c = search rules

pub returns-in-Ok-clause-hears : goal.returns-in-Ok-clause-hears
returns-in-Ok-clause-hears g c =
    let tree = g.S.TreeSink in
    subst (λ (s : State). (item : Item) → IsWelcome s item) (sym (returns-in-Ok-clause-begun g c))
    (fragment_welcomes c.args.opts (tree.view.number c.args.context) (option_map tree.view.number c.args.form)
    (tree.view.forest c.args.sink) (tree.view.quirks c.args.sink))

pub returns-in-Ok-clause-ready : goal.returns-in-Ok-clause-ready
returns-in-Ok-clause-ready g c = record {
  works = (returns-in-Ok-clause-hears g c error).works;
  ready = c.in-Ok.ensures.ready;
  actions = c.new-builder.ensures.ready.actions;
}
