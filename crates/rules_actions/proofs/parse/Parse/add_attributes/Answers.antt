use Rattle.std.proofs.Common.{rules, sym, subst}
use Rattle.rules_actions.specs.Parsed.{parsed}
use Rattle.rules_table.specs.Actions.{act}
use Rattle.rules_table.specs.Settling.{Ready}
use Rattle.rules_actions.proofs.parse.Parse.add_attributes.Goals as goal

pub returns-clause-seen : goal.returns-clause-seen
unfolding act
returns-clause-seen g c = search rules

pub returns-clause-ready : goal.returns-clause-ready
returns-clause-ready g c =
    subst Ready (sym (returns-clause-seen g c)) (c.actions_keep_what_is_ready.ensures _ _ c.requires.ready)

pub add_attributes_if_missing-requires-clause-element :
    goal.add_attributes_if_missing-requires-clause-element
add_attributes_if_missing-requires-clause-element g c =
    c.open_elements_are_elements.ensures _ (parsed g.S.TreeSink.view
    c.args.self.now.kept c.args.self.now.tree.held c.args.self.now.tree.sink) c.requires.ready c.requires.there
