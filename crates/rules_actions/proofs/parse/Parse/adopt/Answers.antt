use Rattle.std.proofs.Common.{rules, ap, sym, subst}
use Rattle.tree_forest.specs.Forest.{IsElement}
use Rattle.rules_table.specs.Actions.{act}
use Rattle.rules_table.specs.Settling.{Ready}
use Rattle.rules_actions.proofs.parse.Parse.adopt.Goals as goal

pub returns-clause-seen : goal.returns-clause-seen
unfolding act
returns-clause-seen g c = search rules

pub returns-clause-ready : goal.returns-clause-ready
returns-clause-ready g c =
    subst Ready (sym (returns-clause-seen g c)) (c.actions_keep_what_is_ready.ensures _ _ c.requires.ready)

pub returns-clause-elements : goal.returns-clause-elements
returns-clause-elements g c n is =
    subst (IsElement n) (sym (ap (λ b. b.forest) c.in_ok-adoption_agency.ensures.seen))
    ((c.words_keep_a_tree_sound.ensures.adopts c.args.name.now _ c.requires.ready.sound).grown.elements n is)
