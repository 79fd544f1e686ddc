use Rattle.std.proofs.Common.{ap, subst, sym}
use Rattle.tree_forest.specs.Forest.{IsElement}
use Rattle.rules_table.specs.Actions.{act}
use Rattle.rules_body.proofs.in_body_phrases.anchor_start.Goals as goal

pub take_off_element-requires-clause-element : goal.take_off_element-requires-clause-element
unfolding act
take_off_element-requires-clause-element g c =
    let n = g.S.TreeSink.view.number c.in-Some.listed in
    subst (IsElement n) (sym (ap (λ s. s.tree.forest) c.unlist.ensures.seen))
    (c.in_ok-adopt.ensures.elements n c.in-Some.ensures.element)
