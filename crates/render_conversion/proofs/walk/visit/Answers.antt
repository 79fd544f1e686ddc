use Rattle.std.proofs.Common.{◌++◌, ◌∙◌, ap, sym}
use Rattle.render_values.specs.Arena.{flat}
use Rattle.render_conversion.specs.Conversion.{content}
use Rattle.render_conversion.specs.Seen.{seen_parts}
use Rattle.render_conversion.specs.Styles.{styles_of}
use Rattle.render_conversion.specs.Turns.{trailings}
use Rattle.render_conversion.proofs.StepLemmas.{hidden_done, unseen_done}
use Rattle.render_conversion.proofs.VisitLemmas.{visit_after}
use Rattle.render_conversion.proofs.walk.visit.Goals as goal

pub returns-then-not-is_shown : goal.returns-then-not-is_shown
returns-then-not-is_shown c =
    unseen_done c.args.options (styles_of c.args.rules.now) c.args.dom.now.forest c.args.node c.args.place
    c.args.turns.now
    c.args.nodes.now.items
    (λ n ns. c.a_tree_goes_one_step_on.ensures.first c.args.dom.now.forest n ns c.requires.forest)
    (sym c.is_shown.ensures ∙ c.if-not-is_shown.true) c.requires.ordered c.requires.flat

pub returns-then-style : goal.returns-then-style
returns-then-style c =
    hidden_done c.args.options (styles_of c.args.rules.now) c.args.dom.now.forest c.args.node c.args.place
    c.args.turns.now
    c.args.nodes.now.items (seen_parts c.style_of-style.result)
    (λ n ns. c.a_tree_goes_one_step_on.ensures.first c.args.dom.now.forest n ns c.requires.forest)
    c.style_of-style.ensures c.if-style.true c.requires.ordered c.requires.flat

pub returns : goal.returns
returns c =
    visit_after c.push_children.result c.args.options (styles_of c.args.rules.now) c.args.dom.now.forest c.args.node
    c.args.place c.in_ok-meaning.meaning c.is_guarded.result c.len.result c.args.turns.now c.push.new.self
    c.push_closings.new.turns c.push_after.new.turns c.push_children.new.turns c.args.nodes.now.items
    c.push_head.new.nodes.items c.push_opening.new.nodes.items c.say.new.nodes.items
    (seen_parts c.style_of-style.result)
    (λ n ns. c.a_tree_goes_one_step_on.ensures.first c.args.dom.now.forest n ns c.requires.forest)
    (sym c.is_shown.ensures ∙ c.if-not-is_shown.false) c.style_of-style.ensures c.if-style.false
    c.in_ok-meaning.ensures c.is_guarded.ensures c.requires.ordered c.requires.flat
    (c.len.ensures ∙ c.args.nodes.now.ok.0) c.in_ok-push_head.ensures c.in_ok-push_opening.ensures
    (c.in_ok-say.ensures
    ∙ ap (λ p. c.push_opening.new.nodes.items ++ flat (content p (seen_parts c.style_of-style.result).before))
    c.place.ensures)
    c.in_ok-push.ensures c.in_ok-push_closings.ensures
    (c.in_ok-push_after.ensures
    ∙ ap (λ p. trailings c.args.node p (seen_parts c.style_of-style.result).after.content ++ c.push_closings.new.turns)
    c.place-2.ensures)
    c.push_children.ensures
