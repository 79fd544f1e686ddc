use Rattle.std.proofs.Common.{◌∙◌, chars, sym}
use Rattle.std.proofs.lemmas.Result.{on_ok_weaker}
use Rattle.tree_forest.specs.Places.{below}
use Rattle.html_render_dom.specs.Nodes.{forest_of}
use Rattle.html_render_dom.specs.Numbers.{number_of}
use Rattle.html_render_dom.proofs.HeldForests.{last_is}
use Rattle.html_render_dom.proofs.SayLemmas.{neighbour_holds, says_more, says_new, says_nothing}
use Rattle.html_render_dom.proofs.nodes.Nodes.say_below.Goals as goal

pub returns-then-is_empty-clause-forest : goal.returns-then-is_empty-clause-forest
returns-then-is_empty-clause-forest c = says_nothing (below (number_of c.args.parent)) c.as_str.result.now c.args.words
    (forest_of c.args.self.now) c.if-is_empty.ensures c.as_str.ensures

pub say_at-requires-clause-holds : goal.say_at-requires-clause-holds
say_at-requires-clause-holds c = neighbour_holds (below (number_of c.args.parent)) c.child_before-neighbour.result
    (forest_of c.args.self.now) c.requires.linked.forest
    (last_is c.args.self.now (number_of c.args.parent) _ c.requires.linked c.child_before-neighbour.ensures)

pub returns-then-branch-clause-forest : goal.returns-then-branch-clause-forest
returns-then-branch-clause-forest c = says_more (below (number_of c.args.parent)) c.as_str.result.now c.args.words
    (chars c.as_str-2.result.now) c.child_before-neighbour.result (forest_of c.args.self.now)
    (forest_of c.say_at.new.self) c.if-is_empty.ensures c.as_str.utf8 c.as_str.ensures
    (last_is c.args.self.now (number_of c.args.parent) _ c.requires.linked c.child_before-neighbour.ensures)
    (sym c.in_ok-say_at.ensures.is_text ∙ c.if-branch.true) c.as_str-2.ensures
    (c.in_ok-say_at.ensures.said c.if-branch.true)

pub returns-clause-forest : goal.returns-clause-forest
returns-clause-forest c = on_ok_weaker c.put_new_below.result
    (λ e. e ∙ says_new (below (number_of c.args.parent)) c.as_str.result.now c.args.words
    c.child_before-neighbour.result
    (forest_of c.args.self.now) (forest_of c.say_at.new.self) c.if-is_empty.ensures c.as_str.utf8 c.as_str.ensures
    (last_is c.args.self.now (number_of c.args.parent) _ c.requires.linked c.child_before-neighbour.ensures)
    (sym c.in_ok-say_at.ensures.is_text ∙ c.if-branch.false) (c.in_ok-say_at.ensures.other c.if-branch.false))
    c.put_new_below.ensures.forest
