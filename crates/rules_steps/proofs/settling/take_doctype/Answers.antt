use Rattle.std.proofs.Common.{◌∙◌}
use Rattle.html_lexemes.specs.declared.token.TokenSinkResult.TheVariants.{Continue}
use Rattle.rules_actions.specs.Parsed.{parsed}
use Rattle.rules_table.specs.State.{doctype}
use Rattle.rules_steps.proofs.SettleLemmas.{came_again, came_asks, came_done, is_handed_on, is_settled}
use Rattle.rules_steps.proofs.settling.take_doctype.Goals as goal

pub returns-in-Done-clause-came : goal.returns-in-Done-clause-came
returns-in-Done-clause-came g c =
    let tree = g.S.TreeSink in
    let first = parsed tree.view c.args.page.now.kept c.args.page.now.tree.held
    c.args.page.now.tree.sink in
    let at = parsed tree.view c.rules.page.kept c.rules.page.tree.held c.rules.page.tree.sink
    in
    let new = parsed tree.view c.doctype_rule.new.page.kept c.doctype_rule.new.page.tree.held
    c.doctype_rule.new.page.tree.sink in
    is_settled tree.view.handle c.a_mark_comes_to_what_its_rule_gives.ensures
    (doctype c.args.doctype.now) first at new Continue
    c.rules.invariant.ready c.rules.invariant.same
    (came_done tree.view.handle _ new _ c.in-Done.is c.in_ok-doctype_rule.ensures.came)

pub returns-in-Asks-clause-came : goal.returns-in-Asks-clause-came
returns-in-Asks-clause-came g c =
    let tree = g.S.TreeSink in
    let first = parsed tree.view c.args.page.now.kept c.args.page.now.tree.held
    c.args.page.now.tree.sink in
    let at = parsed tree.view c.rules.page.kept c.rules.page.tree.held c.rules.page.tree.sink
    in
    let new = parsed tree.view c.doctype_rule.new.page.kept c.doctype_rule.new.page.tree.held
    c.doctype_rule.new.page.tree.sink in
    is_settled tree.view.handle c.a_mark_comes_to_what_its_rule_gives.ensures
    (doctype c.args.doctype.now) first at new c.in-Asks.answer
    c.rules.invariant.ready c.rules.invariant.same
    (came_asks tree.view.handle _ new _ _ c.in-Asks.is c.in_ok-doctype_rule.ensures.came)

pub rules-smaller : goal.rules-smaller
rules-smaller g c =
    let tree = g.S.TreeSink in
    let first = parsed tree.view c.args.page.now.kept c.args.page.now.tree.held
    c.args.page.now.tree.sink in
    let at = parsed tree.view c.rules.page.kept c.rules.page.tree.held c.rules.page.tree.sink
    in
    let new = parsed tree.view c.doctype_rule.new.page.kept c.doctype_rule.new.page.tree.held
    c.doctype_rule.new.page.tree.sink in
    (is_handed_on tree.view.handle c.a_mark_comes_to_what_its_rule_gives.ensures c.the_rank_falls.ensures
    (doctype c.args.doctype.now) at new
    c.rules.invariant.ready (came_again tree.view.handle _ new _ c.in-Again.is c.in_ok-doctype_rule.ensures.came)).less

pub rules-preserved : goal.rules-preserved
rules-preserved g c =
    let tree = g.S.TreeSink in
    let first = parsed tree.view c.args.page.now.kept c.args.page.now.tree.held
    c.args.page.now.tree.sink in
    let at = parsed tree.view c.rules.page.kept c.rules.page.tree.held c.rules.page.tree.sink
    in
    let new = parsed tree.view c.doctype_rule.new.page.kept c.doctype_rule.new.page.tree.held
    c.doctype_rule.new.page.tree.sink in
    record {
      ready = c.in_ok-doctype_rule.ensures.ready;
      same = (is_handed_on tree.view.handle c.a_mark_comes_to_what_its_rule_gives.ensures c.the_rank_falls.ensures
          (doctype c.args.doctype.now) at new
          c.rules.invariant.ready (came_again tree.view.handle _ new _ c.in-Again.is
          c.in_ok-doctype_rule.ensures.came)).same
          ∙ c.rules.invariant.same;
    }
