use Rattle.std.proofs.Common.{sym, ◌∙◌}
use Rattle.rules_actions.specs.Parsed.{parsed}
use Rattle.rules_steps.proofs.RuleLemmas.{broken_start_came}
use Rattle.rules_steps.proofs.rules.start_rule.Goals as goal

pub returns : goal.returns
returns g c =
    let tree = g.S.TreeSink in
    let old = parsed tree.view c.args.page.now.kept c.args.page.now.tree.held
    c.args.page.now.tree.sink in
    let mid = parsed tree.view c.break_out.new.self.kept c.break_out.new.self.tree.held
    c.break_out.new.self.tree.sink in
    record {
      came = broken_start_came tree.view.handle c.args.tag.now c.args.group old mid c.start_tag-2.result _
          (sym c.takes_start_here.ensures ∙ c.if-takes_start_here.false)
          (sym c.breaks_out.ensures ∙ c.if-not-breaks_out.false) c.requires.group c.in_ok-break_out.ensures.seen
          c.start_tag-2.ensures.came;
      ready = c.start_tag-2.ensures.ready;
      memory = c.start_tag-2.ensures.memory;
    }
