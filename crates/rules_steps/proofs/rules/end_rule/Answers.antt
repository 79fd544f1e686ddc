use Rattle.std.proofs.Common.{sym, ◌∙◌}
use Rattle.rules_actions.specs.Parsed.{parsed}
use Rattle.rules_steps.proofs.RuleLemmas.{broken_end_came}
use Rattle.rules_steps.proofs.rules.end_rule.Goals as goal

pub returns-then-breaks_out : goal.returns-then-breaks_out
returns-then-breaks_out g c =
    let tree = g.S.TreeSink in
    let old = parsed tree.view c.args.page.now.kept c.args.page.now.tree.held
    c.args.page.now.tree.sink in
    let mid = parsed tree.view c.break_out.new.self.kept c.break_out.new.self.tree.held
    c.break_out.new.self.tree.sink in
    record {
      came = broken_end_came tree.view.handle c.args.tag.now c.args.group old mid c.end_tag-then-breaks_out.result _
          (sym (c.is_html_here.ensures.finish c.args.tag.now) ∙ c.if-is_html_here.false)
          (sym c.breaks_out.ensures ∙ c.if-breaks_out.true) c.requires.group c.in_ok-break_out.ensures.seen
          c.end_tag-then-breaks_out.ensures.came;
      ready = c.end_tag-then-breaks_out.ensures.ready;
      memory = c.end_tag-then-breaks_out.ensures.memory;
    }
