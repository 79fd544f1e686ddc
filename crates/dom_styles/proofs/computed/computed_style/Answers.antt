use Rattle.std.proofs.Common.{sym, subst, take}
use Rattle.dom_styles.specs.Seen.{IsComputed}
use Rattle.dom_styles.proofs.StyleLemmas.{item_more}
use Rattle.dom_styles.proofs.computed.computed_style.Goals as goal

pub loop-rule-preserved : goal.loop-rule-preserved
loop-rule-preserved c =
    subst (λ rules. IsComputed c.args.name.now rules c.apply.new.self)
    (sym (item_more c.args.rules.now c.loop-rule.rule-index c.rule-item.result c.loop-rule-test.true c.rule-item.is))
    (c.apply.ensures (take c.loop-rule.rule-index c.args.rules.now) c.loop-rule.invariant)
