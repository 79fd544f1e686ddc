use Rattle.std.proofs.Common.{arith}
use Rattle.dom_styles.proofs.StyleLemmas.{itself_more, before_more, after_more}
use Rattle.dom_styles.proofs.computed.ComputedStyle.apply.Goals as goal

pub returns-in-Itself : goal.returns-in-Itself
returns-in-Itself c = λ rules h.
    itself_more c.args.name.now rules c.args.rule.now c.args.self.now c.apply.new.self h (grind arith)
    c.in-Itself.is c.apply.ensures

pub returns-in-Before : goal.returns-in-Before
returns-in-Before c = λ rules h.
    before_more c.args.name.now rules c.args.rule.now c.args.self.now c.apply-in-Before.new.self h (grind arith)
    c.in-Before.is c.apply-in-Before.ensures

pub returns-in-After : goal.returns-in-After
returns-in-After c = λ rules h.
    after_more c.args.name.now rules c.args.rule.now c.args.self.now c.apply-in-After.new.self h (grind arith)
    c.in-After.is c.apply-in-After.ensures
