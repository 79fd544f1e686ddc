use Rattle.std.proofs.Common.{sym, ◌∙◌}
use Rattle.dom_styles.specs.Seen.{holding}
use Rattle.dom_styles.proofs.CascadeLemmas.{kept_on, given_way}
use Rattle.dom_styles.proofs.cascade.WithSpec.maybe_update.Goals as goal

pub returns-then-outranks : goal.returns-then-outranks
returns-then-outranks g c = λ ds h.
    kept_on ds (holding c.args.self.now) c.args.declared (sym c.outranks.ensures ∙ c.if-outranks.true) h

pub returns : goal.returns
returns g c = λ ds h.
    given_way ds (holding c.args.self.now) c.args.declared (sym c.outranks.ensures ∙ c.if-outranks.false) h
