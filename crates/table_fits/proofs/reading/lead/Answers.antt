use Rattle.std.proofs.Common.{subst, sym}
use Rattle.std.specs.Str.{chars}
use Rattle.table_fits.specs.Flowing.{leading}
use Rattle.table_fits.specs.Pass.{added}
use Rattle.table_fits.specs.Seen.{FlowIs}
use Rattle.table_fits.proofs.reading.lead.Goals as goal

pub returns-in-Link : goal.returns-in-Link
unfolding chars
returns-in-Link c = λ items h.
    subst (λ i. FlowIs c.args.options.now c.add_text-in-Link.new.flow
    (added (leading c.args.options.now c.args.mode i) items)) (sym c.in-Link.is)
    (c.add_text-in-Link.ensures c.args.options.now items h)

pub returns-in-Superscript : goal.returns-in-Superscript
unfolding chars
returns-in-Superscript c = λ items h.
    subst (λ i. FlowIs c.args.options.now c.add_text-in-Superscript.new.flow
    (added (leading c.args.options.now c.args.mode i) items)) (sym c.in-Superscript.is)
    (c.add_text-in-Superscript.ensures c.args.options.now items h)
