use Rattle.std.proofs.Common.{◌∷◌, [], subst, sym}
use Rattle.content_widths.specs.Flows.{text}
use Rattle.table_fits.proofs.FlowLemmas.{link_ends, link_ends_plain}
use Rattle.std.specs.Str.{chars}
use Rattle.table_fits.specs.Flowing.{following}
use Rattle.table_fits.specs.Pass.{added}
use Rattle.table_fits.specs.Seen.{FlowIs}
use Rattle.table_fits.proofs.reading.trail.Goals as goal

pub returns-then-options : goal.returns-then-options
unfolding chars
returns-then-options c = λ items h.
    subst (λ i. FlowIs c.args.options.now c.add_text.new.flow
    (added (following c.args.options.now c.args.mode i) items)) (sym c.in-Link.is)
    (subst (λ e. FlowIs c.args.options.now c.add_text.new.flow (added (text c.args.mode e ∷ []) items))
    (sym (link_ends c.args.options.now c.if-options.true)) (c.add_text.ensures c.args.options.now items h))

pub returns-else-options : goal.returns-else-options
unfolding chars
returns-else-options c = λ items h.
    subst (λ i. FlowIs c.args.options.now c.add_text-else-options.new.flow
    (added (following c.args.options.now c.args.mode i) items)) (sym c.in-Link.is)
    (subst (λ e. FlowIs c.args.options.now c.add_text-else-options.new.flow (added (text c.args.mode e ∷ []) items))
    (sym (link_ends_plain c.args.options.now c.if-options.false))
    (c.add_text-else-options.ensures c.args.options.now items h))

pub returns-in-Superscript : goal.returns-in-Superscript
unfolding chars
returns-in-Superscript c = λ items h.
    subst (λ i. FlowIs c.args.options.now c.add_text-in-Superscript.new.flow
    (added (following c.args.options.now c.args.mode i) items)) (sym c.in-Superscript.is)
    (c.add_text-in-Superscript.ensures c.args.options.now items h)
