use Rattle.std.proofs.Common.{ap, ◌∙◌}
use Rattle.content_widths.specs.Flows.{greater}
use Rattle.content_widths.proofs.FlowLemmas.{after_block}
use Rattle.content_widths.proofs.flow.FlowWidths.add_block.Goals as goal

pub returns : goal.returns
returns c = λ most items h. after_block c.args.self.now c.greater-self.result c.args.widths most items
    (c.greater-self.ensures ∙ ap (λ w. greater w c.args.widths) c.so_far.ensures) h
