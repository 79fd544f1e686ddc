use Rattle.std.proofs.Common.{◌∙◌}
use Rattle.content_widths.proofs.FlowLemmas.{all_measured}
use Rattle.content_widths.proofs.flow.FlowWidths.widths.Goals as goal

pub returns : goal.returns
returns c = λ most items h. c.so_far.ensures ∙ all_measured c.args.self.now most items h
