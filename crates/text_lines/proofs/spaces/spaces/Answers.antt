use Rattle.std.proofs.Common.{◌∙◌}
use Rattle.std.proofs.lemmas.List.{take-replicate}
use Rattle.text_lines.proofs.SpacesPushed.{cut_spaces}
use Rattle.text_lines.proofs.spaces.spaces.Goals as goal

pub split_at-requires : goal.split_at-requires
split_at-requires c = cut_spaces 64 c.args.count c.requires

pub returns : goal.returns
returns c = c.split_at.ensures.front ∙ take-replicate c.args.count 64 0x20 c.requires
