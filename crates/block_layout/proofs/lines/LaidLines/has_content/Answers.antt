use Rattle.std.proofs.Common.{ap, ◌∙◌, nat_lt}
use Rattle.block_layout.proofs.CountLemmas.{counted_content}
use Rattle.block_layout.proofs.lines.LaidLines.has_content.Goals as goal

pub returns : goal.returns
returns g c = ap (λ n. nat_lt 0 n) c.args.self.now.counted
    ∙ counted_content g.T.EqualCopy.seen c.args.self.now.lines
