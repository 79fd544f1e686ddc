use Rattle.std.proofs.Common.{map}
use Rattle.text_lines.specs.Tagged.{line_items}
use Rattle.text_wrapping.proofs.BlockLemmas.{bare_lines}
use Rattle.text_wrapping.proofs.text_block.TextBlock.filled_up.Goals as goal

pub returns-else-self-clause-filled_up : goal.returns-else-self-clause-filled_up
returns-else-self-clause-filled_up g c =
    let seen = g.T.EqualCopy.seen in
    bare_lines c.args.self.now.pad_blocks (seen c.args.self.now.default_tag) c.args.self.now.width
    (map (line_items seen) c.args.lines.items) c.if-self.false
