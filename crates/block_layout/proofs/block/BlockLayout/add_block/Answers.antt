use Rattle.std.proofs.Common.{chars}
use Rattle.text_cells.specs.Cells.{block_lines_of}
use Rattle.block_layout.specs.Seen.{laid_of}
use Rattle.block_layout.proofs.WholeLemmas.{all_taken, ok_by}
use Rattle.block_layout.proofs.block.BlockLayout.add_block.Goals as goal

pub returns-then-takes_all-clause-laid : goal.returns-then-takes_all-clause-laid
returns-then-takes_all-clause-laid g c =
    let seen = g.T.EqualCopy.seen in
    ok_by c.take_all.result (laid_of seen c.take_all.new.self)
    (all_taken c.args.other c.args.measure (seen c.args.tag.now) (chars c.args.first.now)
    (chars c.args.following.now) (block_lines_of seen c.args.lines) (laid_of seen c.args.self.now)
    (c.takes_all.ensures c.if-takes_all.true))
    c.take_all.ensures.laid
