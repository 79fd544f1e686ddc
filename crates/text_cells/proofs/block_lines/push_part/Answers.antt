use Rattle.text_cells.proofs.BlockLemmas.{joined_append}
use Rattle.text_cells.proofs.block_lines.push_part.Goals as goal

pub returns-clause-joined : goal.returns-clause-joined
returns-clause-joined g c = λ first second.
    c.push_joined.ensures.joined (joined_append g.T.EqualCopy.seen c.args.all.now.items c.args.part.before.items
    c.append.new.self.items c.in_ok-append.ensures.items first second)
