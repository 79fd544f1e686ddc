use Rattle.block_layout.proofs.block.BlockLayout.into_laid_lines.Goals as goal

pub returns-clause-joined : goal.returns-clause-joined
returns-clause-joined g c = λ joined. c.into_lines.ensures.joined joined.0
