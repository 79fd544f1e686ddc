use Rattle.block_layout.proofs.block.BlockLayout.add_row.Goals as goal

pub returns-clause-joined : goal.returns-clause-joined
returns-clause-joined g c = λ joined. c.lay_row.ensures.joined (c.flush.ensures.joined joined)

pub returns-in_err-lay_row-clause-joined : goal.returns-in_err-lay_row-clause-joined
returns-in_err-lay_row-clause-joined g c = λ joined. c.lay_row.ensures.joined (c.flush.ensures.joined joined)
