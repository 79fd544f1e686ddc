use Rattle.block_layout.proofs.block.BlockLayout.break_text.Goals as goal

pub returns-then-ends-clause-joined : goal.returns-then-ends-clause-joined
returns-then-ends-clause-joined g c = λ h run. c.flush.ensures.joined (h.0, c.break_text.ensures.joined run)

pub returns-clause-joined : goal.returns-clause-joined
returns-clause-joined g c = λ h run. c.add_empty_line.ensures.joined (h.0, c.break_text.ensures.joined run)
