use Rattle.block_layout.proofs.running.Running.laid.Goals as goal

pub returns-clause-joined : goal.returns-clause-joined
returns-clause-joined g c = λ h. c.in_ok-lines.ensures.joined (c.in_ok-waiting.ensures.joined h)
