use Rattle.text_normal.proofs.filling.Filling.into_lines.Goals as goal

pub returns-clause-joined : goal.returns-clause-joined
returns-clause-joined g c = λ width overflow f h. (c.in_ok-end_line.ensures.laid.lays width overflow f h).joined.done
