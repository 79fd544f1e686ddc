use Rattle.std.proofs.Common.{map}
use Rattle.text_lines.specs.Tagged.{line_items}
use Rattle.text_normal.specs.Filling.{read_letters, nothing_read, last_filled}
use Rattle.text_normal.proofs.NormalReading.{laid_lines}
use Rattle.text_normal.proofs.NormalFinal.{filled_lines, if_ok_map}
use Rattle.text_normal.proofs.normal.NormalText.into_lines.Goals as goal

pub returns-clause-laid : goal.returns-clause-laid
returns-clause-laid g c =
    if_ok_map _ _ c.into_lines.result (λ lines given. filled_lines g.T.EqualCopy.seen c.args.self c.lay_word.new.self
    (map (line_items g.T.EqualCopy.seen) lines.items) c.in_ok-lay_word.ensures.read given) c.into_lines.ensures.lines

pub returns-clause-joined : goal.returns-clause-joined
returns-clause-joined g c =
    if_ok_map _ _ c.into_lines.result (λ lines given. λ width overflow read h. given width overflow
    (last_filled width (read_letters width nothing_read read))
    (laid_lines g.T.EqualCopy.seen c.args.self c.lay_word.new.self c.in_ok-lay_word.ensures.read width overflow read h))
    c.into_lines.ensures.joined
