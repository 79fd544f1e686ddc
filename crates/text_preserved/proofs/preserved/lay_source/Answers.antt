use Rattle.std.proofs.Common.{sym, ap, ◌∙◌}
use Rattle.text_pieces.specs.Sources.{sources_of}
use Rattle.text_preserved.specs.Pass.{left_markers}
use Rattle.text_preserved.specs.SourceLines.{pass_of}
use Rattle.text_preserved.proofs.ReadingLemmas.{line_passed, if_ok_map, refused_is_wide, has_room}
use Rattle.text_preserved.proofs.PassLaw.{pass_lines, pass_waiting, pass_wide}
use Rattle.text_preserved.proofs.preserved.lay_source.Goals as goal

pub returns-then-is_refused-clause-narrow : goal.returns-then-is_refused-clause-narrow
returns-then-is_refused-clause-narrow g c = λ e.
    let seen = g.T.EqualCopy.seen in
    let line = sources_of seen c.args.pieces.now in
    let passed = line_passed c.args.width c.args.wraps line (pass_of seen c.new-line.result)
    (pass_of seen c.read_line.new.self) (pass_of seen c.finish.new.self) c.new-line.ensures.pass
    c.in_ok-read_line.ensures.pass c.in_ok-finish.ensures.pass in
    refused_is_wide c.args.allow_overflow _ _ (sym c.is_refused.ensures ∙ c.if-is_refused.true)
    (ap (λ p. p.wide) passed ∙ pass_wide c.args.width c.args.wraps line)

pub returns-clause-lines : goal.returns-clause-lines
returns-clause-lines g c =
    let seen = g.T.EqualCopy.seen in
    let line = sources_of seen c.args.pieces.now in
    let passed = line_passed c.args.width c.args.wraps line (pass_of seen c.new-line.result)
    (pass_of seen c.read_line.new.self) (pass_of seen c.finish.new.self) c.new-line.ensures.pass
    c.in_ok-read_line.ensures.pass c.in_ok-finish.ensures.pass in
    if_ok_map c.into_laid.result c.into_laid.ensures.lines (λ laid h. h ∙ ap (λ p. p.rows.done) passed
    ∙ pass_lines c.args.width c.args.wraps line)

pub returns-clause-waiting : goal.returns-clause-waiting
returns-clause-waiting g c =
    let seen = g.T.EqualCopy.seen in
    let line = sources_of seen c.args.pieces.now in
    let passed = line_passed c.args.width c.args.wraps line (pass_of seen c.new-line.result)
    (pass_of seen c.read_line.new.self) (pass_of seen c.finish.new.self) c.new-line.ensures.pass
    c.in_ok-read_line.ensures.pass c.in_ok-finish.ensures.pass in
    if_ok_map c.into_laid.result c.into_laid.ensures.waiting (λ laid h. h ∙ ap left_markers passed
    ∙ pass_waiting c.args.width c.args.wraps line)

pub returns-clause-room : goal.returns-clause-room
returns-clause-room g c =
    let seen = g.T.EqualCopy.seen in
    let line = sources_of seen c.args.pieces.now in
    let passed = line_passed c.args.width c.args.wraps line (pass_of seen c.new-line.result)
    (pass_of seen c.read_line.new.self) (pass_of seen c.finish.new.self) c.new-line.ensures.pass
    c.in_ok-read_line.ensures.pass c.in_ok-finish.ensures.pass in
    has_room c.into_laid.result c.args.allow_overflow _ _ (sym c.is_refused.ensures ∙ c.if-is_refused.false)
    (ap (λ p. p.wide) passed ∙ pass_wide c.args.width c.args.wraps line)
