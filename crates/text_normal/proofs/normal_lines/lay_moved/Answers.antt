use Rattle.std.proofs.Common.{sym, ap, ◌∙◌, []}
use Rattle.std.specs.Prelude.{Err}
use Rattle.std.proofs.lemmas.Result.{err_from_is_err_and}
use Rattle.text_pieces.specs.Sources.{names, sources_of}
use Rattle.text_normal.proofs.PlainLines.{plain_lines}
use Rattle.text_normal.proofs.PieceLemmas.{err_same, plain_waiting, room_of}
use Rattle.text_normal.proofs.normal_lines.lay_moved.Goals as goal

pub returns-in_err-lines-clause-narrow : goal.returns-in_err-lines-clause-narrow
returns-in_err-lines-clause-narrow g c = λ e.
    let p = err_from_is_err_and c.from_residual.result c.from_residual.ensures.1 in
    c.end_with_all.ensures.narrow
    (c.in_err-lines.was ∙ ap Err (err_same _ _ c.from_residual.result (p.1 ∙ ap Err p.2) e)) c.args.width
    c.args.allow_overflow [] c.new-text.ensures

pub returns-clause-lines : goal.returns-clause-lines
returns-clause-lines g c = λ none.
    let source = sources_of g.T.EqualCopy.seen c.args.pieces.items in
    c.in_ok-lines.ensures.ends.laid c.args.width c.args.allow_overflow [] c.new-text.ensures
    ∙ sym (plain_lines c.args.width source none)

pub returns-clause-waiting : goal.returns-clause-waiting
returns-clause-waiting g c = λ none.
    ap names c.new.ensures.items
    ∙ sym (plain_waiting c.args.width (sources_of g.T.EqualCopy.seen c.args.pieces.items) none)

pub returns-clause-room : goal.returns-clause-room
returns-clause-room g c =
    let source = sources_of g.T.EqualCopy.seen c.args.pieces.items in
    room_of c.args.width c.args.allow_overflow source
    (c.in_ok-lines.ensures.ends.room c.args.width c.args.allow_overflow [] c.new-text.ensures)

pub returns-clause-joined : goal.returns-clause-joined
returns-clause-joined g c =
    c.in_ok-lines.ensures.ends.joined c.args.width c.args.allow_overflow [] c.new-text.ensures
