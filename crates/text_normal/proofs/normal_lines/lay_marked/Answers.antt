use Rattle.std.proofs.Common.{ap, ◌∙◌}
use Rattle.std.specs.Prelude.{Err}
use Rattle.std.proofs.lemmas.Result.{err_from_is_err_and}
use Rattle.text_pieces.specs.Sources.{sources_of}
use Rattle.text_normal.specs.Riders.{nothing_carried, carried, normal_lines, normal_waiting}
use Rattle.text_normal.proofs.PieceLemmas.{err_same, ok_always, carried_room}
use Rattle.text_normal.proofs.NormalFinal.{if_ok_map}
use Rattle.text_normal.proofs.normal_lines.lay_marked.Goals as goal

pub returns-in_err-carry_all-clause-narrow : goal.returns-in_err-carry_all-clause-narrow
returns-in_err-carry_all-clause-narrow g c = λ e.
    let p = err_from_is_err_and c.from_residual.result c.from_residual.ensures.1 in
    (c.carry_all.ensures.narrow (c.in_err-carry_all.was ∙
    ap Err (err_same _ _ c.from_residual.result (p.1 ∙ ap Err p.2) e))).wide c.args.width
    c.args.allow_overflow nothing_carried c.new-text.ensures

pub returns-clause-lines : goal.returns-clause-lines
unfolding normal_lines
returns-clause-lines g c =
    if_ok_map _ _ c.into_laid.result (λ laid given. (given c.args.width c.args.allow_overflow
    (carried c.args.width (sources_of g.T.EqualCopy.seen c.args.pieces.now))
    (c.in_ok-carry_all.ensures.carries.carries c.args.width c.args.allow_overflow nothing_carried
    c.new-text.ensures)).0)
    c.into_laid.ensures.laid

pub returns-clause-waiting : goal.returns-clause-waiting
unfolding normal_waiting
returns-clause-waiting g c =
    if_ok_map _ _ c.into_laid.result (λ laid given. (given c.args.width c.args.allow_overflow
    (carried c.args.width (sources_of g.T.EqualCopy.seen c.args.pieces.now))
    (c.in_ok-carry_all.ensures.carries.carries c.args.width c.args.allow_overflow nothing_carried
    c.new-text.ensures)).1)
    c.into_laid.ensures.laid

pub returns-clause-room : goal.returns-clause-room
returns-clause-room g c =
    ok_always _ c.into_laid.result (carried_room c.args.width c.args.allow_overflow
    (sources_of g.T.EqualCopy.seen c.args.pieces.now)
    (c.in_ok-carry_all.ensures.carries.carries c.args.width c.args.allow_overflow nothing_carried
    c.new-text.ensures).holds.read.room)
