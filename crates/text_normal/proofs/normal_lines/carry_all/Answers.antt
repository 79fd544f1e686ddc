use Rattle.std.proofs.Common.{sym, ap, ◌∙◌, subst}
use Rattle.std.specs.Prelude.{Err}
use Rattle.std.proofs.lemmas.Result.{err_from_is_err_and}
use Rattle.text_pieces.specs.Sources.{piece_sources, sources_of}
use Rattle.text_normal.specs.MarkedStates.{CarriesFront}
use Rattle.text_normal.proofs.PieceLemmas.{carries_all, carries_more, carries_nothing, carries_wide, first_sources}
use Rattle.text_normal.proofs.PieceLemmas.{no_sources}
use Rattle.text_normal.proofs.normal_lines.carry_all.Goals as goal

pub loop-first-init : goal.loop-first-init
loop-first-init g c = carries_nothing g.T.EqualCopy.seen c.args.text.now _

pub returns-in_err-add_piece-clause-narrow : goal.returns-in_err-add_piece-clause-narrow
returns-in_err-add_piece-clause-narrow g c = λ e.
    let seen = g.T.EqualCopy.seen in
    let p = err_from_is_err_and c.from_residual.result c.from_residual.ensures.1 in
    carries_wide seen c.args.text.now c.loop-first.text (sources_of seen c.args.pieces.now)
    (piece_sources seen c.in-Some.first.now) (sources_of seen c.in-Some.others.now)
    (subst (CarriesFront seen c.args.text.now c.loop-first.text (sources_of seen c.args.pieces.now))
    (first_sources seen c.loop-first.rest.now c.in-Some.first.now c.in-Some.others.now c.in-Some.ensures.cases.0)
    c.loop-first.invariant)
    (c.add_piece.ensures.narrow (c.in_err-add_piece.was ∙ ap Err (sym p.2) ∙ sym p.1 ∙ e))

pub loop-first-preserved : goal.loop-first-preserved
loop-first-preserved g c =
    let seen = g.T.EqualCopy.seen in
    carries_more seen c.args.text.now c.loop-first.text c.add_piece.new.self (sources_of seen c.args.pieces.now)
    (piece_sources seen c.in-Some.first.now) (sources_of seen c.in-Some.others.now)
    (subst (CarriesFront seen c.args.text.now c.loop-first.text (sources_of seen c.args.pieces.now))
    (first_sources seen c.loop-first.rest.now c.in-Some.first.now c.in-Some.others.now c.in-Some.ensures.cases.0)
    c.loop-first.invariant) c.in_ok-add_piece.ensures.carries

pub returns-clause-carries : goal.returns-clause-carries
returns-clause-carries g c =
    let seen = g.T.EqualCopy.seen in
    carries_all seen c.args.text.now c.loop-first.text (sources_of seen c.args.pieces.now)
    (sources_of seen c.loop-first.rest.now) (no_sources seen c.loop-first.rest.now c.in_default.ensures.cases)
    c.loop-first.invariant
