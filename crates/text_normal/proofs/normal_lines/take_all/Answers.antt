use Rattle.std.proofs.Common.{◌≡◌, sym, ap, ◌∙◌, subst, length, arith}
use Rattle.std.specs.Prelude.{Err}
use Rattle.std.specs.Vec.Iter.{into_iter_items}
use Rattle.std.proofs.lemmas.Result.{err_from_is_err_and}
use Rattle.text_pieces.specs.Sources.{piece_sources, sources_of}
use Rattle.text_normal.specs.MarkedStates.{ReadsSources}
use Rattle.text_normal.proofs.PieceLemmas.{first_sources, no_sources, reads_nothing, reads_more, reads_all, reads_wide}
use Rattle.text_normal.proofs.normal_lines.take_all.Goals as goal

pub loop-piece-init : goal.loop-piece-init
loop-piece-init g c =
    let seen = g.T.EqualCopy.seen in
    subst (λ xs. ReadsSources seen c.args.text.now c.args.text.now (sources_of seen c.args.pieces.items)
    (sources_of seen xs)) (sym c.into_iter-piece-iterator.ensures.into_iter_gives.0)
    (reads_nothing seen c.args.text.now (sources_of seen c.args.pieces.items))

pub returns-in_err-take_piece-clause-narrow : goal.returns-in_err-take_piece-clause-narrow
returns-in_err-take_piece-clause-narrow g c = λ e.
    let seen = g.T.EqualCopy.seen in
    let all = sources_of seen c.args.pieces.items in
    let p = err_from_is_err_and c.from_residual.result c.from_residual.ensures.1 in
    reads_wide seen c.args.text.now c.loop-piece.text all (piece_sources seen c.in-Some.piece)
    (sources_of seen (into_iter_items c.next.new.self))
    (subst (ReadsSources seen c.args.text.now c.loop-piece.text all)
    (first_sources seen (into_iter_items c.loop-piece.piece-iterator) c.in-Some.piece
    (into_iter_items c.next.new.self) c.in-Some.ensures.steps.0) c.loop-piece.invariant)
    (c.take_piece.ensures.narrow (c.in_err-take_piece.was ∙ ap Err (sym p.2) ∙ sym p.1 ∙ e))

pub loop-piece-preserved : goal.loop-piece-preserved
loop-piece-preserved g c =
    let seen = g.T.EqualCopy.seen in
    let all = sources_of seen c.args.pieces.items in
    reads_more seen c.args.text.now c.loop-piece.text c.take_piece.new.text all (piece_sources seen c.in-Some.piece)
    (sources_of seen (into_iter_items c.next.new.self))
    (subst (ReadsSources seen c.args.text.now c.loop-piece.text all)
    (first_sources seen (into_iter_items c.loop-piece.piece-iterator) c.in-Some.piece
    (into_iter_items c.next.new.self) c.in-Some.ensures.steps.0) c.loop-piece.invariant)
    c.in_ok-take_piece.ensures.read

pub returns-clause-read : goal.returns-clause-read
returns-clause-read g c =
    let seen = g.T.EqualCopy.seen in
    let left : length (into_iter_items c.loop-piece.piece-iterator) ≡ 0 =
    omega (arith, c.loop-piece.piece-iterator.rest.ok.0, c.in-None.ensures.steps.0) in
    reads_all seen c.args.text.now c.loop-piece.text (sources_of seen c.args.pieces.items)
    (sources_of seen (into_iter_items c.loop-piece.piece-iterator))
    (no_sources seen (into_iter_items c.loop-piece.piece-iterator) left) c.loop-piece.invariant
