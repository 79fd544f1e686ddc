use Rattle.std.proofs.Common.{sym, ap, ◌∙◌}
use Rattle.text_pieces.specs.Sources.{sources_of}
use Rattle.text_wrapping.specs.Blocks.{has_visible}
use Rattle.text_wrapping.proofs.ShowingLemmas.{hidden_front, shown_front}
use Rattle.text_wrapping.proofs.showing.has_visible.Goals as goal

pub returns-then-shows : goal.returns-then-shows
returns-then-shows g c =
    let seen = g.T.EqualCopy.seen in
    sym (shown_front seen c.in-Some.piece.now c.in-Some.others.now (sym c.shows.ensures ∙ c.if-shows.true))
    ∙ ap (λ ps. has_visible (sources_of seen ps)) (sym c.in-Some.ensures.cases.0)
    ∙ c.loop-piece.invariant

pub loop-piece-preserved : goal.loop-piece-preserved
loop-piece-preserved g c =
    let seen = g.T.EqualCopy.seen in
    sym (hidden_front seen c.in-Some.piece.now c.in-Some.others.now (sym c.shows.ensures ∙ c.if-shows.false))
    ∙ ap (λ ps. has_visible (sources_of seen ps)) (sym c.in-Some.ensures.cases.0)
    ∙ c.loop-piece.invariant
