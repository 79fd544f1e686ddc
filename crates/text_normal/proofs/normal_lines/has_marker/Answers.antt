use Rattle.std.proofs.Common.{sym, ap, ◌∙◌}
use Rattle.text_pieces.specs.Sources.{piece_sources, sources_of}
use Rattle.text_normal.specs.Letters.{has_marker}
use Rattle.text_normal.proofs.PieceLemmas.{first_sources, marker_here, marker_after}
use Rattle.text_normal.proofs.normal_lines.has_marker.Goals as goal

pub returns-then-is_marker : goal.returns-then-is_marker
returns-then-is_marker g c =
    let seen = g.T.EqualCopy.seen in
    sym (c.loop-first.invariant ∙ ap has_marker (first_sources seen c.loop-first.rest.now c.in-Some.first.now
    c.in-Some.others.now c.in-Some.ensures.cases.0) ∙ marker_here (piece_sources seen c.in-Some.first.now)
    (sources_of seen c.in-Some.others.now) (sym c.is_marker.ensures ∙ c.if-is_marker.true))

pub loop-first-preserved : goal.loop-first-preserved
loop-first-preserved g c =
    let seen = g.T.EqualCopy.seen in
    c.loop-first.invariant ∙ ap has_marker (first_sources seen c.loop-first.rest.now c.in-Some.first.now
    c.in-Some.others.now c.in-Some.ensures.cases.0) ∙ marker_after (piece_sources seen c.in-Some.first.now)
    (sources_of seen c.in-Some.others.now) (sym c.is_marker.ensures ∙ c.if-is_marker.false)
