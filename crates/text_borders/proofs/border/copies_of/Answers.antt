use Rattle.std.proofs.Common.{sym, ap, ◌∙◌, ◌++◌, map, append-nil}
use Rattle.text_borders.specs.Borders.{hole_of}
use Rattle.text_borders.proofs.SegmentLemmas.{nothing_left, more_copied}
use Rattle.text_borders.proofs.border.copies_of.Goals as goal

pub loop-hole-preserved : goal.loop-hole-preserved
loop-hole-preserved g c =
    let seen = g.T.EqualCopy.seen in
    more_copied (hole_of seen) c.loop-hole.copies.items _ _ c.in-Some.hole.now c.in-Some.others.now
    c.in_ok-push.ensures.items c.in_ok-try_clone.ensures
    ∙ ap (λ hs. map (hole_of seen) c.loop-hole.copies.items ++ map (hole_of seen) hs) (sym c.in-Some.ensures.cases.0)
    ∙ c.loop-hole.invariant

pub returns : goal.returns
returns g c =
    let seen = g.T.EqualCopy.seen in
    sym (ap (λ hs. map (hole_of seen) c.loop-hole.copies.items ++ map (hole_of seen) hs)
    (nothing_left c.loop-hole.rest.now c.in_default.ensures.cases)
    ∙ append-nil (map (hole_of seen) c.loop-hole.copies.items)) ∙ c.loop-hole.invariant
