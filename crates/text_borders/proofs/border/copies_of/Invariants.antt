use Rattle.std.proofs.Common.{◌≡◌, ◌++◌, map, length}
use Rattle.text_borders.specs.Borders.{hole_of}
use Rattle.text_borders.proofs.border.copies_of.Given as goal

abbrev pub invariant-loop-hole : goal.invariant-loop-hole
invariant-loop-hole g l =
    let seen = g.T.EqualCopy.seen in
    map (hole_of seen) l.copies.items ++ map (hole_of seen) l.rest ≡ map (hole_of seen) l.holes

abbrev pub decreases-loop-hole : goal.decreases-loop-hole
decreases-loop-hole g l = length l.rest
