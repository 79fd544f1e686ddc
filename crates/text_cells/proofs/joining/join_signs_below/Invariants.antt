use Rattle.std.proofs.Common.{◌≡◌, length}
use Rattle.std.specs.Prelude.{fold}
use Rattle.std.specs.Option.{option_map}
use Rattle.text_borders.specs.Segments.{with_down}
use Rattle.text_borders.specs.Borders.{border_of, change_to, with_segments}
use Rattle.text_cells.proofs.joining.join_signs_below.Given as goal

abbrev pub invariant-loop-sign : goal.invariant-loop-sign
invariant-loop-sign g l =
    let now = border_of g.T.EqualCopy.seen l.border in
    let first = border_of g.T.EqualCopy.seen l.fn.border in
    with_segments (fold (change_to (option_map with_down)) now.segments l.rest) now
    ≡ with_segments (fold (change_to (option_map with_down)) first.segments l.signs) first

abbrev pub decreases-loop-sign : goal.decreases-loop-sign
decreases-loop-sign g l = length l.rest
