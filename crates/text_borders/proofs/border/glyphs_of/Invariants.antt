use Rattle.std.proofs.Common.{◌≡◌, ◌++◌, chars, map, length, string_bytes}
use Rattle.text_borders.specs.Segments.{segment_of, glyph_of}
use Rattle.text_borders.proofs.border.glyphs_of.Given as goal

abbrev pub invariant-loop-segment : goal.invariant-loop-segment
invariant-loop-segment l = chars (string_bytes l.text) ++ map glyph_of (map segment_of l.rest)
    ≡ map glyph_of (map segment_of l.segments)

abbrev pub decreases-loop-segment : goal.decreases-loop-segment
decreases-loop-segment l = length l.rest
