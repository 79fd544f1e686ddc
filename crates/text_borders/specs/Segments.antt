-- Segments of borders (the Unicode Standard's box drawing block names them by their arms).
use Rattle.std.specs.Prelude.{ℕ, Bool, true, false, not, ◌&&◌, ◌||◌, Option, None, Some, if◌then◌else◌}
use Rattle.text_borders.specs.declared.segment.BorderSegHoriz.{BorderSegHoriz}
use Rattle.text_borders.specs.declared.segment.BorderSegHoriz.TheVariants.{CornerBL, CornerBR, CornerTL, CornerTR}
use Rattle.text_borders.specs.declared.segment.BorderSegHoriz.TheVariants.{Horiz, HorizVert, JoinAbove, JoinBelow}
use Rattle.text_borders.specs.declared.segment.BorderSegHoriz.TheVariants.{JoinCross, JoinLeft, JoinRight, Vert}

-- the arms that a segment has
pub record Arms : Type 0 where
  pub up : Bool
  pub down : Bool
  pub left : Bool
  pub right : Bool

-- A segment is its arms; the slash is none of these, and never changes.
abbrev pub Segment : Type 0
Segment = Option Arms

abbrev pub arms : Bool → Bool → Bool → Bool → Segment
arms up down left right = Some (record { up = up; down = down; left = left; right = right })

abbrev pub segment_of : BorderSegHoriz → Segment
segment_of Horiz = arms false false true true
segment_of JoinAbove = arms true false true true
segment_of JoinBelow = arms false true true true
segment_of JoinCross = arms true true true true
segment_of Vert = arms true true false false
segment_of HorizVert = None
segment_of JoinLeft = arms true true true false
segment_of JoinRight = arms true true false true
segment_of CornerTL = arms false true false true
segment_of CornerTR = arms false true true false
segment_of CornerBL = arms true false false true
segment_of CornerBR = arms true false true false

-- what has no horizontal arm is the vertical line
abbrev pub settled : Arms → Arms
settled a = if a.left || a.right then a else record a { up = true; down = true }

-- an arm that is taken off; the horizontal line stays
abbrev pub without_left : Arms → Arms
without_left a = if a.up || a.down then settled (record a { left = false }) else a

abbrev pub without_right : Arms → Arms
without_right a = if a.up || a.down then settled (record a { right = false }) else a

-- an arm that is added
abbrev pub with_up : Arms → Arms
with_up a = record a { up = true }

abbrev pub with_down : Arms → Arms
with_down a = record a { down = true }

abbrev pub is_across : Arms → Bool
is_across a = a.left && a.right

abbrev pub is_corner_below : Arms → Bool
is_corner_below a = a.up && not a.down && (a.left || a.right)

abbrev pub is_corner_above : Arms → Bool
is_corner_above a = a.down && not a.up && (a.left || a.right)

-- ┴ ┬ ┼ └ ┘: a border above that takes this one in is joined below there
abbrev pub joins_below : Segment → Bool
joins_below None = false
joins_below (Some a) = if is_across a then a.up || a.down else is_corner_below a

-- ┴ ┬ ┼ ┌ ┐: a border below that takes this one in is joined above there
abbrev pub joins_above : Segment → Bool
joins_above None = false
joins_above (Some a) = if is_across a then a.up || a.down else is_corner_above a

-- ┴ ┼ └ ┘: a vertical line comes down to it from above
abbrev pub runs_above : Segment → Bool
runs_above None = false
runs_above (Some a) = if is_across a then a.up else is_corner_below a

-- The character of a segment, up, down, left and right. A lone arm is no segment, and shown as the whole line.
abbrev pub glyph : Bool → Bool → Bool → Bool → ℕ
glyph true true true true = 0x253C
glyph true true true false = 0x2524
glyph true true false true = 0x251C
glyph true true false false = 0x2502
glyph true false true true = 0x2534
glyph true false true false = 0x2518
glyph true false false true = 0x2514
glyph true false false false = 0x2502
glyph false true true true = 0x252C
glyph false true true false = 0x2510
glyph false true false true = 0x250C
glyph false true false false = 0x2502
glyph false false true true = 0x2500
glyph false false true false = 0x2500
glyph false false false true = 0x2500
glyph false false false false = 0x20

abbrev pub glyph_of : Segment → ℕ
glyph_of None = 0x2F
glyph_of (Some a) = glyph a.up a.down a.left a.right
