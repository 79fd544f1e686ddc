-- Borders: lists of segments, with holes in which text stands.
use Rattle.std.specs.Prelude.{◌+◌, ◌-◌, ◌==◌, [], ◌∷◌, ◌++◌, if◌then◌else◌, Bool, List, drop, false, fold, length, map}
use Rattle.std.specs.Prelude.{max, nat_lt, replicate, suc, take, true, zero, ℕ}
use Rattle.std.specs.Option.{option_map}
use Rattle.text_lines.specs.Tagged.{Item, character, tagged, line_items, line_columns}
use Rattle.text_borders.specs.Segments.{Segment, arms, glyph_of, joins_above, joins_below, runs_above, segment_of}
use Rattle.text_borders.specs.Segments.{with_down, with_up, without_left, without_right}
use Rattle.text_borders.specs.declared.border.BorderHoriz.{BorderHoriz}
use Rattle.text_borders.specs.declared.border.Hole as code

abbrev pub is_filled : {A : Type 0} → List A → Bool
is_filled [] = false
is_filled (x ∷ xs) = true

-- text that stands in a border from a column on
pub record Hole (S : Type 0) : Type 0 where
  pub place : ℕ
  pub items : List (Item S)

pub record Border (S : Type 0) : Type 0 where
  pub segments : List Segment
  pub tag : S
  pub holes : List (Hole S)

abbrev pub hole_of : {T S : Type 0} → (T → S) → code.Hole T → Hole S
hole_of seen hole = record { place = hole.place; items = line_items seen hole.line }

abbrev pub border_of : {T S : Type 0} → (T → S) → BorderHoriz T → Border S
border_of seen border = record {
  segments = map segment_of border.segments.items;
  tag = seen border.tag;
  holes = map (hole_of seen) border.holes.items;
}

abbrev pub has_holes : {S : Type 0} → Border S → Bool
has_holes b = is_filled b.holes

abbrev pub horizontal : Segment
horizontal = arms false false true true

-- a border of so many segments that are alike
abbrev pub plain : {S : Type 0} → Segment → ℕ → S → Border S
plain segment width tag = record { segments = replicate width segment; tag = tag; holes = [] }

abbrev pub stretched : ℕ → List Segment → List Segment
stretched width segments = segments ++ replicate (width - length segments) horizontal

-- the segment of one column changes
abbrev pub change_at : (Segment → Segment) → ℕ → List Segment → List Segment
change_at f k [] = []
change_at f zero (s ∷ segments) = f s ∷ segments
change_at f (suc k) (s ∷ segments) = s ∷ change_at f k segments

-- the segment of a column, to which the border is stretched where it is narrower
abbrev pub change_to : (Segment → Segment) → List Segment → ℕ → List Segment
change_to f segments k = change_at f k (stretched (k + 1) segments)

abbrev pub with_segments : {S : Type 0} → List Segment → Border S → Border S
with_segments segments b = record b { segments = segments }

abbrev pub joined_above : {S : Type 0} → ℕ → Border S → Border S
joined_above k b = with_segments (change_to (option_map with_up) b.segments k) b

abbrev pub joined_below : {S : Type 0} → ℕ → Border S → Border S
joined_below k b = with_segments (change_to (option_map with_down) b.segments k) b

-- the columns, from one on, whose segments pass a test
abbrev pub columns_where : (Segment → Bool) → ℕ → List Segment → List ℕ
columns_where is at [] = []
columns_where is at (s ∷ segments) = if is s then at ∷ columns_where is (at + 1) segments
    else columns_where is (at + 1) segments

-- another border, which begins at a column, is taken in: from below, or from above
abbrev pub merged_below : {S : Type 0} → List Segment → ℕ → Border S → Border S
merged_below other place b = with_segments
    (fold (change_to (option_map with_down)) b.segments (columns_where joins_below place other)) b

abbrev pub merged_above : {S : Type 0} → List Segment → ℕ → Border S → Border S
merged_above other place b = with_segments
    (fold (change_to (option_map with_up)) b.segments (columns_where joins_above place other)) b

-- A text makes a hole: the segments beside it lose the arms that point to it.
abbrev pub chop_before : ℕ → List Segment → List Segment
chop_before k segments = if k == 0 then segments else change_at (option_map without_right) (k - 1) segments

abbrev pub chopped_before : {S : Type 0} → ℕ → Border S → Border S
chopped_before k b = with_segments (chop_before k b.segments) b

abbrev pub chopped_after : {S : Type 0} → ℕ → Border S → Border S
chopped_after k b = with_segments (change_at (option_map without_left) k b.segments) b

abbrev pub with_hole : {S : Type 0} → ℕ → List (Item S) → Border S → Border S
with_hole place items b = record b { holes = b.holes ++ (record { place = place; items = items }) ∷ [] }

abbrev pub punched_at : {S : Type 0} → ℕ → List (Item S) → Border S → Border S
punched_at place items b =
    let end = place + line_columns items in
    with_hole place items (chopped_after end (chopped_before place (with_segments (stretched end b.segments) b)))

-- the column after the last text, or after another
abbrev pub holes_end : {S : Type 0} → ℕ → List (Hole S) → ℕ
holes_end at holes = fold (λ _ h. h.place + line_columns h.items) at holes

-- A text whose place another one takes stands after that, so no column is shown twice.
abbrev pub punched : {S : Type 0} → ℕ → List (Item S) → Border S → Border S
punched place items b = punched_at (max place (holes_end 0 b.holes)) items b

-- Spaces fill a border up to a width: they stand after it as a text, which takes no arm off.
abbrev pub filled_to : {S : Type 0} → ℕ → Border S → Border S
filled_to width b =
    if nat_lt (length b.segments) width
    then with_hole (length b.segments) (replicate (width - length b.segments) (character 0x20 b.tag))
    (with_segments (stretched width b.segments) b)
    else b

-- What is shown: the glyphs of the segments, and in their place the texts of the holes.
abbrev pub glyphs : {S : Type 0} → S → List Segment → List (Item S)
glyphs tag segments = tagged (map glyph_of segments) tag

abbrev pub shown_from : {S : Type 0} → S → ℕ → List Segment → List (Hole S) → List (Item S)
shown_from tag at segments [] = glyphs tag segments
shown_from tag at segments (h ∷ holes) =
    glyphs tag (take (h.place - at) segments) ++ (h.items
    ++ shown_from tag (h.place + line_columns h.items) (drop (h.place + line_columns h.items - at) segments) holes)

abbrev pub shown : {S : Type 0} → Border S → List (Item S)
shown b = shown_from b.tag 0 b.segments b.holes

-- the vertical lines that come down to the border, and spaces between them
abbrev pub line_above : Segment → ℕ
line_above s = if runs_above s then 0x2502 else 0x20

abbrev pub lines_above : {S : Type 0} → S → Border S → List (Item S)
lines_above tag b = tagged (map line_above b.segments) tag
