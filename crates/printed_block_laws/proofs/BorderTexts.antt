-- A border is shown without a control character, where the texts that stand in it hold none.
use Rattle.std.proofs.Common.{◌-◌, ◌+◌, [], ◌∷◌, ◌++◌, if◌then◌else◌, All, Bool, List, None, Some, drop, false}
use Rattle.std.proofs.Common.{length, map, refl, replicate, take, true, ℕ}
use Rattle.std.specs.Prelude.{max, nat_lt}
use Rattle.std.proofs.lemmas.List.Elements.{All-head, All-push, All-tail}
use Rattle.text_lines.specs.Tagged.{Item, character, line_columns, marker, tagged}
use Rattle.text_borders.specs.Segments.{Segment, glyph, glyph_of, runs_above}
use Rattle.text_borders.specs.Borders.{Border, Hole, filled_to, glyphs, holes_end, line_above, punched, shown}
use Rattle.text_borders.specs.Borders.{shown_from, stretched, with_hole, with_segments}
use Rattle.text_borders.specs.Lines.{BlockLine, border, line_shown, text}
use Rattle.text_borders.specs.Across.{as_text, retagged, spaces, widened}
use Rattle.printed_block_laws.specs.Printed.{ArePrinted, IsPrinted, IsPrintedLine}
use Rattle.printed_block_laws.proofs.PrintedItems.{none_printed, printed_both, printed_first, printed_more}
use Rattle.printed_block_laws.proofs.PrintedItems.{printed_rest, printed_spaces}

abbrev pub AreHolesPrinted : {S : Type 0} → List (Hole S) → Type 0
AreHolesPrinted holes = All (λ h. ArePrinted h.items) holes

-- ---- segments

glyph_printed : (up down left right : Bool) → IsPrinted (glyph up down left right)
glyph_printed true true true true = refl
glyph_printed true true true false = refl
glyph_printed true true false true = refl
glyph_printed true true false false = refl
glyph_printed true false true true = refl
glyph_printed true false true false = refl
glyph_printed true false false true = refl
glyph_printed true false false false = refl
glyph_printed false true true true = refl
glyph_printed false true true false = refl
glyph_printed false true false true = refl
glyph_printed false true false false = refl
glyph_printed false false true true = refl
glyph_printed false false true false = refl
glyph_printed false false false true = refl
glyph_printed false false false false = refl

segment_printed : (s : Segment) → IsPrinted (glyph_of s)
segment_printed None = refl
segment_printed (Some a) = glyph_printed a.up a.down a.left a.right

glyphs_printed : {S : Type 0} (tag : S) (segments : List Segment) → ArePrinted (glyphs tag segments)
glyphs_printed tag [] = none_printed
glyphs_printed tag (s ∷ segments) =
    printed_more (glyph_of s) tag (glyphs tag segments) (segment_printed s) (glyphs_printed tag segments)

above_printed : (s : Segment) → IsPrinted (line_above s)
above_printed s = by_line (runs_above s)
  where
    by_line : (b : Bool) → IsPrinted (if b then 0x2502 else 0x20)
    by_line true = refl
    by_line false = refl

pub lines_above_printed : {S : Type 0} (tag : S) (segments : List Segment)
    → ArePrinted (tagged (map line_above segments) tag)
lines_above_printed tag [] = none_printed
lines_above_printed tag (s ∷ segments) =
    printed_more (line_above s) tag (tagged (map line_above segments) tag) (above_printed s)
    (lines_above_printed tag segments)

-- ---- what is shown

from_printed : {S : Type 0} (tag : S) (at : ℕ) (segments : List Segment) (holes : List (Hole S))
    → AreHolesPrinted holes → ArePrinted (shown_from tag at segments holes)
from_printed tag at segments [] all = glyphs_printed tag segments
from_printed tag at segments (h ∷ holes) all =
    let end = h.place + line_columns h.items in
    printed_both (glyphs tag (take (h.place - at) segments))
    (h.items ++ shown_from tag end (drop (end - at) segments) holes)
    (glyphs_printed tag (take (h.place - at) segments))
    (printed_both h.items (shown_from tag end (drop (end - at) segments) holes)
    (All-head (λ x. ArePrinted x.items) h holes all)
    (from_printed tag end (drop (end - at) segments) holes (All-tail (λ x. ArePrinted x.items) h holes all)))

pub shown_printed : {S : Type 0} (b : Border S) → AreHolesPrinted b.holes → ArePrinted (shown b)
shown_printed b all = from_printed b.tag 0 b.segments b.holes all

pub line_shown_printed : {S : Type 0} (l : BlockLine S) → IsPrintedLine l → ArePrinted (line_shown l)
line_shown_printed (text items) h = h
line_shown_printed (border b) h = shown_printed b h

retagged_printed : {S : Type 0} (tag : S) (items : List (Item S)) → ArePrinted items → ArePrinted (retagged tag items)
retagged_printed tag [] h = h
retagged_printed tag (character c old ∷ items) h =
    printed_both (character c tag ∷ []) (retagged tag items) (printed_first (character c old) items h)
    (retagged_printed tag items (printed_rest (character c old) items h))
retagged_printed tag (marker name ∷ items) h = retagged_printed tag items h

pub as_text_printed : {S : Type 0} (tag : S) (l : BlockLine S) → IsPrintedLine l → ArePrinted (as_text tag l)
as_text_printed tag (text items) h = h
as_text_printed tag (border b) h = retagged_printed tag (shown b) (shown_printed b h)

pub widened_printed : {S : Type 0} (width : ℕ) (tag : S) (l : BlockLine S) → IsPrintedLine l
    → ArePrinted (widened width tag l)
widened_printed width tag (text items) h =
    printed_both items (spaces (width - line_columns items) tag) h
    (printed_spaces (width - line_columns items) tag)
widened_printed width tag (border b) h =
    retagged_printed tag (shown (with_segments (stretched width b.segments) b))
    (shown_printed (with_segments (stretched width b.segments) b) h)

-- ---- texts that are put into a border

hole_printed : {S : Type 0} (place : ℕ) (items : List (Item S)) (b : Border S) → ArePrinted items
    → AreHolesPrinted b.holes → AreHolesPrinted (with_hole place items b).holes
hole_printed place items b new all =
    All-push (λ h. ArePrinted h.items) b.holes (record { place = place; items = items }) all new

pub punched_printed : {S : Type 0} (place : ℕ) (items : List (Item S)) (b : Border S) → ArePrinted items
    → AreHolesPrinted b.holes → AreHolesPrinted (punched place items b).holes
punched_printed place items b new all = hole_printed (max place (holes_end 0 b.holes)) items b new all

pub filled_printed : {S : Type 0} (width : ℕ) (b : Border S) → AreHolesPrinted b.holes
    → AreHolesPrinted (filled_to width b).holes
filled_printed {S = S} width b all = by_width (nat_lt (length b.segments) width)
  where
    by_width : (t : Bool) → AreHolesPrinted (if t then with_hole (length b.segments)
        (replicate (width - length b.segments) (character 0x20 b.tag))
        (with_segments (stretched width b.segments) b) else b).holes
    by_width true =
        hole_printed (length b.segments) (replicate (width - length b.segments) (character 0x20 b.tag))
        (with_segments (stretched width b.segments) b) (printed_spaces (width - length b.segments) b.tag) all
    by_width false = all
