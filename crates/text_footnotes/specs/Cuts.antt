-- Lines that are cut at a width, where there is one.
use Rattle.std.specs.Prelude.{◌+◌, ◌<◌, ◌≤◌, ◌==◌, ◌||◌, [], ◌∷◌, ◌++◌, if◌then◌else◌, All, Bool, List, None, Option}
use Rattle.std.specs.Prelude.{Some, Vec, false, map, nat_le, not, true, ℕ}
use Rattle.std.specs.Global.{Global}
use Rattle.text_lines.specs.Columns.{width_of}
use Rattle.text_lines.specs.Tagged.{Item, character, marker, line_items, line_columns, IsJoined}
use Rattle.text_pieces.specs.Items.{has_text}
use Rattle.text_footnotes.specs.Footnotes.{Cut, placed, noted, footnote_lines}
use Rattle.text_footnotes.specs.declared.cutting.CutLines.{CutLines}

-- annotations that stand together are a tag
abbrev pub tags_seen : {A S : Type 0} → (A → S) → Vec A Global → List S
tags_seen seen tags = map seen tags.items

abbrev pub cut_of : {T S : Type 0} → (T → S) → CutLines T → Cut S
cut_of seen cut = record { done = map (line_items seen) cut.done.items; line = line_items seen cut.line }

-- no text of its lines is empty, and none stands next to one with an equal tag
abbrev pub HasJoinedTexts : {T S : Type 0} → (T → S) → CutLines T → Type 0
HasJoinedTexts seen cut = All (IsJoined seen) cut.done.items × IsJoined seen cut.line

-- the lines that a line after the page gives, cut where there is a width
abbrev pub lines_within : {A : Type 0} → Option ℕ → List (Item A) → List (List (Item (List A)))
lines_within None items = footnote_lines false 0 items
lines_within (Some width) items = footnote_lines true width items

abbrev pub has_room : {S : Type 0} → Option ℕ → List (Item S) → ℕ → Bool
has_room None line c = true
has_room (Some width) line c = nat_le (line_columns line + width_of c) width || not (has_text line)

-- the line has room for so many columns
abbrev pub HasRoomFor : {S : Type 0} → Option ℕ → List (Item S) → ℕ → Type 0
HasRoomFor None line n = Unit {0}
HasRoomFor (Some width) line n = 0 < n → line_columns line + n ≤ width

-- printable ASCII: a character that takes one column, and a byte
abbrev pub IsPrintable : ℕ → Type 0
IsPrintable c = (0x20 ≤ c) × (c ≤ 0x7E)

-- the line at hand is done, where it has no room for the character
abbrev pub with_room : {S : Type 0} → Option ℕ → ℕ → Cut S → Cut S
with_room width c cut =
    if has_room width cut.line c then cut else record { done = cut.done ++ cut.line ∷ []; line = [] }

abbrev pub placed_within : {S : Type 0} → Option ℕ → Cut S → Item S → Cut S
placed_within None cut item = record cut { line = cut.line ++ item ∷ [] }
placed_within (Some width) cut item = placed width cut item

-- a line end is a space
abbrev pub spaced : ℕ → ℕ
spaced c = if c == 0xA then 0x20 else c

abbrev pub placed_spaced : {S : Type 0} → Option ℕ → Cut S → Item S → Cut S
placed_spaced width cut (character c tag) = placed_within width cut (character (spaced c) tag)
placed_spaced width cut (marker name) = placed_within width cut (marker name)

abbrev pub placed_noted : {A : Type 0} → Option ℕ → Cut (List A) → Item A → Cut (List A)
placed_noted width cut item = placed_within width cut (noted item)
