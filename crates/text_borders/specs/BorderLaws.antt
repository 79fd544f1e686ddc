-- Words of the laws on borders.
use Rattle.std.specs.Prelude.{◌≡◌, ◌+◌, ◌-◌, ◌≤◌, ◌&&◌, [], ◌∷◌, if◌then◌else◌, Bool, List, length, nat_le, suc, zero}
use Rattle.std.specs.Prelude.{ℕ}
use Rattle.text_lines.specs.Tagged.{line_columns}
use Rattle.text_borders.specs.Segments.{Segment}
use Rattle.text_borders.specs.Borders.{Hole, Border, horizontal}

-- the segment of a column; after a border's end it goes on as ─
abbrev pub segment_at : ℕ → List Segment → Segment
segment_at k [] = horizontal
segment_at zero (s ∷ segments) = s
segment_at (suc k) (s ∷ segments) = segment_at k segments

-- of a border that begins at a column, the test holds of the segment that stands at another
abbrev pub asks_at : (Segment → Bool) → ℕ → List Segment → ℕ → Bool
asks_at asks place segments k = nat_le place k && asks (segment_at (k - place) segments)

-- At each column stands the old segment, changed exactly where the other border asks for it.
abbrev pub IsChangedWhereAsked : (Segment → Bool) → (Segment → Segment) → ℕ → List Segment → List Segment
    → List Segment → Type 0
IsChangedWhereAsked asks f place other old new = (k : ℕ)
    → segment_at k new ≡ (if asks_at asks place other k then f (segment_at k old) else segment_at k old)

-- the texts stand one after the other between two columns
abbrev pub AreInOrder : {S : Type 0} → ℕ → ℕ → List (Hole S) → Type 0
AreInOrder at end [] = at ≤ end
AreInOrder at end (h ∷ holes) = (at ≤ h.place) × AreInOrder (h.place + line_columns h.items) end holes

-- within the border
abbrev pub IsSound : {S : Type 0} → Border S → Type 0
IsSound b = AreInOrder 0 (length b.segments) b.holes
