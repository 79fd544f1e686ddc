-- Layouts of a stretch of normal text on lines of at most a width, in columns.
use Rattle.std.specs.Prelude.{◌≡◌, ◌+◌, ◌<◌, ◌≤◌, [], ◌∷◌, ◌++◌, ◌⊎◌, if◌then◌else◌, All, Bool, IsTrue, List, None}
use Rattle.std.specs.Prelude.{Option, Some, false, flat_map, length, map, nat_le, true, ℕ}
use Rattle.text_lines.specs.Columns.{width_of}
use Rattle.text_lines.specs.Tagged.{Item, character}
use Rattle.text_normal.specs.Units.{Letter, Piece, letters_columns, units}

-- How a letter stands to a line's beginning.
--   opens space   the first of a unit that fits a line: it starts a line, or follows with its gap
--   starts        the first of a wider unit: it starts a line
--   inside        a further one of a unit that fits: it never starts a line
--   cuttable      a further one of a wider unit: it starts a line or follows
pub data Joint (S : Type 0) : Type 0 where
  opens : Option S → Joint S
  starts : Joint S
  inside : Joint S
  cuttable : Joint S

pub record Mark (S : Type 0) : Type 0 where
  pub letter : Letter S
  pub joint : Joint S

abbrev pub mark : {S : Type 0} → Letter S → Joint S → Mark S
mark l j = record { letter = l; joint = j }

abbrev pub marked : {S : Type 0} → Joint S → Joint S → List (Letter S) → List (Mark S)
marked first further [] = []
marked first further (l ∷ ls) = mark l first ∷ map (λ x. mark x further) ls

abbrev pub unit_marks : {S : Type 0} → ℕ → Piece S → List (Mark S)
unit_marks width p = if nat_le (letters_columns p.letters) width then marked (opens p.space) inside p.letters
    else marked starts cuttable p.letters

-- the letters of the units in order
abbrev pub marks : {S : Type 0} → ℕ → List (Letter S) → List (Mark S)
marks width ls = flat_map (unit_marks width) (units ls)

abbrev pub can_start : {S : Type 0} → Joint S → Bool
can_start (opens space) = true
can_start starts = true
can_start inside = false
can_start cuttable = true

abbrev pub can_follow : {S : Type 0} → Joint S → Bool
can_follow (opens space) = true
can_follow starts = false
can_follow inside = true
can_follow cuttable = true

-- the columns of the gap before a letter that follows
abbrev pub gap : {S : Type 0} → Joint S → ℕ
gap (opens (Some tag)) = 1
gap (opens None) = 0
gap starts = 0
gap inside = 0
gap cuttable = 0

abbrev pub following_columns : {S : Type 0} → List (Mark S) → ℕ
following_columns [] = 0
following_columns (m ∷ ms) = gap m.joint + width_of m.letter.code + following_columns ms

-- the columns of a line: the first letter's gap doesn't stand
abbrev pub columns : {S : Type 0} → List (Mark S) → ℕ
columns [] = 0
columns (m ∷ ms) = width_of m.letter.code + following_columns ms

-- A line: some letters of which the first can start and the others can follow, on at most the width's columns.
abbrev pub IsLine : {S : Type 0} → ℕ → List (Mark S) → Type 0
IsLine width [] = ⊥
IsLine width (m ∷ ms) = IsTrue (can_start m.joint) × All (λ n. IsTrue (can_follow n.joint)) ms × (columns
    (m ∷ ms) ≤ width)

-- A letter wider than the width, alone on its line.
abbrev pub IsOverflow : {S : Type 0} → ℕ → List (Mark S) → Type 0
IsOverflow width [] = ⊥
IsOverflow width (m ∷ []) = IsTrue (can_start m.joint) × (width < width_of m.letter.code)
IsOverflow width (m ∷ n ∷ ms) = ⊥

abbrev pub IsAllowed : {S : Type 0} → ℕ → Bool → List (Mark S) → Type 0
IsAllowed width false line = IsLine width line
IsAllowed width true line = IsLine width line ⊎ IsOverflow width line

abbrev pub joined_lines : {S : Type 0} → List (List (Mark S)) → List (Mark S)
joined_lines lines = flat_map (λ line. line) lines

-- A legal layout: the letters in order, divided into lines. (Units that fit are whole on a line, wider ones start
-- a line and are cut between letters, and gaps stand between neighbours on a line, all by the letters' joints.)
pub record IsLayout {S : Type 0} (width : ℕ) (overflow : Bool) (ms : List (Mark S))
    (lines : List (List (Mark S))) : Type 0 where
  pub whole : joined_lines lines ≡ ms
  pub each : All (IsAllowed width overflow) lines

-- The fullest layout: each line in turn has as many letters as in any legal layout with the same lines before it.
pub record IsFullest {S : Type 0} (width : ℕ) (overflow : Bool) (ms : List (Mark S))
    (lines : List (List (Mark S))) : Type 0 where
  pub layout : IsLayout width overflow ms lines
  pub full : (before : List (List (Mark S))) (line : List (Mark S)) (after : List (List (Mark S)))
      (other : List (Mark S)) (others : List (List (Mark S))) →
      lines ≡ before ++ line ∷ after → IsLayout width overflow ms (before ++ other ∷ others)
      → length other ≤ length line

-- No legal layout.
abbrev pub HasNoLayout : {S : Type 0} → ℕ → Bool → List (Mark S) → Type 0
HasNoLayout width overflow ms = (lines : List (List (Mark _))) → IsLayout width overflow ms lines → ⊥

-- What stands on a line: its letters, with a space before each that follows with a gap.
abbrev pub gap_items : {S : Type 0} → Joint S → List (Item S)
gap_items (opens (Some tag)) = character 0x20 tag ∷ []
gap_items (opens None) = []
gap_items starts = []
gap_items inside = []
gap_items cuttable = []

abbrev pub following_items : {S : Type 0} → List (Mark S) → List (Item S)
following_items [] = []
following_items (m ∷ ms) = gap_items m.joint ++ character m.letter.code m.letter.tag ∷ following_items ms

abbrev pub marks_items : {S : Type 0} → List (Mark S) → List (Item S)
marks_items [] = []
marks_items (m ∷ ms) = character m.letter.code m.letter.tag ∷ following_items ms

-- The lines of a stretch: what stands on the lines of its fullest layout.
pub record AreLinesOf {S : Type 0} (width : ℕ) (overflow : Bool) (read : List (Letter S))
    (lines : List (List (Item S))) : Type 0 where
  pub layout : List (List (Mark S))
  pub fullest : IsFullest width overflow (marks width read) layout
  pub shown : lines ≡ map marks_items layout

-- The stretch has no legal layout, and no stretch that holds it has one.
abbrev pub NeverFits : {S : Type 0} → ℕ → Bool → List (Letter S) → Type 0
NeverFits width overflow read = (before after : List (Letter _)) → HasNoLayout width overflow
    (marks width (before ++ (read ++ after)))
