-- What contracts see of a `NormalText`: how its lines, its white space and its word follow from what was read.
use Rattle.std.specs.Prelude.{◌≡◌, ◌≢◌, ◌+◌, ◌<◌, ◌≤◌, ◌||◌, [], ◌∷◌, ◌++◌, if◌then◌else◌, All, Bool, IsTrue, List}
use Rattle.std.specs.Prelude.{None, Option, Some, chars, encode_utf8, false, fold, is_some, length, map, nat_le, true}
use Rattle.std.specs.Prelude.{ℕ}
use Rattle.std.specs.Option.{option_map}
use Rattle.text_lines.specs.Columns.{columns_of, width_of}
use Rattle.text_lines.specs.Tagged.{Item, character, line_items, line_columns, tagged, IsJoined}
use Rattle.text_normal.specs.Units.{Letter, Piece, first_of, has_columns, is_break_point, is_white_space, lettered}
use Rattle.text_normal.specs.Units.{piece, units}
use Rattle.text_pieces.specs.Cuts.{IsAfter}
use Rattle.text_pieces.specs.Sources.{is_filled}
use Rattle.text_normal.specs.Layout.{Mark, opens, inside, marked, columns, marks_items, gap}
use Rattle.text_normal.specs.Greedy.{Filled, filled, all_lines, add_unit, add_units, add_marks, add_mark}
use Rattle.text_normal.specs.SpacedWords.{IsWord, spaced, IsWordsAndSpace, IsLineAndSpace}
use Rattle.text_normal.specs.Filling.{Reading, reading, read_letters, nothing_read}
use Rattle.text_lines.specs.declared.tagged_line.TaggedLine.{TaggedLine}
use Rattle.text_normal.specs.declared.filling.Filling.{Filling}
use Rattle.text_normal.specs.declared.normal.NormalText.{NormalText}

-- a space with the tag, where there is one
abbrev pub space_items : {S : Type 0} → Option S → List (Item S)
space_items None = []
space_items (Some tag) = character 0x20 tag ∷ []

abbrev pub space_columns : {S : Type 0} → Option S → ℕ
space_columns None = 0
space_columns (Some tag) = 1

-- the space after what stands on a line: none at its beginning
abbrev pub space_after : {S : Type 0} → List (Item S) → Option S → List (Item S)
space_after [] space = []
space_after (item ∷ items) space = space_items space

-- the line at hand, or a fresh one where so many columns more don't go on it
abbrev pub with_room : {S : Type 0} → ℕ → ℕ → Filled S → Filled S
with_room more width f = if nat_le (columns f.line + more) width then f else filled (all_lines f) []

-- letters as they stand on a line
abbrev pub letter_items : {S : Type 0} → List (Letter S) → List (Item S)
letter_items ls = map (λ l. character l.code l.tag) ls

-- a line can hold the letter, or it stands on none
abbrev pub has_room : {S : Type 0} → ℕ → Bool → Letter S → Bool
has_room width overflow l = overflow || (is_break_point l.code || nat_le (width_of l.code) width)

abbrev pub AllHaveRoom : {S : Type 0} → ℕ → Bool → List (Letter S) → Type 0
AllHaveRoom width overflow ls = All (λ l. IsTrue (has_room width overflow l)) ls

-- Some letter is wider than the width, and wider ones are not allowed.
pub record HasWider {S : Type 0} (width : ℕ) (overflow : Bool) (ls : List (Letter S)) : Type 0 where
  pub front : List (Letter S)
  pub letter : Letter S
  pub back : List (Letter S)
  pub whole : ls ≡ front ++ letter ∷ back
  pub not_allowed : overflow ≡ false
  pub stands : is_break_point letter.code ≡ false
  pub wider : width < width_of letter.code

-- no text of the lines is empty, and none stands next to one with an equal tag
pub record AreAllJoined {T S : Type 0} (seen : T → S) (filling : Filling T) : Type 0 where
  pub done : All (IsJoined seen) filling.done.items
  pub line : IsJoined seen filling.line

-- The lines that were laid so far, and the line at hand.
pub record HoldsLines {T S : Type 0} (seen : T → S) (width : ℕ) (overflow : Bool) (filling : Filling T)
    (f : Filled S) : Type 0 where
  pub same_width : filling.width ≡ width
  pub same_overflow : filling.allow_overflow ≡ overflow
  pub done : map (line_items seen) filling.done.items ≡ map marks_items f.done
  pub line : line_items seen filling.line ≡ marks_items f.line
  pub joined : AreAllJoined seen filling

-- What lines hold before a call, the step makes what they hold after it.
pub record Lays {T S : Type 0} (seen : T → S) (old new : Filling T) (step : ℕ → Filled S → Filled S) : Type 0 where
  pub lays : (width : ℕ) (overflow : Bool) (f : Filled S) → HoldsLines seen width overflow old f
      → HoldsLines seen width overflow new (step width f)

-- no letter has a gap
abbrev pub AreGapless : {S : Type 0} → List (Mark S) → Type 0
AreGapless [] = Unit {0}
AreGapless (m ∷ ms) = (gap m.joint ≡ 0) × AreGapless ms

-- letters without gaps that show as the items
pub record ShowsAs {S : Type 0} (ms : List (Mark S)) (items : List (Item S)) : Type 0 where
  pub gapless : AreGapless ms
  pub shown : map (λ m. character m.letter.code m.letter.tag) ms ≡ items

-- Lays the items letter by letter.
pub record Cuts {T S : Type 0} (seen : T → S) (old new : Filling T) (items : List (Item S)) : Type 0 where
  pub cuts : (ms : List (Mark S)) → ShowsAs ms items → Lays seen old new (λ width f. fold (add_mark width) f ms)

-- Lays the items on a fresh line, letter by letter.
pub record LaysCut {T S : Type 0} (seen : T → S) (old new : Filling T) (items : List (Item S)) : Type 0 where
  pub lays_cut : (ms : List (Mark S)) → ShowsAs ms items
      → Lays seen old new (λ width f. fold (add_mark width) (filled (all_lines f) []) ms)

-- Lays the items whole, after the white space.
pub record LaysWhole {T S : Type 0} (seen : T → S) (old new : Filling T) (space : Option S)
    (items : List (Item S)) : Type 0 where
  pub lays_whole : (l : Letter S) (ls : List (Letter S)) → items ≡ letter_items (l ∷ ls)
      → Lays seen old new (λ width f. add_marks width f (marked (opens space) inside (l ∷ ls)))

-- Lays the items whole or cut, after the white space.
pub record LaysUnit {T S : Type 0} (seen : T → S) (old new : Filling T) (space : Option S)
    (items : List (Item S)) : Type 0 where
  pub lays_unit : (l : Letter S) (ls : List (Letter S)) → items ≡ letter_items (l ∷ ls)
      → Lays seen old new (λ width f. add_unit width f (piece space (l ∷ ls)))

-- The line has columns, and goes on with so many more.
pub record TakesMore {T S : Type 0} (seen : T → S) (filling : Filling T) (more : ℕ) : Type 0 where
  pub some : line_columns (line_items seen filling.line) ≢ 0
  pub fits : line_columns (line_items seen filling.line) + more ≤ filling.width

-- words of one tag, each after a space of the same
abbrev pub word_pieces : {S : Type 0} → S → List (List ℕ) → List (Piece S)
word_pieces tag words = map (λ word. piece (Some tag) (lettered word tag)) words

-- Lays words, each after a space, where the line goes on with them.
pub record LaysWords {T S : Type 0} (seen : T → S) (old new : Filling T) (text : List ℕ) (tag : S) : Type 0 where
  pub lays_words : (words : List (List ℕ)) → All IsWord words → text ≡ spaced words
      → TakesMore seen old (length (spaced words))
      → Lays seen old new (λ width f. fold (add_unit width) f (word_pieces tag words))

-- The line goes on with a text of one tag, and nothing else changes.
pub record GoesOnWith {T S : Type 0} (seen : T → S) (old new : Filling T) (text : List ℕ) (tag : S) : Type 0 where
  pub same_width : new.width ≡ old.width
  pub same_overflow : new.allow_overflow ≡ old.allow_overflow
  pub same_done : new.done.items ≡ old.done.items
  pub line : line_items seen new.line ≡ line_items seen old.line ++ tagged text tag
  pub joins : IsJoined seen old.line → IsJoined seen new.line

-- The lines, the white space and the word of a state of reading.
pub record HoldsReading {T S : Type 0} (seen : T → S) (width : ℕ) (overflow : Bool) (block : NormalText T)
    (r : Reading S) : Type 0 where
  pub same_width : block.width ≡ width
  pub lines : HoldsLines seen width overflow block.lines r.lines
  pub space : option_map seen block.space ≡ r.space
  pub word : line_items seen block.word ≡ letter_items r.letters

-- What a block holds before a call, the step makes what it holds after it.
pub record Moves {T S : Type 0} (seen : T → S) (old new : NormalText T) (step : ℕ → Reading S → Reading S) : Type 0
  where
    pub moves : (width : ℕ) (overflow : Bool) (r : Reading S) → HoldsReading seen width overflow old r
        → HoldsReading seen width overflow new (step width r)

-- The block reads the letters after what it read before, and lines can hold each.
pub record Reads {T S : Type 0} (seen : T → S) (old new : NormalText T) (ls : List (Letter S)) : Type 0 where
  pub moves : Moves seen old new (λ width r. read_letters width r ls)
  pub room : (width : ℕ) (overflow : Bool) (r : Reading S) → HoldsReading seen width overflow old r
      → AllHaveRoom width overflow ls

-- A character of a word that some line can hold.
pub record JoinsWord {T : Type 0} (block : NormalText T) (code : ℕ) : Type 0 where
  pub no_break : is_break_point code ≡ false
  pub has_width : is_some (columns_of code) ≡ true
  pub room : (block.lines.allow_overflow || nat_le (width_of code) block.lines.width) ≡ true

-- Such characters stand in front of what follows.
pub record RunsTo {T : Type 0} (block : NormalText T) (text rest : List ℕ) : Type 0 where
  pub parts : IsAfter text rest
  pub joins : All (JoinsWord block) (chars parts.front)

-- The block reads what stands in front of the rest of the text.
pub record ReadsFront {T S : Type 0} (seen : T → S) (old new : NormalText T) (text rest : List ℕ)
    (tag : S) : Type 0 where
  pub front : List ℕ
  pub whole : chars text ≡ front ++ chars rest
  pub reads : Reads seen old new (lettered front tag)

-- The block reads characters, and maybe some of what follows them, of which the rest is left.
pub record ReadsRun {T S : Type 0} (seen : T → S) (old new : NormalText T) (run rest left : List ℕ)
    (tag : S) : Type 0 where
  pub front : List ℕ
  pub whole : run ++ rest ≡ front ++ left
  pub reads : Reads seen old new (lettered front tag)

-- Characters of so many columns are a whole word: none is at hand, and they have columns in front of a break point.
pub record EndsWord {T S : Type 0} (seen : T → S) (block : NormalText T) (columns : ℕ) (rest : List ℕ) (code : ℕ)
    (trailing : List ℕ) : Type 0 where
  pub some : columns ≢ 0
  pub none_held : line_items seen block.word ≡ []
  pub is_break : is_break_point code ≡ true
  pub whole : rest ≡ encode_utf8 code ++ trailing
  pub shorter : length trailing < length rest

-- Where no word is at hand, the characters are laid as one, and the break point after them is read.
pub record LaysWord {T S : Type 0} (seen : T → S) (old new : NormalText T) (run : List ℕ) (code : ℕ)
    (tag : S) : Type 0 where
  pub lays : (width : ℕ) (overflow : Bool) (r : Reading S) → HoldsReading seen width overflow old r → r.letters ≡ []
      → run ≢ [] → is_break_point code ≡ true → HoldsReading seen width overflow new
      (reading (add_unit width r.lines (piece r.space (lettered run tag))) (if is_white_space code then Some tag
      else None)
      [])

-- No word is at hand, and a space with that tag is to stand before the next.
pub record AwaitsWord {T S : Type 0} (seen : T → S) (block : NormalText T) (tag : S) : Type 0 where
  pub space : option_map seen block.space ≡ Some tag
  pub none_held : line_items seen block.word ≡ []

-- No word is at hand and nothing is on the line, and a text is words that go there, and a space.
pub record FillsLine {T S : Type 0} (seen : T → S) (block : NormalText T) (text : List ℕ) (columns : ℕ) : Type 0 where
  pub none_held : line_items seen block.word ≡ []
  pub fresh : line_items seen block.lines.line ≡ []
  pub words : IsLineAndSpace text columns
  pub fits : columns ≤ block.width

-- A space with that tag is to stand before the next word, and a text is words that go on the line, each after a space,
-- and one more space.
pub record FillsOn {T S : Type 0} (seen : T → S) (block : NormalText T) (text : List ℕ) (columns : ℕ) (tag : S) : Type 0
  where
    pub awaits : AwaitsWord seen block tag
    pub words : IsWordsAndSpace text columns
    pub more : TakesMore seen block.lines columns

-- Some of the letters finds no line.
pub record MeetsWider {T S : Type 0} (seen : T → S) (old : NormalText T) (ls : List (Letter S)) : Type 0 where
  pub wider : (width : ℕ) (overflow : Bool) (r : Reading S) → HoldsReading seen width overflow old r
      → HasWider width overflow ls

-- The block has read these letters, in words that some line can hold.
pub record HasRead {T S : Type 0} (seen : T → S) (width : ℕ) (overflow : Bool) (read : List (Letter S))
    (block : NormalText T) : Type 0 where
  pub state : HoldsReading seen width overflow block (read_letters width nothing_read read)
  pub room : AllHaveRoom width overflow read

-- The lines are those of what a block has read and these letters after it, and lines can hold each.
pub record EndsAs {T S : Type 0} (seen : T → S) (block : NormalText T) (ls : List (Letter S))
    (lines : List (TaggedLine T)) : Type 0 where
  pub laid : (width : ℕ) (overflow : Bool) (read : List (Letter S)) → HasRead seen width overflow read block
      → map (line_items seen) lines ≡ map marks_items (all_lines (add_units width (units (read ++ ls))))
  pub room : (width : ℕ) (overflow : Bool) (read : List (Letter S)) → HasRead seen width overflow read block
      → AllHaveRoom width overflow (read ++ ls)
  pub joined : (width : ℕ) (overflow : Bool) (read : List (Letter S)) → HasRead seen width overflow read block
      → All (IsJoined seen) lines

-- A letter of the word at hand.
abbrev pub word_read : {S : Type 0} → ℕ → S → ℕ → Reading S → Reading S
word_read code tag width r = reading r.lines r.space (r.letters ++ lettered (code ∷ []) tag)

-- A break point after the word at hand.
abbrev pub space_read : {S : Type 0} → ℕ → S → ℕ → Reading S → Reading S
space_read code tag width r = reading r.lines (first_of r.space (if is_white_space code then Some tag else None))
    r.letters

-- the word at hand is laid, where it has columns
abbrev pub end_read : {S : Type 0} → ℕ → Reading S → Reading S
end_read width r = if has_columns r.letters then reading (add_unit width r.lines (piece r.space r.letters)) None []
    else r

-- the word at hand is laid, where it has letters
abbrev pub lay_read : {S : Type 0} → ℕ → Reading S → Reading S
lay_read width r = if is_filled r.letters then reading (add_unit width r.lines (piece r.space r.letters)) None [] else r
