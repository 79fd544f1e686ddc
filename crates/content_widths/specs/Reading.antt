-- What contracts see of a flow whose columns are being measured: what its numbers give with whatever follows.
use Rattle.std.specs.Prelude.{◌≡◌, ◌+◌, ◌==◌, ◌&&◌, ◌||◌, [], ◌∷◌, ◌++◌, Bool, List, None, Option, Some, filter}
use Rattle.std.specs.Prelude.{false, if◌then◌else◌, is_some, max, true, ℕ}
use Rattle.content_widths.specs.Flows.{FlowItem, Stretch, at_most, capped, greater, greatest_of, joined, stretches}
use Rattle.content_widths.specs.Texts.{further_columns, lines_columns, narrowest_of, front_columns, units_columns}
use Rattle.content_widths.specs.declared.flow.FlowWidths.{FlowWidths}
use Rattle.content_widths.specs.declared.reading.OneLine.{OneLine}
use Rattle.content_widths.specs.declared.reading.OneLine.TheVariants.{Collapsed, Preserved}
use Rattle.content_widths.specs.declared.reading.Reading.{Reading}
use Rattle.content_widths.specs.declared.source_lines.SourceLines.{SourceLines}
use Rattle.content_widths.specs.declared.together.Together.{Together}
use Rattle.content_widths.specs.declared.widths.ContentWidths.{ContentWidths}
use Rattle.content_widths.specs.declared.words.Place.{Place}
use Rattle.content_widths.specs.declared.words.Place.TheVariants.{Start, Word, Between}
use Rattle.content_widths.specs.declared.words.Words.{Words}
use Rattle.text_normal.specs.Units.{Piece, has_letters, joined as joined_pieces, letters_columns, lettered}
use Rattle.text_normal.specs.Units.{pieces_after, units}
use Rattle.text_pieces.specs.Modes.{is_preserved, is_same_mode}
use Rattle.text_pieces.specs.Sources.{is_filled}
use Rattle.text_pieces.specs.declared.white_space.WhiteSpace.{WhiteSpace}

-- ---- what stands together

pub record IsTogether (t : Together) (cs : List ℕ) : Type 0 where
  pub gives : (ds : List ℕ) → capped (narrowest_of (cs ++ ds))
      ≡ capped (max t.greatest (max (t.run + front_columns ds) (narrowest_of ds)))

-- ---- source lines

pub record AreSourceLines (l : SourceLines) (cs : List ℕ) : Type 0 where
  pub gives : (ds : List ℕ) → capped (lines_columns 0 (cs ++ ds)) ≡ capped (max l.longest (lines_columns l.at ds))

-- ---- words

abbrev pub place_after_break : Place → Bool → Place
place_after_break Start is_space = Start
place_after_break Word is_space = Between is_space false
place_after_break (Between space letters) is_space = Between (space || is_space) letters

abbrev pub place_after_mark : Place → Place
place_after_mark Start = Start
place_after_mark Word = Word
place_after_mark (Between space letters) = Between space true

abbrev pub gap_before : Place → ℕ
gap_before Start = 0
gap_before Word = 0
gap_before (Between space letters) = if space then 1 else 0

abbrev pub rest_at : Place → ℕ
rest_at Start = 0
rest_at Word = 0
rest_at (Between space letters) = if space && letters then 1 else 0

abbrev pub words_columns : Words → ℕ
words_columns w = w.columns + rest_at w.place

abbrev pub words_after_letter : Words → ℕ → Words
words_after_letter w columns = if columns == 0 then record { columns = w.columns; place = place_after_mark w.place }
    else record { columns = capped (capped (w.columns + gap_before w.place) + columns); place = Word }

-- the pieces from within a word that has columns
abbrev pub columns_from_word : {S : Type 0} → List (Piece S) → ℕ
columns_from_word [] = 0
columns_from_word (p ∷ ps) = letters_columns p.letters + further_columns (filter has_letters (joined_pieces ps))

-- the joined pieces after such a word
abbrev pub columns_between : {S : Type 0} → (space letters : Bool) → List (Piece S) → ℕ
columns_between space letters [] = 0
columns_between space letters (p ∷ ps) =
    (if (space || is_some p.space) && (letters || is_filled p.letters) then 1 else 0) + letters_columns p.letters
    + further_columns (filter has_letters ps)

abbrev pub columns_from : Place → List ℕ → ℕ
columns_from Start ds = units_columns (units (lettered ds (tt {0})))
columns_from Word ds = columns_from_word (pieces_after None (lettered ds (tt {0})))
columns_from (Between space letters) ds =
    columns_between space letters (joined_pieces (pieces_after None (lettered ds (tt {0}))))

pub record AreWords (w : Words) (cs : List ℕ) : Type 0 where
  pub gives : (ds : List ℕ) → capped (units_columns (units (lettered (cs ++ ds) (tt {0}))))
      ≡ capped (w.columns + columns_from w.place ds)

-- ---- a stretch

abbrev pub IsOneLine : OneLine → WhiteSpace → List ℕ → Type 0
IsOneLine (Collapsed words) mode cs = (is_preserved mode ≡ false) × AreWords words cs
IsOneLine (Preserved lines) mode cs = (is_preserved mode ≡ true) × AreSourceLines lines cs

abbrev pub one_line_columns : OneLine → ℕ
one_line_columns (Collapsed words) = capped (words_columns words)
one_line_columns (Preserved lines) = capped lines.longest

pub record IsReading (r : Reading) (mode : WhiteSpace) (cs : List ℕ) : Type 0 where
  pub same_mode : r.mode ≡ mode
  pub together : IsTogether r.together cs
  pub one_line : IsOneLine r.one_line mode cs

abbrev pub reading_widths : (most : Option ℕ) → Reading → ContentWidths
reading_widths most r = record {
  narrowest = at_most most (capped (max r.together.greatest r.together.run));
  widest = at_most most (one_line_columns r.one_line);
}

-- ---- a flow

abbrev pub running_in : Option Reading → WhiteSpace → Option Reading
running_in None mode = None
running_in (Some r) mode = if is_same_mode r.mode mode then Some r else None

abbrev pub widths_with : (most : Option ℕ) → ContentWidths → Option Reading → ContentWidths
widths_with most ended None = ended
widths_with most ended (Some r) = greater ended (reading_widths most r)

abbrev pub widths_so_far : FlowWidths → ContentWidths
widths_so_far f = widths_with f.most f.ended f.running

-- a stretch that runs, before what follows
pub record IsRunning (r : Reading) (past : List Stretch) (items : List FlowItem) : Type 0 where
  pub text : List ℕ
  pub reads : IsReading r r.mode text
  pub gives : (more : List FlowItem) → stretches (items ++ more) ≡ past ++ joined r.mode text (stretches more)

abbrev pub HasRunning : Option Reading → List Stretch → List FlowItem → Type 0
HasRunning None past items = (more : List FlowItem) → stretches (items ++ more) ≡ past ++ stretches more
HasRunning (Some r) past items = IsRunning r past items

-- the flow so far is of these items, and no stretch of it asks for more than `most`
pub record Measures (f : FlowWidths) (most : Option ℕ) (items : List FlowItem) : Type 0 where
  pub same_most : f.most ≡ most
  pub past : List Stretch
  pub ended : f.ended ≡ greatest_of most past
  pub running : HasRunning f.running past items
