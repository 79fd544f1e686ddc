-- A source line whose white space stays, laid in one pass: parts are laid as they end, and the characters of a body
-- have their tags as they are read.
use Rattle.std.specs.Prelude.{◌+◌, ◌&&◌, ◌||◌, [], ◌∷◌, ◌++◌, if◌then◌else◌, Bool, List, false, fold, nat_lt, not, true}
use Rattle.std.specs.Prelude.{ℕ}
use Rattle.text_lines.specs.Columns.{width_of}
use Rattle.text_lines.specs.Tagged.{Item, character, marker, line_columns}
use Rattle.text_pieces.specs.Sources.{Source, letter, fragment}
use Rattle.text_preserved.specs.Preserved.{Kind, Laying, chosen, cut, fresh, kind_of, lay_blank, lay_items, lay_stop}
use Rattle.text_preserved.specs.Preserved.{markers_of, nothing, nothing_laid, solid, tab, taken, white, with_room}

-- The columns of a line, and whether lines break at white space; what was laid; the body so far, or the markers that
-- wait for one; whether a body has begun, and whether its source line was wrapped before its end; whether some body has
-- a character that is wider than the width.
pub record Pass (S : Type 0) : Type 0 where
  pub width : ℕ
  pub wraps : Bool
  pub rows : Laying S
  pub word : List (Item S)
  pub begun : Bool
  pub goes_on : Bool
  pub wide : Bool

abbrev pub new_pass : {S : Type 0} → ℕ → Bool → Pass S
new_pass width wraps = record {
  width = width;
  wraps = wraps;
  rows = nothing_laid;
  word = [];
  begun = false;
  goes_on = false;
  wide = false;
}

-- the body begins, on a fresh line where the one at hand passes the width
abbrev pub entered : {S : Type 0} → Pass S → Pass S
entered p = record p { rows = with_room p.width 0 p.rows; begun = true; goes_on = p.rows.goes_on }

abbrev pub begins : {S : Type 0} → Pass S → Pass S
begins p = if p.begun then p else entered p

-- the source line is wrapped before this character of the body, or was before
abbrev pub passes : {S : Type 0} → ℕ → Pass S → Bool
passes c p = p.goes_on || (not p.wraps && nat_lt p.width (taken p.rows + line_columns p.word + width_of c))

abbrev pub lettered : {S : Type 0} → ℕ → S → S → Pass S → Pass S
lettered c main further p = record p {
  word = p.word ++ character c (chosen (passes c p) main further) ∷ [];
  goes_on = passes c p;
  wide = p.wide || nat_lt p.width (width_of c);
}

-- the body ends
abbrev pub ended_body : {S : Type 0} → Pass S → Pass S
ended_body p = record p {
  rows = record (lay_items p.width p.wraps p.word p.rows) { goes_on = p.goes_on };
  word = [];
  begun = false;
}

abbrev pub closed : {S : Type 0} → Pass S → Pass S
closed p = if p.begun then ended_body p else p

abbrev pub blanked : {S : Type 0} → ℕ → S → S → Pass S → Pass S
blanked c main further p = record p { rows = lay_blank (width_of c) main further p.rows }

abbrev pub stopped : {S : Type 0} → S → S → Pass S → Pass S
stopped main further p = record p { rows = lay_stop p.width main further p.rows }

abbrev pub read_at : {S : Type 0} → Kind → Bool → ℕ → S → S → Pass S → Pass S
read_at solid inside c main further p = lettered c main further (begins p)
read_at white true c main further p = lettered c main further (begins p)
read_at white false c main further p = blanked c main further (closed p)
read_at tab inside c main further p = stopped main further (closed p)
read_at cut inside c main further p = closed p
read_at nothing inside c main further p = p

abbrev pub read_letter : {S : Type 0} → ℕ → S → S → Pass S → Pass S
read_letter c main further p = read_at (kind_of p.width p.wraps c) (not p.wraps && p.begun) c main further p

abbrev pub read_marker : {S : Type 0} → List ℕ → Pass S → Pass S
read_marker name p = record p { word = p.word ++ marker name ∷ [] }

abbrev pub read_source : {S : Type 0} → Pass S → Source S → Pass S
read_source p (letter c main further) = read_letter c main further p
read_source p (fragment name) = read_marker name p

abbrev pub read_all : {S : Type 0} → Pass S → List (Source S) → Pass S
read_all p sources = fold read_source p sources

-- the source line ends
abbrev pub rested : {S : Type 0} → Pass S → Pass S
rested p = record p { rows = fresh p.rows }

abbrev pub finished : {S : Type 0} → Pass S → Pass S
finished p = rested (closed p)

-- the markers that wait for the next source line
abbrev pub left_markers : {S : Type 0} → Pass S → List (List ℕ)
left_markers p = markers_of p.rows.line ++ markers_of p.word
