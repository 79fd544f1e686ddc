-- The words of a stretch of normal text, and what stands between them (CSS Text, 4.1.1 and 5.1, as the
-- renderer uses it). A stretch is a list of characters with their tags.
use Rattle.std.specs.Prelude.{◌+◌, [], ◌∷◌, ◌++◌, if◌then◌else◌, Bool, List, None, Option, Some, filter, is_some, map}
use Rattle.std.specs.Prelude.{nat_lt, ℕ}
use Rattle.text_lines.specs.Columns.{columns_of, width_of}
pub use Rattle.text_pieces.specs.Sources.{is_white_space, is_break_point, is_filled}

-- a character as a code point, with its tag
pub record Letter (S : Type 0) : Type 0 where
  pub code : ℕ
  pub tag : S

-- a text, each character with the tag
abbrev pub lettered : {S : Type 0} → List ℕ → S → List (Letter S)
lettered cs t = map (λ c. record { code = c; tag = t }) cs

abbrev pub letters_columns : {S : Type 0} → List (Letter S) → ℕ
letters_columns [] = 0
letters_columns (l ∷ ls) = width_of l.code + letters_columns ls

abbrev pub has_columns : {S : Type 0} → List (Letter S) → Bool
has_columns ls = nat_lt 0 (letters_columns ls)

-- Letters that stand together, and the tag of the first white space in front of them, if there is any.
pub record Piece (S : Type 0) : Type 0 where
  pub space : Option S
  pub letters : List (Letter S)

abbrev pub piece : {S : Type 0} → Option S → List (Letter S) → Piece S
piece space letters = record { space = space; letters = letters }

-- the letter in front of the first piece's, where it has a width
abbrev pub with_front : {S : Type 0} → Letter S → List (Piece S) → List (Piece S)
with_front l [] = []
with_front l (p ∷ ps) = piece p.space (if is_some (columns_of l.code) then l ∷ p.letters else p.letters) ∷ ps

abbrev pub space_of : {S : Type 0} → Letter S → Option S
space_of l = if is_white_space l.code then Some l.tag else None

-- The stretch cut at each break point, characters without a width left out. Where break points stand side by
-- side the piece between them is empty.
abbrev pub pieces_after : {S : Type 0} → Option S → List (Letter S) → List (Piece S)
pieces_after space [] = piece space [] ∷ []
pieces_after space (l ∷ ls) = if is_break_point l.code then piece space [] ∷ pieces_after
    (space_of l) ls else with_front l (pieces_after space ls)

abbrev pub first_of : {S : Type 0} → Option S → Option S → Option S
first_of None space = space
first_of (Some tag) space = Some tag

-- A piece without columns joins the next one, with the white space before either.
abbrev pub joining : {S : Type 0} → Piece S → List (Piece S) → List (Piece S)
joining p [] = p ∷ []
joining p (q ∷ qs) = if has_columns p.letters then p ∷ q ∷ qs else piece (first_of p.space q.space)
    (p.letters ++ q.letters) ∷ qs

abbrev pub joined : {S : Type 0} → List (Piece S) → List (Piece S)
joined [] = []
joined (p ∷ ps) = joining p (joined ps)

abbrev pub has_letters : {S : Type 0} → Piece S → Bool
has_letters p = is_filled p.letters

-- The units of a stretch: what is never parted where it fits a line. Only the last may be without columns. The
-- gap before a unit that isn't first is one column where it has white space in front.
abbrev pub units : {S : Type 0} → List (Letter S) → List (Piece S)
units ls = filter has_letters (joined (pieces_after None ls))
