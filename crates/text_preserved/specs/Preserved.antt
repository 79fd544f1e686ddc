-- A source line whose white space stays, on lines of at most a width (CSS 2.2, 16.6: `pre` and `pre-wrap`, but that too
-- wide a line is wrapped). It is cut into parts, and these are laid one after another.
use Rattle.std.specs.Prelude.{◌+◌, ◌-◌, ◌%◌, ◌&&◌, ◌||◌, ◌==◌, [], ◌∷◌, ◌++◌, if◌then◌else◌, Bool, List, drop, false}
use Rattle.std.specs.Prelude.{fold, is_some, min, nat_le, nat_lt, not, replicate, true, ℕ}
use Rattle.text_lines.specs.Columns.{columns_of, width_of}
use Rattle.text_lines.specs.Tagged.{Item, character, marker, line_columns}
pub use Rattle.text_pieces.specs.Items.{has_text, item_columns, markers_of}
pub use Rattle.text_pieces.specs.Sources.{names_of}
use Rattle.text_pieces.specs.Sources.{Source, letter, fragment, is_white_space}

-- What a character is to a source line.
--   solid     it is shown, and stands in a body
--   white     white space of some columns
--   tab       U+0009, which goes to the next column that is a multiple of 8
--   cut       it ends a body and leaves nothing
--   nothing   it is left out
pub data Kind : Type 0 where
  solid : Kind
  white : Kind
  tab : Kind
  cut : Kind
  nothing : Kind

-- A block without columns keeps no white space. Where lines break at white space, so they do at U+200B.
unfoldable pub kind_of : ℕ → Bool → ℕ → Kind
kind_of width wraps c =
    if c == 0x9 then (if width == 0 then cut else tab)
    else (if is_white_space c
    then (if (width == 0) || not (is_some (columns_of c)) then (if wraps then cut else nothing) else white)
    else (if c == 0x200B then (if wraps then cut else nothing)
    else (if is_some (columns_of c) then solid else nothing)))

abbrev pub is_solid : Kind → Bool
is_solid solid = true
is_solid white = false
is_solid tab = false
is_solid cut = false
is_solid nothing = false

abbrev pub has_solid : {S : Type 0} → ℕ → Bool → List (Source S) → Bool
has_solid width wraps [] = false
has_solid width wraps (letter c main further ∷ rest) = is_solid (kind_of width wraps c) || has_solid width wraps rest
has_solid width wraps (fragment name ∷ rest) = has_solid width wraps rest

-- White space that ends a source line is dropped before it is laid out; markers stay.
abbrev pub trimmed : {S : Type 0} → ℕ → Bool → List (Source S) → List (Source S)
trimmed width wraps [] = []
trimmed width wraps (letter c main further ∷ rest) =
    if is_solid (kind_of width wraps c) || has_solid width wraps rest
    then letter c main further ∷ trimmed width wraps rest else trimmed width wraps rest
trimmed width wraps (fragment name ∷ rest) = fragment name ∷ trimmed width wraps rest

-- The parts of a source line. A body is what stands between white space; where lines don't break at white space, it
-- goes on over white space, up to the next tab.
pub data Part (S : Type 0) : Type 0 where
  blank : ℕ → S → S → Part S
  stop : S → S → Part S
  body : List (Source S) → Part S

-- the word has begun: it has more than markers
abbrev pub is_begun : {S : Type 0} → List (Source S) → Bool
is_begun [] = false
is_begun (letter c main further ∷ rest) = true
is_begun (fragment name ∷ rest) = is_begun rest

abbrev pub ended_word : {S : Type 0} → List (Source S) → List (Part S)
ended_word word = if is_begun word then body word ∷ [] else []

-- markers alone wait for the next body
abbrev pub waiting_word : {S : Type 0} → List (Source S) → List (Source S)
waiting_word word = if is_begun word then [] else word

-- the parts that end with a character of that kind, where `inside` says that a body goes on over white space
abbrev pub parts_at : {S : Type 0} → Kind → Bool → ℕ → S → S → List (Source S) → List (Part S)
parts_at solid inside c main further word = []
parts_at white true c main further word = []
parts_at white false c main further word = ended_word word ++ blank (width_of c) main further ∷ []
parts_at tab inside c main further word = ended_word word ++ stop main further ∷ []
parts_at cut inside c main further word = ended_word word
parts_at nothing inside c main further word = []

-- the word after it
abbrev pub word_at : {S : Type 0} → Kind → Bool → ℕ → S → S → List (Source S) → List (Source S)
word_at solid inside c main further word = word ++ letter c main further ∷ []
word_at white true c main further word = word ++ letter c main further ∷ []
word_at white false c main further word = waiting_word word
word_at tab inside c main further word = waiting_word word
word_at cut inside c main further word = waiting_word word
word_at nothing inside c main further word = word

abbrev pub goes_over_white : {S : Type 0} → Bool → List (Source S) → Bool
goes_over_white wraps word = not wraps && is_begun word

abbrev pub parts_after : {S : Type 0} → ℕ → Bool → List (Source S) → List (Source S) → List (Part S)
parts_after width wraps word [] = ended_word word
parts_after width wraps word (letter c main further ∷ rest) =
    parts_at (kind_of width wraps c) (goes_over_white wraps word) c main further word
    ++ parts_after width wraps (word_at (kind_of width wraps c) (goes_over_white wraps word) c main further word) rest
parts_after width wraps word (fragment name ∷ rest) = parts_after width wraps (word ++ fragment name ∷ []) rest

abbrev pub word_after : {S : Type 0} → ℕ → Bool → List (Source S) → List (Source S) → List (Source S)
word_after width wraps word [] = waiting_word word
word_after width wraps word (letter c main further ∷ rest) =
    word_after width wraps (word_at (kind_of width wraps c) (goes_over_white wraps word) c main further word) rest
word_after width wraps word (fragment name ∷ rest) = word_after width wraps (word ++ fragment name ∷ []) rest

abbrev pub parts : {S : Type 0} → ℕ → Bool → List (Source S) → List (Part S)
parts width wraps line = parts_after width wraps [] (trimmed width wraps line)

-- What was laid of a source line: the lines that are done; the line at hand, and the white space that ends it so far;
-- white space that is not written yet; whether the source line was wrapped before what comes.
pub record Laying (S : Type 0) : Type 0 where
  pub done : List (List (Item S))
  pub line : List (Item S)
  pub tail : List (Item S)
  pub spaces : List (Item S)
  pub goes_on : Bool

abbrev pub nothing_laid : {S : Type 0} → Laying S
nothing_laid = record { done = []; line = []; tail = []; spaces = []; goes_on = false }

abbrev pub space : {S : Type 0} → S → Item S
space tag = character 0x20 tag

abbrev pub chosen : {S : Type 0} → Bool → S → S → S
chosen goes_on main further = if goes_on then further else main

abbrev pub line_text : {S : Type 0} → Laying S → List (Item S)
line_text r = r.line ++ r.tail

abbrev pub line_taken : {S : Type 0} → Laying S → ℕ
line_taken r = line_columns r.line + line_columns r.tail

-- a fresh line, where the one at hand has text: markers alone make none
abbrev pub fresh : {S : Type 0} → Laying S → Laying S
fresh r = if has_text (line_text r) then record r { done = r.done ++ line_text r ∷ []; line = []; tail = [] } else r

-- the line at hand, or a fresh one where so many columns more don't go on it
abbrev pub with_room : {S : Type 0} → ℕ → ℕ → Laying S → Laying S
with_room width more r = if nat_le (line_taken r + more) width then r else fresh r

abbrev pub written : {S : Type 0} → Laying S → List (Item S) → Laying S
written r items = record r { line = line_text r ++ items; tail = [] }

abbrev pub without_spaces : {S : Type 0} → Laying S → Laying S
without_spaces r = record r { spaces = [] }

-- an item, on a fresh line where it doesn't go on the line at hand
abbrev pub put : {S : Type 0} → ℕ → Laying S → Item S → Laying S
put width r item = written (with_room width (item_columns item) r) (item ∷ [])

abbrev pub put_all : {S : Type 0} → ℕ → Laying S → List (Item S) → Laying S
put_all width r items = fold (put width) r items

-- a space that ends the line so far, on a fresh line where it doesn't go on the line at hand
abbrev pub put_space : {S : Type 0} → ℕ → Laying S → Item S → Laying S
put_space width r item = let room = with_room width 1 r in record room { tail = room.tail ++ item ∷ [] }

-- White space waits, a space for each column.
abbrev pub lay_blank : {S : Type 0} → ℕ → S → S → Laying S → Laying S
lay_blank n main further r = record r { spaces = r.spaces ++ replicate n (space (chosen r.goes_on main further)) }

-- the columns to the next multiple of 8, at most those that are left
abbrev pub to_stop : ℕ → ℕ → ℕ
to_stop width at = min (8 - at % 8) (width - at)

-- A tab: white space before it is written, then spaces up to the stop, at least one. Where they end at the width
-- before the stop, a fresh line begins.
abbrev pub after_stop : {S : Type 0} → ℕ → Laying S → Laying S
after_stop width r = if nat_lt (line_taken r) width || (line_taken r % 8 == 0) then r else fresh r

abbrev pub tabbed : {S : Type 0} → ℕ → S → Laying S → Laying S
tabbed width tag r = after_stop width
    (record r { tail = r.tail ++ replicate (to_stop width (line_taken r)) (space tag) })

abbrev pub lay_stop : {S : Type 0} → ℕ → S → S → Laying S → Laying S
lay_stop width main further r = tabbed width (chosen r.goes_on main further)
    (with_room width 1 (fold (put_space width) (without_spaces r) r.spaces))

-- the columns of the line at hand and of the white space after it
abbrev pub taken : {S : Type 0} → Laying S → ℕ
taken r = line_taken r + line_columns r.spaces

-- A body with its tags: from the first character that passes the width, after what stands on the line and the white
-- space before it, the further ones, where lines don't break at white space.
pub record Tagging (S : Type 0) : Type 0 where
  pub items : List (Item S)
  pub goes_on : Bool

abbrev pub tag_one : {S : Type 0} → ℕ → Bool → ℕ → Tagging S → Source S → Tagging S
tag_one width wraps before t (letter c main further) =
    let goes_on = t.goes_on || (not wraps && nat_lt width (before + line_columns t.items + width_of c)) in
    record { items = t.items ++ character c (chosen goes_on main further) ∷ []; goes_on = goes_on }
tag_one width wraps before t (fragment name) = record t { items = t.items ++ marker name ∷ [] }

abbrev pub tagged_body : {S : Type 0} → ℕ → Bool → Laying S → List (Source S) → Tagging S
tagged_body width wraps r word = fold (tag_one width wraps (taken r)) (record { items = []; goes_on = r.goes_on }) word

-- Where a body doesn't fit, white space at least as wide as what is left of the line loses so many columns, and then
-- a width's while it has as many; narrower white space is written on the line. A fresh line begins.
abbrev pub remaining : {S : Type 0} → ℕ → ℕ → List (Item S) → List (Item S)
remaining width left spaces = drop (line_columns spaces - (line_columns spaces - left) % width) spaces

abbrev pub broken_anywhere : {S : Type 0} → ℕ → Laying S → Laying S
broken_anywhere width r =
    if nat_le (width - line_taken r) (line_columns r.spaces)
    then written (without_spaces (fresh r)) (remaining width (width - line_taken r) r.spaces)
    else without_spaces (fresh (written r r.spaces))

-- Where lines break at white space, the white space there is dropped, that which ends the line too.
abbrev pub broken_at_white : {S : Type 0} → Laying S → Laying S
broken_at_white r = without_spaces (fresh (record r { tail = [] }))

abbrev pub lay_items : {S : Type 0} → ℕ → Bool → List (Item S) → Laying S → Laying S
lay_items width wraps items r =
    if nat_le (taken r + line_columns items) width then written (without_spaces r) (r.spaces ++ items)
    else put_all width (if wraps then broken_at_white r else broken_anywhere width r) items

-- A body. A character that is wider than the width stands alone on its line.
abbrev pub lay_body : {S : Type 0} → ℕ → Bool → List (Source S) → Laying S → Laying S
lay_body width wraps word r =
    let room = with_room width 0 r in
    let t = tagged_body width wraps room word in
    record (lay_items width wraps t.items room) { goes_on = t.goes_on }

abbrev pub lay_part : {S : Type 0} → ℕ → Bool → Laying S → Part S → Laying S
lay_part width wraps r (blank n main further) = lay_blank n main further r
lay_part width wraps r (stop main further) = lay_stop width main further r
lay_part width wraps r (body word) = lay_body width wraps word r

-- A source line, laid: what is left at hand is markers alone, if anything.
abbrev pub laid : {S : Type 0} → ℕ → Bool → List (Source S) → Laying S
laid width wraps line = fresh (fold (lay_part width wraps) nothing_laid (parts width wraps line))

-- the lines of a source line
unfoldable pub preserved_lines : {S : Type 0} → ℕ → Bool → List (Source S) → List (List (Item S))
preserved_lines width wraps line = (laid width wraps line).done

-- the markers that wait for the next source line: those after its last body, or after a character that is wider
-- than the width and the last of the line
unfoldable pub preserved_waiting : {S : Type 0} → ℕ → Bool → List (Source S) → List (List ℕ)
preserved_waiting width wraps line = markers_of (laid width wraps line).line
    ++ names_of (word_after width wraps [] (trimmed width wraps line))

-- some character of the word is wider than the width
abbrev pub has_wide_letter : {S : Type 0} → ℕ → List (Source S) → Bool
has_wide_letter width [] = false
has_wide_letter width (letter c main further ∷ rest) = nat_lt width (width_of c) || has_wide_letter width rest
has_wide_letter width (fragment name ∷ rest) = has_wide_letter width rest

abbrev pub has_wide_body : {S : Type 0} → ℕ → List (Part S) → Bool
has_wide_body width [] = false
has_wide_body width (blank n main further ∷ rest) = has_wide_body width rest
has_wide_body width (stop main further ∷ rest) = has_wide_body width rest
has_wide_body width (body word ∷ rest) = has_wide_letter width word || has_wide_body width rest

-- A source line is too wide where a body has a character that is wider than the width.
unfoldable pub is_too_wide : {S : Type 0} → ℕ → Bool → List (Source S) → Bool
is_too_wide width wraps line = has_wide_body width (parts width wraps line)
