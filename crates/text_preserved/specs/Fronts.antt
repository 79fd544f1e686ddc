-- Fronts of texts, whose characters are taken at once.
use Rattle.std.specs.Prelude.{◌≡◌, ◌⊎◌, ◌+◌, ◌≤◌, ◌||◌, [], ◌∷◌, ◌++◌, Bool, List, chars, false, fold, nat_lt, not}
use Rattle.std.specs.Prelude.{true, ℕ}
use Rattle.text_lines.specs.Columns.{width_of, text_columns}
use Rattle.text_lines.specs.Tagged.{tagged}
use Rattle.text_pieces.specs.Cuts.{IsAfter}
use Rattle.text_preserved.specs.Preserved.{Kind, chosen, cut, is_solid, kind_of, nothing, solid, tab, white}
use Rattle.text_preserved.specs.Preserved.{without_spaces, written}
use Rattle.text_preserved.specs.Pass.{Pass, lettered}

-- of the front's characters something holds
pub record HasFront (Holds : List ℕ → Type 0) (text rest : List ℕ) : Type 0 where
  pub parts : IsAfter text rest
  pub holds : Holds (chars parts.front)

-- the first of the characters is solid
pub record BeginsSolid (width : ℕ) (wraps : Bool) (cs : List ℕ) : Type 0 where
  pub first : ℕ
  pub after : List ℕ
  pub whole : cs ≡ first ∷ after
  pub is_solid : kind_of width wraps first ≡ solid

-- a body that has begun goes on with a character of the kind
abbrev pub goes_on_with : Bool → Kind → Bool
goes_on_with wraps solid = true
goes_on_with wraps white = not wraps
goes_on_with wraps tab = false
goes_on_with wraps cut = false
goes_on_with wraps nothing = false

-- and with each of the characters
abbrev pub JoinsBody : ℕ → Bool → List ℕ → Type 0
JoinsBody width wraps [] = Unit {0}
JoinsBody width wraps (c ∷ cs) = (goes_on_with wraps (kind_of width wraps c) ≡ true) × JoinsBody width wraps cs

-- the characters go on a line after so many columns, or there is none
abbrev pub Fits : ℕ → ℕ → List ℕ → Type 0
Fits width taken cs = (cs ≡ []) ⊎ (taken + text_columns cs ≤ width)

-- some character is wider than the width
abbrev pub has_wider : ℕ → List ℕ → Bool
has_wider width [] = false
has_wider width (c ∷ cs) = nat_lt width (width_of c) || has_wider width cs

-- solid characters, and U+0020 between them, where lines break at white space
abbrev pub AreWordsAndSpaces : ℕ → List ℕ → Type 0
AreWordsAndSpaces width [] = Unit {0}
AreWordsAndSpaces width (c ∷ cs) = ((kind_of width true c ≡ solid) ⊎ (c ≡ 0x20)) × AreWordsAndSpaces width cs

-- whether a word is at hand after the characters, where it says so of what stands before them
abbrev pub ends_solid : ℕ → Bool → List ℕ → Bool
ends_solid width begun [] = begun
ends_solid width begun (c ∷ cs) = ends_solid width (is_solid (kind_of width true c)) cs

pub record StartsWithSpace (cs : List ℕ) : Type 0 where
  pub after : List ℕ
  pub whole : cs ≡ 0x20 ∷ after

-- words and spaces of at most so many columns, of which the last word ends before the rest
pub record AreWords (width room : ℕ) (cs rest : List ℕ) : Type 0 where
  pub all : AreWordsAndSpaces width cs
  pub columns : text_columns cs ≤ room
  pub word : ends_solid width false cs ≡ true
  pub ends : StartsWithSpace rest

-- such words, or none
abbrev pub AreWordsOrNone : ℕ → ℕ → List ℕ → List ℕ → Type 0
AreWordsOrNone width room cs rest = (cs ≡ []) ⊎ AreWords width room cs rest

-- words and spaces that go on a line after so many columns, or none
abbrev pub WordsFit : ℕ → ℕ → List ℕ → List ℕ → Type 0
WordsFit width taken cs rest = (cs ≡ []) ⊎ ((room : ℕ) × (room + taken ≤ width) × AreWords width room cs rest)

-- characters of a body, one after another
abbrev pub all_lettered : {S : Type 0} → List ℕ → S → S → Pass S → Pass S
all_lettered cs main further p = fold (λ q c. lettered c main further q) p cs

-- the same of characters that leave the body's tag as it is
abbrev pub run_lettered : {S : Type 0} → List ℕ → S → Pass S → Pass S
run_lettered cs tag p = record p { word = p.word ++ tagged cs tag; wide = p.wide || has_wider p.width cs }

abbrev pub IsSteady : {S : Type 0} → List ℕ → Pass S → Type 0
IsSteady {S} cs p = (main further : S)
    → all_lettered cs main further p ≡ run_lettered cs (chosen p.goes_on main further) p

-- words, with the spaces between them, that are laid on the line at hand where no body has begun
abbrev pub words_laid : {S : Type 0} → List ℕ → S → S → Pass S → Pass S
words_laid cs main further p = record p {
  rows = written (without_spaces p.rows) (p.rows.spaces ++ tagged cs (chosen p.rows.goes_on main further));
  goes_on = p.rows.goes_on;
  wide = p.wide || has_wider p.width cs;
}
