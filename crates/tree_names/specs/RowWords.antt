-- Words of the worked rows.
use Rattle.std.specs.Prelude.{◌≡◌, ℕ, true, false, List, length}
use Rattle.html_lexemes.specs.declared.names.Namespace.TheVariants.{Html, MathMl, Svg}
use Rattle.html_lexemes.specs.declared.names.QualName.{QualName}
use Rattle.tree_names.specs.Sets.{is_one_of}

-- a set has this size and two members, and two words are strangers to it
pub record IsSetOf (set : List (List ℕ)) (size : ℕ) (one two stranger other : List ℕ) : Type 0 where
  pub holds_as_many : length set ≡ size
  pub holds_one : is_one_of set one ≡ true
  pub holds_two : is_one_of set two ≡ true
  pub lacks_stranger : is_one_of set stranger ≡ false
  pub lacks_other : is_one_of set other ≡ false

-- the elements of a name
abbrev pub html : List ℕ → QualName
html word = record { ns = Html; local = word }

abbrev pub math_ml : List ℕ → QualName
math_ml word = record { ns = MathMl; local = word }

abbrev pub svg : List ℕ → QualName
svg word = record { ns = Svg; local = word }
