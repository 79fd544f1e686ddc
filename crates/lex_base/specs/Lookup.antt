-- What a table of references says of a text.
use Rattle.std.specs.Prelude.{◌≡◌, ℕ, ◌≤◌, IsTrue, List, ◌∷◌, ◌++◌, length, Some, None}
use Rattle.std.specs.FinMap as finite
use Rattle.lex_base.specs.References.{References}

-- some name begins with the text: more characters may make a name of it
abbrev pub HasNameBeginning : References → List ℕ → Type 0
HasNameBeginning table text = (more : List ℕ) × IsTrue (finite.contains_key table (text ++ more))

-- and is longer
abbrev pub HasLongerName : References → List ℕ → Type 0
HasLongerName table text = (c : ℕ) × (more : List ℕ) × IsTrue (finite.contains_key table (text ++ c ∷ more))

-- no name is a beginning of the text
abbrev pub BeginsWithNoName : References → List ℕ → Type 0
BeginsWithNoName table text = (front rest : List ℕ) → text ≡ front ++ rest → finite.get table front ≡ None

-- the longest name that the text begins with, and its value (WHATWG HTML, 13.2.5.73)
pub record IsLongestName (table : References) (text name value : List ℕ) : Type 0 where
  pub rest : List ℕ
  pub begins : text ≡ name ++ rest
  pub named : finite.get table name ≡ Some value
  pub longest : (front more : List ℕ) → text ≡ front ++ more → IsTrue (finite.contains_key table front) →
      length front ≤ length name
