-- Where a text is cut.
use Rattle.std.specs.Prelude.{◌≡◌, ◌≢◌, ℕ, List, [], ◌∷◌, ◌++◌, IsUtf8}

-- the text does not hold this character
abbrev pub Lacks : ℕ → List ℕ → Type 0
Lacks mark [] = Unit {0}
Lacks mark (c ∷ cs) = (c ≢ mark) × Lacks mark cs

-- what stands in front of the first mark of a text, and after it
pub record IsCutAt (mark : ℕ) (text front back : List ℕ) : Type 0 where
  pub whole : text ≡ front ++ mark ∷ back
  pub lacks : Lacks mark front

-- the text is a front and the rest
pub record IsAfter (text rest : List ℕ) : Type 0 where
  pub front : List ℕ
  pub whole : text ≡ front ++ rest
  pub utf8 : IsUtf8 front
