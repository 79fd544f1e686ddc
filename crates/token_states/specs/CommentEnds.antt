-- Where a comment after `<!--` ends.
use Rattle.std.specs.Prelude.{◌≡◌, ◌≢◌, ◌⊎◌, ℕ, List, ◌++◌, codes}

-- the text ends with a mark, or it does not
abbrev pub EndsWith : List ℕ → List ℕ → Type 0
EndsWith mark cs = (front : List ℕ) × (cs ≡ front ++ mark)

abbrev pub EndsApart : List ℕ → List ℕ → Type 0
EndsApart mark cs = (front : List ℕ) → cs ≢ front ++ mark

-- what is held of a comment has come to its end, or it has not
abbrev pub IsClosed : List ℕ → Type 0
IsClosed cs = (cs ≡ codes ">") ⊎ ((cs ≡ codes "->") ⊎ (EndsWith (codes "-->") cs ⊎ EndsWith (codes "--!>") cs))

pub record IsNotClosed (cs : List ℕ) : Type 0 where
  pub not_greater : cs ≢ codes ">"
  pub not_arrow : cs ≢ codes "->"
  pub not_end : EndsApart (codes "-->") cs
  pub not_bang_end : EndsApart (codes "--!>") cs
