-- Words of visible ASCII that stand after single spaces.
use Rattle.std.specs.Prelude.{◌≡◌, ◌≢◌, ℕ, suc, ◌≤◌, List, [], ◌∷◌, ◌++◌, length, All, chars, ◌⊎◌}
use Rattle.text_pieces.specs.Cuts.{IsAfter}
use Rattle.text_lines.specs.Columns.{text_columns}

-- visible ASCII
abbrev pub IsVisible : ℕ → Type 0
IsVisible c = (0x21 ≤ c) × (c ≤ 0x7E)

-- a word of visible ASCII
pub record IsWord (word : List ℕ) : Type 0 where
  pub some : word ≢ []
  pub visible : All IsVisible word

-- words, each after a space
abbrev pub spaced : List (List ℕ) → List ℕ
spaced [] = []
spaced (w ∷ ws) = 0x20 ∷ (w ++ spaced ws)

-- words, each in front of a space
abbrev pub closed : List (List ℕ) → List ℕ
closed [] = []
closed (w ∷ ws) = (w ++ 0x20 ∷ []) ++ closed ws

-- Visible ASCII of so many columns stands in front of a text, at most as many as there is room for.
pub record HasRun (text rest : List ℕ) (columns room : ℕ) : Type 0 where
  pub parts : IsAfter text rest
  pub visible : All IsVisible (chars parts.front)
  pub counted : columns ≡ length (chars parts.front)
  pub fits : columns ≤ room

-- A space and a word of so many columns stand in front of a text, at most as many as there is room for.
pub record HasWord (text rest : List ℕ) (columns room : ℕ) : Type 0 where
  pub parts : IsAfter text rest
  pub word : List ℕ
  pub is_word : IsWord word
  pub whole : chars parts.front ≡ 0x20 ∷ word
  pub counted : columns ≡ suc (length word)
  pub fits : columns ≤ room

-- Words that stand after a space each, of so many columns, stand in front of a text, at most as many as there is room
-- for.
pub record HasWords (text rest : List ℕ) (columns room : ℕ) : Type 0 where
  pub parts : IsAfter text rest
  pub words : List (List ℕ)
  pub are_words : All IsWord words
  pub whole : chars parts.front ≡ spaced words
  pub counted : columns ≡ length (spaced words)
  pub fits : columns ≤ room

-- A text is words, each after a space, of so many columns, and one more space.
pub record IsWordsAndSpace (text : List ℕ) (columns : ℕ) : Type 0 where
  pub words : List (List ℕ)
  pub are_words : All IsWord words
  pub whole : text ≡ spaced words ++ 0x20 ∷ []
  pub counted : columns ≡ length (spaced words)

-- A text is a word and words after a space each, of so many columns, and one more space.
pub record IsLineAndSpace (text : List ℕ) (columns : ℕ) : Type 0 where
  pub first : List ℕ
  pub words : List (List ℕ)
  pub is_word : IsWord first
  pub are_words : All IsWord words
  pub whole : text ≡ (first ++ spaced words) ++ 0x20 ∷ []
  pub counted : columns ≡ length (first ++ spaced words)

-- A text with a space at its end, without which it has so many columns.
pub record EndsInSpace (text : List ℕ) (columns : ℕ) : Type 0 where
  pub front : List ℕ
  pub whole : text ≡ front ++ 0x20 ∷ []
  pub counted : columns ≡ text_columns front

-- A text whose last character is visible ASCII.
pub record EndsVisibly (text : List ℕ) : Type 0 where
  pub front : List ℕ
  pub last : ℕ
  pub whole : text ≡ front ++ last ∷ []
  pub visible : IsVisible last

-- The text, or one that ends in visible ASCII and a space after it.
abbrev pub IsEnded : List ℕ → List ℕ → Type 0
IsEnded text ended = (ended ≡ text) ⊎ (EndsVisibly text × (ended ≡ text ++ 0x20 ∷ []))
