-- The targets of links, in order: which of them have a footnote, and the number after a link.
use Rattle.std.specs.Prelude.{◌+◌, [], ◌∷◌, ◌++◌, if◌then◌else◌, Bool, List, None, Option, Some, fold, length, nat_eq}
use Rattle.std.specs.Prelude.{ℕ}
use Rattle.std.specs.Cmp.Lexicographic.{pointwise}
use Rattle.std.specs.List.{last_or, list_any, position_or_len}

-- equal code point by code point
abbrev pub is_same_text : List ℕ → List ℕ → Bool
is_same_text = pointwise nat_eq

abbrev pub has_text : List (List ℕ) → List ℕ → Bool
has_text texts text = list_any (is_same_text text) texts

abbrev pub with_text : List (List ℕ) → List ℕ → List (List ℕ)
with_text texts text = if has_text texts text then texts else texts ++ text ∷ []

-- each text once, where it stands first
abbrev pub distinct : List (List ℕ) → List (List ℕ)
distinct texts = fold with_text [] texts

-- The targets that have footnotes, numbered from 1 on: each link's, or each target once where links to equal targets
-- share a footnote.
abbrev pub noted_targets : (shared : Bool) → List (List ℕ) → List (List ℕ)
noted_targets shared targets = if shared then distinct targets else targets

-- a text's number among texts, of which it is one
abbrev pub number_among : List (List ℕ) → Option (List ℕ) → ℕ
number_among texts None = 0
number_among texts (Some text) = position_or_len (is_same_text text) texts + 1

-- the number of the last link's footnote; 0 before the first link
abbrev pub last_number : (shared : Bool) → List (List ℕ) → ℕ
last_number shared targets =
    if shared then number_among (distinct targets) (last_or None targets) else length targets
