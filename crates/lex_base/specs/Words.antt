-- A name among words.
use Rattle.std.specs.Prelude.{ℕ, Bool, false, ◌||◌, List, [], ◌∷◌, bytes_eq, map}
use Rattle.std.specs.Borrow.{Bor}
use Rattle.std.specs.Bool.{nat_lt}
use Rattle.std.specs.List.{list_all}

-- a name is one of these words
abbrev pub is_one_of : List (List ℕ) → List ℕ → Bool
is_one_of [] name = false
is_one_of (word ∷ words) name = bytes_eq name word || is_one_of words name

-- the words that a slice lends
abbrev pub words_of : List (Bor (List ℕ)) → List (List ℕ)
words_of words = map (λ word. word.now) words

-- each byte is an ASCII character
abbrev pub is_ascii_word : List ℕ → Bool
is_ascii_word word = list_all (λ byte. nat_lt byte 128) word

abbrev pub are_ascii : List (List ℕ) → Bool
are_ascii words = list_all is_ascii_word words
