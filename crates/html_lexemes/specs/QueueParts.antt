-- What the parts of a queue's calls do: on the bytes of a text, and on the texts that wait.
use Rattle.std.specs.Prelude.{◌≡◌, ◌<◌, ◌||◌, [], ◌∷◌, ◌++◌, All, Bool, IsTrue, List, None, Option, Some, String, chars}
use Rattle.std.specs.Prelude.{false, length, nat_le, nat_lt, slice_get, slice_index_or, string_bytes, take, true, ℕ}
use Rattle.std.specs.Str.{IsCharBoundary}
use Rattle.html_lexemes.specs.Queue.{is_in, is_free_of, IsAlike, EndsInside, Differs}

-- the text begins with a run without a character of the set: not empty, where the first character is not one
pub record IsRunOutside (set bs run : List ℕ) : Type 0 where
  pub front : run ≡ take (length run) bs
  pub boundary : IsCharBoundary bs (length run)
  pub free : IsTrue (is_free_of set (chars run))
  pub some : (c : ℕ) → slice_get (chars bs) 0 ≡ Some c → is_in set c ≡ false → 0 < length (chars run)

-- whether a byte is marked
abbrev pub is_marked : List Bool → ℕ → Bool
is_marked marks b = slice_index_or marks b false

-- just the bytes that are characters of the set are marked, and all of the set are ASCII
pub record Marks (set : List ℕ) (marks : List Bool) : Type 0 where
  pub size : length marks ≡ 256
  pub ascii : (c : ℕ) → is_in set c ≡ true → c < 128
  pub marked : (b : ℕ) → is_marked marks b ≡ is_in set b

-- whether a byte is the first of a character, in UTF-8
abbrev pub begins_character : ℕ → Bool
begins_character b = nat_lt b 128 || nat_le 192 b

-- texts as one
abbrev pub joined : {Z : Type 0} → List (String Z) → List ℕ
joined [] = []
joined (text ∷ texts) = chars (string_bytes text) ++ joined texts

-- whether a text has a character
abbrev pub IsFilled : {Z : Type 0} → String Z → Type 0
IsFilled text = 0 < length (chars (string_bytes text))

-- what is left of a text, and those that wait after it: none of these is empty, and none waits where nothing is left
pub record IsWaiting {Z : Type 0} (first : List ℕ) (later : List (String Z)) : Type 0 where
  pub filled : All IsFilled later
  pub last : first ≡ [] → later ≡ []

-- so many characters outside the set were taken, and stand after what the text was before: at least one, where the
-- first is not in the set
pub record TakesRun (set old before new trailing : List ℕ) (count : ℕ) : Type 0 where
  pub cs : List ℕ
  pub text : old ≡ cs ++ new
  pub appended : chars trailing ≡ chars before ++ cs
  pub free : IsTrue (is_free_of set cs)
  pub some : (c : ℕ) → slice_get old 0 ≡ Some c → is_in set c ≡ false → 0 < length cs
  pub counts : count ≡ length cs

-- the text begins with what is alike to the pattern
pub record BeginsAlike (alike : ℕ → ℕ → Bool → Type 0) (text pattern : List ℕ) : Type 0 where
  pub front : List ℕ
  pub rest : List ℕ
  pub text_is : text ≡ front ++ rest
  pub same : IsAlike alike front pattern

-- what a comparison of a text with a pattern answers
abbrev pub Begins : (ℕ → ℕ → Bool → Type 0) → List ℕ → List ℕ → Option Bool → Type 0
Begins alike text pattern None = EndsInside alike text pattern
Begins alike text pattern (Some true) = BeginsAlike alike text pattern
Begins alike text pattern (Some false) = Differs alike text pattern
