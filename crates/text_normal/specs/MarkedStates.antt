-- What contracts see of a `MarkedText`, and of the places at which markers are put among letters.
use Rattle.std.specs.Prelude.{◌≡◌, ℕ, Bool, true, false, List, [], ◌∷◌, ◌++◌, All, map, fold, chars}
use Rattle.text_normal.specs.Units.{Letter, lettered}
use Rattle.text_normal.specs.NormalStates.{HasRead, HasWider}
use Rattle.text_pieces.specs.Cuts.{IsAfter}
use Rattle.text_pieces.specs.Sources.{Source, names}
use Rattle.text_normal.specs.Riders.{Rider, ride, Carried, carry, is_carrier, in_word_at, has_wide_text}
use Rattle.text_normal.specs.MarkedTags.{tag_seen}
use Rattle.text_normal.specs.Letters.{letters_of}
use Rattle.text_normal.specs.declared.marked.MarkedText.{MarkedText}
use Rattle.text_normal.specs.declared.normal.NormalText.{NormalText}

-- The letters that were read, and the markers that wait.
pub record HoldsLetters {T S : Type 0} (seen : T → S) (width : ℕ) (overflow : Bool) (letters : List (Letter (Rider S)))
    (waiting : List (List ℕ)) (m : MarkedText T) : Type 0 where
  pub same_width : m.width ≡ width
  pub read : HasRead (tag_seen seen) width overflow letters m.text
  pub waits : names m.waiting.items ≡ waiting

-- The same, and whether a marker rides on the word before it.
pub record Carries {T S : Type 0} (seen : T → S) (width : ℕ) (overflow : Bool) (k : Carried S) (m : MarkedText T) :
    Type 0
  where
    pub holds : HoldsLetters seen width overflow k.letters k.waiting m
    pub in_word : m.in_word ≡ k.in_word

-- a text that is empty, or begins with a character on which markers ride
abbrev pub BeginsWord : List ℕ → Type 0
BeginsWord [] = Unit {0}
BeginsWord (c ∷ cs) = is_carrier c ≡ true

-- No marker rides on what stands in front of the rest.
pub record LeavesWord (text rest : List ℕ) : Type 0 where
  pub parts : IsAfter text rest
  pub bare : All (λ c. is_carrier c ≡ false) (chars parts.front)

-- whether a marker after the text rides on its last word
abbrev pub in_word_after : ℕ → Bool → List ℕ → Bool
in_word_after width in_word cs = fold (in_word_at width) in_word cs

-- what is read of a text that begins with a word, on which markers ride that waited
abbrev pub words_letters : {S : Type 0} → List ℕ → Rider S → List (List ℕ) → List (Letter (Rider S))
words_letters [] tag waiting = []
words_letters (c ∷ cs) tag waiting = map (λ name. ride name) waiting ++ lettered (c ∷ cs) tag

abbrev pub words_waiting : List ℕ → List (List ℕ) → List (List ℕ)
words_waiting [] waiting = waiting
words_waiting (c ∷ cs) waiting = []

pub record AddsWords {T S : Type 0} (seen : T → S) (old new : MarkedText T) (text : List ℕ)
    (tag : Rider S) : Type 0 where
  pub in_word : new.in_word ≡ old.in_word
  pub adds : (width : ℕ) (overflow : Bool) (letters : List (Letter (Rider S))) (waiting : List (List ℕ))
      → HoldsLetters seen width overflow letters waiting old
      → HoldsLetters seen width overflow (letters ++ words_letters text tag waiting) (words_waiting text waiting) new

pub record MeetsWideWord {T S : Type 0} (seen : T → S) (old : MarkedText T) (text : List ℕ)
    (tag : Rider S) : Type 0 where
  pub wide : (width : ℕ) (overflow : Bool) (letters : List (Letter (Rider S))) (waiting : List (List ℕ))
      → HoldsLetters seen width overflow letters waiting old → HasWider width overflow (lettered text tag)

-- What was carried before a call, the sources make what is carried after it.
pub record CarriesOn {T S : Type 0} (seen : T → S) (old new : MarkedText T) (sources : List (Source S)) : Type 0 where
  pub carries : (width : ℕ) (overflow : Bool) (k : Carried S) → Carries seen width overflow k old
      → Carries seen width overflow (fold (carry width) k sources) new

-- Some character of the sources is wider than the width, and wider ones are not allowed.
pub record MeetsWide {T S : Type 0} (seen : T → S) (old : MarkedText T) (sources : List (Source S)) : Type 0 where
  pub wide : (width : ℕ) (overflow : Bool) (k : Carried S) → Carries seen width overflow k old
      → (overflow ≡ false) × (has_wide_text width sources ≡ true)

-- The sources in front of the rest are carried.
pub record CarriesFront {T S : Type 0} (seen : T →
    S) (old new : MarkedText T) (all rest : List (Source S)) : Type 0 where
  pub front : List (Source S)
  pub whole : all ≡ front ++ rest
  pub carries : CarriesOn seen old new front

-- The letters of the sources in front of the rest are read.
pub record ReadsSources {T S : Type 0} (seen : T →
    S) (old new : NormalText T) (all rest : List (Source S)) : Type 0 where
  pub front : List (Source S)
  pub whole : all ≡ front ++ rest
  pub reads : (width : ℕ) (overflow : Bool) (read : List (Letter S)) → HasRead seen width overflow read old
      → HasRead seen width overflow (read ++ letters_of front) new
