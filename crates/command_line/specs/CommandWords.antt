-- The command line, and what its words ask for. A word is its bytes.
--
--   html2text [--width N] [--rich] [--no-decorate] [--footnotes] [--shared-footnotes] [--references FILE]
--       [--max-bytes N] [--] [FILE]
use Rattle.std.specs.Prelude.{◌≡◌, ◌+◌, ◌^◌, ◌<◌, [], ◌∷◌, ◌++◌, ◌⊎◌, ⊤, All, Bool, List, None, Option, Some, codes}
use Rattle.std.specs.Prelude.{false, flat_map, not, pos, slice_get, suc, true, zero, ℕ}
use Rattle.std.specs.Str.{chars}
use Rattle.std.specs.Str.Parse.{IsNumeral, signed_digits_value, starts_with_minus, without_leading_sign}

-- the options that have a value, and those that have none
pub data Valued : Type 0 where
  width : Valued
  references : Valued
  max_bytes : Valued

pub data Flag : Type 0 where
  rich : Flag
  no_decorate : Flag
  footnotes : Flag
  shared_footnotes : Flag

abbrev pub valued_word : Valued → List ℕ
valued_word width = codes "--width"
valued_word references = codes "--references"
valued_word max_bytes = codes "--max-bytes"

abbrev pub flag_word : Flag → List ℕ
flag_word rich = codes "--rich"
flag_word no_decorate = codes "--no-decorate"
flag_word footnotes = codes "--footnotes"
flag_word shared_footnotes = codes "--shared-footnotes"

-- a part of a line: an option with its value, in two words or in one; an option without a value; the name of a file
pub data Item : Type 0 where
  apart : Valued → List ℕ → Item
  joined : Valued → List ℕ → Item
  flag : Flag → Item
  file : List ℕ → Item

abbrev pub words_of : Item → List (List ℕ)
words_of (apart option value) = valued_word option ∷ value ∷ []
words_of (joined option value) = (valued_word option ++ codes "=" ++ value) ∷ []
words_of (flag option) = flag_word option ∷ []
words_of (file name) = name ∷ []

-- a word that is taken for no option: it begins with no hyphen, or it is one
abbrev pub IsPlain : List ℕ → Type 0
IsPlain word = (starts_with_minus word ≡ false) ⊎ (word ≡ codes "-")

abbrev pub IsWritten : Item → Type 0
IsWritten (apart option value) = IsPlain value
IsWritten (joined option value) = ⊤
IsWritten (flag option) = ⊤
IsWritten (file name) = IsPlain name

-- How a line ends: with its items; or with the word `--`, after which no word is an option, and then a file's name or
-- nothing.
pub data Ending : Type 0 where
  bare : Ending
  dashes : Ending
  named : List ℕ → Ending

abbrev pub words_of_ending : Ending → List (List ℕ)
words_of_ending bare = []
words_of_ending dashes = codes "--" ∷ []
words_of_ending (named name) = codes "--" ∷ name ∷ []

-- all values of an option on a line, in order
abbrev pub value_in : Valued → Item → List (List ℕ)
value_in width (apart width value) = value ∷ []
value_in width (joined width value) = value ∷ []
value_in references (apart references value) = value ∷ []
value_in references (joined references value) = value ∷ []
value_in max_bytes (apart max_bytes value) = value ∷ []
value_in max_bytes (joined max_bytes value) = value ∷ []
value_in _ _ = []

abbrev pub values_in : Valued → List Item → List (List ℕ)
values_in option items = flat_map (value_in option) items

-- how often an option without a value stands on it
abbrev pub use_in : Flag → Item → ℕ
use_in rich (flag rich) = 1
use_in no_decorate (flag no_decorate) = 1
use_in footnotes (flag footnotes) = 1
use_in shared_footnotes (flag shared_footnotes) = 1
use_in _ _ = 0

abbrev pub uses_in : Flag → List Item → ℕ
uses_in option [] = 0
uses_in option (item ∷ items) = use_in option item + uses_in option items

-- all names of files on it
abbrev pub file_in : Item → List (List ℕ)
file_in (apart option value) = []
file_in (joined option value) = []
file_in (flag option) = []
file_in (file name) = name ∷ []

abbrev pub file_after : Ending → List (List ℕ)
file_after bare = []
file_after dashes = []
file_after (named name) = name ∷ []

abbrev pub files_in : List Item → Ending → List (List ℕ)
files_in items ending = flat_map file_in items ++ file_after ending

-- a value says a number: it is decimal digits, after a sign or none, of a number from 0 to the most in 32 bits (`+8`
-- says 8, and `-0` says 0)
abbrev pub Says : List ℕ → ℕ → Type 0
Says value n = IsNumeral 10 (without_leading_sign value) × (signed_digits_value 10 value ≡ pos n) × (n < 2 ^ 32)

-- What is given at most once: nothing, then it is 80 columns or none; the number that the one value says; the one text.
abbrev pub GivesWidth : List (List ℕ) → ℕ → Type 0
GivesWidth [] columns = columns ≡ 80
GivesWidth (value ∷ []) columns = Says value columns
GivesWidth (value ∷ other ∷ values) columns = ⊥

abbrev pub GivesNumber : List (List ℕ) → Option ℕ → Type 0
GivesNumber [] number = number ≡ None
GivesNumber (value ∷ []) None = ⊥
GivesNumber (value ∷ []) (Some n) = Says value n
GivesNumber (value ∷ other ∷ values) number = ⊥

abbrev pub GivesText : List (List ℕ) → Option (List ℕ) → Type 0
GivesText [] text = text ≡ None
GivesText (value ∷ []) text = text ≡ Some value
GivesText (value ∷ other ∷ values) text = ⊥

abbrev pub IsGiven : ℕ → Bool → Type 0
IsGiven zero given = given ≡ false
IsGiven (suc zero) given = given ≡ true
IsGiven (suc (suc more)) given = ⊥

-- What words ask for: the columns of a line of the page's text; rich text; marks of emphasis; the targets of links
-- after the page, and each once there; the file of a table of references; the most bytes of a page; the file of the
-- page.
pub record Asked : Type 0 where
  pub width : ℕ
  pub rich : Bool
  pub decorate : Bool
  pub footnotes : Bool
  pub shared_footnotes : Bool
  pub references : Option (List ℕ)
  pub max_bytes : Option ℕ
  pub file : Option (List ℕ)

-- These items with this ending are a line, each option and the file at most once, and ask for this.
pub record IsLine (items : List Item) (ending : Ending) (asked : Asked) : Type 0 where
  pub written : All IsWritten items
  pub width : GivesWidth (values_in width items) asked.width
  pub rich : IsGiven (uses_in rich items) asked.rich
  pub decorate : IsGiven (uses_in no_decorate items) (not asked.decorate)
  pub footnotes : IsGiven (uses_in footnotes items) asked.footnotes
  pub shared_footnotes : IsGiven (uses_in shared_footnotes items) asked.shared_footnotes
  pub references : GivesText (values_in references items) asked.references
  pub max_bytes : GivesNumber (values_in max_bytes items) asked.max_bytes
  pub file : GivesText (files_in items ending) asked.file

-- The words are a line and ask for this.
pub record Asks (words : List (List ℕ)) (asked : Asked) : Type 0 where
  pub items : List Item
  pub ending : Ending
  pub line : words ≡ flat_map words_of items ++ words_of_ending ending
  pub asks : IsLine items ending asked

-- `--help`, or a hyphen and then `h` (104), with more characters after it or none, which are not read
abbrev pub IsHelpWord : List ℕ → Type 0
IsHelpWord word =
    (word ≡ codes "--help") ⊎ ((flags : List ℕ) × (word ≡ codes "-" ++ flags) × (slice_get (chars flags) 0 ≡ Some 104))

-- The words are those of a line without its ending, then one that asks for help, and then any others, which are not
-- read.
pub record AsksHelp (words : List (List ℕ)) : Type 0 where
  pub items : List Item
  pub asked : Asked
  pub word : List ℕ
  pub rest : List (List ℕ)
  pub line : words ≡ flat_map words_of items ++ word ∷ rest
  pub asks : IsLine items bare asked
  pub helps : IsHelpWord word

-- the words of a command line without the first, the program's name
abbrev pub words_after_name : List (List ℕ) → List (List ℕ)
words_after_name [] = []
words_after_name (name ∷ words) = words
