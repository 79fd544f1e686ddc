-- What the program answers to a command line: what its writers gain, and its exit status.
use Rattle.std.specs.Prelude.{◌≡◌, ◌+◌, ◌<◌, ◌⊎◌, ◌++◌, ⊤, Bool, Err, IfSome, List, None, Ok, Option, Result, Some}
use Rattle.std.specs.Prelude.{codes, length, string_bytes, true, ℕ}
use Rattle.std.specs.Io.KnownBytes.{Appends}
use Rattle.command_line.specs.CommandWords.{Asked, Asks, AsksHelp}
use Rattle.command_line.specs.Requests.{asked_of}
use Rattle.command_line.specs.declared.words.Request.{Request}
use Rattle.command_line.specs.declared.words.WordFault.{WordFault}
use Rattle.command_line.specs.declared.words.WordFault.TheVariants as faults
use Rattle.lex_base.specs.KnownPart.{AppendsPart}
use Rattle.lex_base.specs.References.{References, basic}
use Rattle.html2text.specs.LinesText.{newline}
use Rattle.html2text.specs.Written.{IsOtherPage, IsTooNarrowPage, WritesPage, WritesPart, most_bytes}
use Rattle.html2text.specs.declared.outcome.Outcome.{Outcome}
use Rattle.html2text.specs.declared.outcome.Outcome.TheVariants as outcomes
use Rattle.command_line.specs.TableFiles.{IsNoTable, IsTableText}
use Rattle.command_line.specs.declared.table_fault.TableFault.{TableFault}
use Rattle.command_line.specs.declared.table_fault.TableFault.TheVariants as table_faults
use Rattle.page_config.specs.declared.error.Error.{Error}
use Rattle.page_config.specs.declared.error.Error.TheVariants as errors

-- the bytes of a device, where they are known
abbrev pub Bytes : Type 0
Bytes = Option (List ℕ)

-- the bytes of files by their names, where they are known
abbrev pub Files : Type 0
Files = List ℕ → Bytes

-- a fault on standard error: the program's name, what is wrong, and a newline
abbrev pub complaint : List ℕ → List ℕ
complaint text = codes "html2text: " ++ (text ++ newline)

-- known bytes grow by these, or by a beginning of them where their writer has failed
abbrev pub Emits : Bool → Bytes → Bytes → List ℕ → Type 0
Emits failed old new bytes = Appends old new bytes ⊎ ((failed ≡ true) × AppendsPart old new bytes)

-- the same, of a fault with this text
abbrev pub Complains : Bool → Bytes → Bytes → List ℕ → Type 0
Complains failed old new text = Emits failed old new (complaint text)

-- The page is that of the file that is named, or of standard input.
abbrev pub page_bytes : Files → Bytes → Option (List ℕ) → Bytes
page_bytes files input None = input
page_bytes files input (Some name) = files name

-- The references are the basic ones, or those of the file that is named, where its bytes are known.
abbrev pub IsTableOf : Files → Option (List ℕ) → References → Type 0
IsTableOf files None names = names ≡ basic
IsTableOf files (Some name) names = IfSome (files name) (λ bytes. IsTableText bytes names)

-- Why a page is refused: by its bytes, where they are known; because a device has failed; or because more bytes were
-- given than may be, from before to after.
abbrev pub IsRefusalBy : (Narrow Nothing : List ℕ → Type 0) → Bytes → Bool → ℕ → ℕ → ℕ → Error → Type 0
IsRefusalBy Narrow Nothing bytes failed most before after errors.TooNarrow = IfSome bytes Narrow
IsRefusalBy Narrow Nothing bytes failed most before after errors.Fail = IfSome bytes Nothing
IsRefusalBy Narrow Nothing bytes failed most before after errors.IoError = failed ≡ true
IsRefusalBy Narrow Nothing bytes failed most before after errors.TooLong =
    (before + most < after) × IfSome bytes (λ page. most < length page)
IsRefusalBy Narrow Nothing bytes failed most before after errors.Memory = ⊤

-- the same of a file, of which nobody sees whether a read has failed and how many bytes it gave
abbrev pub IsFileRefusalBy : (Narrow Nothing : List ℕ → Type 0) → Bytes → ℕ → Error → Type 0
IsFileRefusalBy Narrow Nothing bytes most errors.TooNarrow = IfSome bytes Narrow
IsFileRefusalBy Narrow Nothing bytes most errors.Fail = IfSome bytes Nothing
IsFileRefusalBy Narrow Nothing bytes most errors.IoError = ⊤
IsFileRefusalBy Narrow Nothing bytes most errors.TooLong = IfSome bytes (λ page. most < length page)
IsFileRefusalBy Narrow Nothing bytes most errors.Memory = ⊤

-- why the page that is asked for is refused, with these references
abbrev pub IsSourceRefusal : Asked → References → Files → Option (List ℕ) → Bytes → Bool → ℕ → ℕ → Error → Type 0
IsSourceRefusal asked names files None input failed before after error = IsRefusalBy (IsTooNarrowPage asked names)
    (IsOtherPage asked names) input failed (most_bytes asked) before after error
IsSourceRefusal asked names files (Some name) input failed before after error = IsFileRefusalBy
    (IsTooNarrowPage asked names) (IsOtherPage asked names) (files name) (most_bytes asked) error

pub record IsRefusal (asked : Asked) (files : Files) (input : Bytes) (failed : Bool) (before after : ℕ)
    (error : Error) : Type 0 where
  pub names : References
  pub table : IsTableOf files asked.references names
  pub reason : IsSourceRefusal asked names files asked.file input failed before after error

-- why no table was had from the file that is named: it can't be opened or read, it is no table, or allocation fails
abbrev pub IsTableRefusal : Files → Option (List ℕ) → TableFault → Type 0
IsTableRefusal files None fault = ⊥
IsTableRefusal files (Some name) table_faults.NotRead = ⊤
IsTableRefusal files (Some name) table_faults.Refused = IfSome (files name) IsNoTable
IsTableRefusal files (Some name) table_faults.Memory = ⊤

-- how the answer to a request or to what is wrong with words may end
abbrev pub IsOutcomeOf : Result Request WordFault → Outcome → Type 0
IsOutcomeOf (Ok request) outcome = (outcome ≡ outcomes.Done) ⊎ ((error : Error) × (outcome ≡ outcomes.Page error))
    ⊎ (outcome ≡ outcomes.NotOpened) ⊎ (outcome ≡ outcomes.Table)
IsOutcomeOf (Err (faults.Help text)) outcome = (outcome ≡ outcomes.Done) ⊎ (outcome ≡ outcomes.Page errors.IoError)
IsOutcomeOf (Err (faults.Words text)) outcome = outcome ≡ outcomes.Words
IsOutcomeOf (Err faults.NotUtf8) outcome = outcome ≡ outcomes.Words
IsOutcomeOf (Err faults.Memory) outcome = outcome ≡ outcomes.Words

-- known bytes grow by the text of the page that is asked for
pub record ShowsPage (asked : Asked) (files : Files) (input old new : Bytes) : Type 0 where
  pub names : References
  pub table : IsTableOf files asked.references names
  pub written : IfSome (page_bytes files input asked.file) (λ bytes. WritesPage asked names bytes old new)

-- or by a beginning of it
pub record ShowsPart (asked : Asked) (files : Files) (input old new : Bytes) : Type 0 where
  pub names : References
  pub table : IsTableOf files asked.references names
  pub written : IfSome (page_bytes files input asked.file) (λ bytes. WritesPart asked names bytes old new)

-- known bytes grow by what was asked for: the text of the page's lines, or the help
abbrev pub WritesAnswer : Result Request WordFault → Files → Bytes → Bytes → Bytes → Type 0
WritesAnswer (Ok request) files input old new = ShowsPage (asked_of request) files input old new
WritesAnswer (Err (faults.Help text)) files input old new = Appends old new (string_bytes text)
WritesAnswer (Err (faults.Words text)) files input old new = ⊥
WritesAnswer (Err faults.NotUtf8) files input old new = ⊥
WritesAnswer (Err faults.Memory) files input old new = ⊥

-- known bytes grow by a beginning of it
abbrev pub WritesAnswerPart : Result Request WordFault → Files → Bytes → Bytes → Bytes → Type 0
WritesAnswerPart (Ok request) files input old new = ShowsPart (asked_of request) files input old new
WritesAnswerPart (Err (faults.Help text)) files input old new = AppendsPart old new (string_bytes text)
WritesAnswerPart (Err (faults.Words text)) files input old new = ⊥
WritesAnswerPart (Err faults.NotUtf8) files input old new = ⊥
WritesAnswerPart (Err faults.Memory) files input old new = ⊥

-- the words ask for a page, or for help; and known bytes grow by the text of its lines, or by a text
pub data WritesAsked (words : List (List ℕ)) (files : Files) (input old new : Bytes) : Type 0 where
  page : (asked : Asked) → Asks words asked → ShowsPage asked files input old new
      → WritesAsked words files input old new
  help : (text : List ℕ) → AsksHelp words → Appends old new text → WritesAsked words files input old new

-- the same, by a beginning of it
pub data WritesAskedPart (words : List (List ℕ)) (files : Files) (input old new : Bytes) : Type 0 where
  page : (asked : Asked) → Asks words asked → ShowsPart asked files input old new
      → WritesAskedPart words files input old new
  help : (text : List ℕ) → AsksHelp words → AppendsPart old new text → WritesAskedPart words files input old new

-- the words ask for a page, and this is why it is refused; or for that of a file that was not opened; or for help,
-- whose writer has failed
pub data IsAskedRefusal (words : List (List ℕ)) (files : Files) (input : Bytes) (failed writer_failed : Bool)
    (before after : ℕ) (error : Error) : Type 0 where
  page : (asked : Asked) → Asks words asked → IsRefusal asked files input failed before after error
      → IsAskedRefusal words files input failed writer_failed before after error
  unopened : (asked : Asked) (name : List ℕ) → Asks words asked → asked.file ≡ Some name → error ≡ errors.IoError
      → IsAskedRefusal words files input failed writer_failed before after error
  help : AsksHelp words → error ≡ errors.IoError → writer_failed ≡ true
      → IsAskedRefusal words files input failed writer_failed before after error

-- the words name a table of references, and this is why none was had
pub record IsAskedTableRefusal (words : List (List ℕ)) (files : Files) (fault : TableFault) : Type 0 where
  pub asked : Asked
  pub asks : Asks words asked
  pub refusal : IsTableRefusal files asked.references fault
