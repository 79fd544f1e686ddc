-- How the calls end that the answer to a request is made of (no promise speaks of it).
use Rattle.std.specs.Prelude.{◌≡◌, ◌⊎◌, ℕ, ◌≤◌, ◌||◌, Bool, false, true, List, length, Some, IfSome, Result, Ok, Err}
use Rattle.command_line.specs.CommandWords.{Asked}
use Rattle.html2text.specs.Responses.{Bytes, Files, IsRefusal, IsRefusalBy, IsTableRefusal, ShowsPage, ShowsPart}
use Rattle.html2text.specs.Written.{Gains, GainsPart}
use Rattle.html2text.specs.declared.outcome.Outcome.{Outcome}
use Rattle.html2text.specs.declared.outcome.Outcome.TheVariants as outcomes
use Rattle.html2text.specs.declared.program.Served.{Served}
use Rattle.command_line.specs.TableFiles.{fault_text}
use Rattle.command_line.specs.declared.table_fault.TableFault.{TableFault}
use Rattle.page_config.specs.Errors.{error_text}
use Rattle.page_config.specs.declared.error.Error.{Error}
use Rattle.page_config.specs.declared.error.Error.TheVariants as errors

-- the exit status that the program ended with
abbrev pub ending : Served → ℕ
ending served = served.status

-- A page of at most so many bytes was written and passed on, as these say which text it has; or it was refused, as they
-- say when its width is too narrow and when it is nothing, and the writer is as it was or has failed with a part of it.
abbrev pub EndsBy : (IsText : List ℕ → List ℕ → Type 0) (Narrow Nothing : List ℕ → Type 0) → (most : ℕ) → Bytes
    → (read_failed write_failed flushed : Bool) → (before after : ℕ) → (old new : Bytes) → (Untouched : Type 0)
    → Result (Unit {0}) Error → Type 0
EndsBy IsText Narrow Nothing most bytes read_failed write_failed flushed before after old new Untouched (Ok done) =
    IfSome bytes (λ page. (length page ≤ most) × Gains (IsText page) old new)
    × (write_failed ≡ false) × (flushed ≡ true)
EndsBy IsText Narrow Nothing most bytes read_failed write_failed flushed before after old new Untouched (Err error) =
    IsRefusalBy Narrow Nothing bytes (read_failed || write_failed) most before after error
    × (Untouched ⊎ ((write_failed ≡ true) × IfSome bytes (λ page. GainsPart (IsText page) old new)))

-- What is asked for was written and passed on, or why it was not, and what was reported of that.
abbrev pub IsAnswered : Asked → Files → Bytes → (read_failed write_failed flushed : Bool) → (before after : ℕ)
    → (old new : Bytes) → (Unread Untouched Silent : Type 0) → (Reported : List ℕ → Type 0) → Outcome → Type 0
IsAnswered asked files input read_failed write_failed flushed before after old new Unread Untouched Silent Reported
    outcomes.Done =
    ShowsPage asked files input old new × (write_failed ≡ false) × (flushed ≡ true) × Silent
IsAnswered asked files input read_failed write_failed flushed before after old new Unread Untouched Silent Reported
    (outcomes.Page error) =
    Reported (error_text error) × IsRefusal asked files input (read_failed || write_failed) before after error
    × (Untouched ⊎ ((write_failed ≡ true) × ShowsPart asked files input old new))
IsAnswered asked files input read_failed write_failed flushed before after old new Unread Untouched Silent Reported
    outcomes.NotOpened =
    Reported (error_text errors.IoError) × Untouched × ((name : List ℕ) × (asked.file ≡ Some name))
IsAnswered asked files input read_failed write_failed flushed before after old new Unread Untouched Silent Reported
    outcomes.Table =
    ((fault : TableFault) × Reported (fault_text fault) × IsTableRefusal files asked.references fault)
    × Unread × Untouched
IsAnswered asked files input read_failed write_failed flushed before after old new Unread Untouched Silent Reported
    outcomes.Words = ⊥
