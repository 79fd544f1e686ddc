-- Which words are refused, and how.
use Rattle.std.specs.Prelude.{◌≡◌, ◌≢◌, ℕ, List, Result, Ok, Err, String, Vec, ⊤, map, string_bytes}
use Rattle.std.specs.IoError.{error_kind}
use Rattle.std.specs.declared.io.Error.{Error as IoFault}
use Rattle.clap.specs.declared.error.kind.ErrorKind.{ErrorKind}
use Rattle.clap.specs.declared.error.kind.ErrorKind.TheVariants as kinds
use Rattle.std.specs.declared.io.ErrorKind.{ErrorKind as IoKind}
use Rattle.std.specs.declared.io.ErrorKind.TheVariants as io_kinds
use Rattle.command_line.specs.CommandWords.{Asked, Asks, AsksHelp, words_after_name}
use Rattle.command_line.specs.declared.words.WordFault.{WordFault}
use Rattle.command_line.specs.declared.words.WordFault.TheVariants as faults

-- the words ask for help, or are no line of this program and ask for none; memory may run out at any words
abbrev pub Explains : List (List ℕ) → WordFault → Type 0
Explains words (faults.Help text) = AsksHelp words
Explains words (faults.Words text) = ((asked : Asked) → Asks words asked → ⊥) × (AsksHelp words → ⊥)
Explains words faults.NotUtf8 = ⊥
Explains words faults.Memory = ⊤

-- Words that could not be had, for this kind of error: memory ran out, or one is no text. (The runtime reports no
-- other.)
abbrev pub fault_of_kind : IoKind → WordFault
fault_of_kind io_kinds.OutOfMemory = faults.Memory
fault_of_kind _ = faults.NotUtf8

abbrev pub IsHelp : WordFault → Type 0
IsHelp (faults.Help text) = ⊤
IsHelp (faults.Words text) = ⊥
IsHelp faults.NotUtf8 = ⊥
IsHelp faults.Memory = ⊥

abbrev pub IsHelpOrMemory : WordFault → Type 0
IsHelpOrMemory (faults.Help text) = ⊤
IsHelpOrMemory (faults.Words text) = ⊥
IsHelpOrMemory faults.NotUtf8 = ⊥
IsHelpOrMemory faults.Memory = ⊤

-- what clap's kind of error is to the callers of this program
abbrev pub IsFaultOf : ErrorKind → WordFault → Type 0
IsFaultOf kind (faults.Help text) = kind ≡ kinds.DisplayHelp
IsFaultOf kind (faults.Words text) = (kind ≢ kinds.DisplayHelp) × (kind ≢ kinds.OutOfMemory)
IsFaultOf kind faults.NotUtf8 = ⊥
IsFaultOf kind faults.Memory = ⊤

-- why the words of a command line, the program's name first, are refused
abbrev pub IsRefusedWith : {A B : Type 0} → Result (Vec (String A) B) IoFault → WordFault → Type 0
IsRefusedWith (Ok words) fault = Explains (words_after_name (map string_bytes words.items)) fault × (IsHelp fault → ⊥)
IsRefusedWith (Err error) fault = fault ≡ fault_of_kind (error_kind error)
