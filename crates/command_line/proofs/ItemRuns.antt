-- Items that clap takes one after the other, and what is held after some of them.
use Rattle.std.proofs.Common.{◌≡◌, ◌∙◌, ◌++◌, ◌∷◌, ◌||◌, [], Bool, true, false, List, Option, Some, None, refl, ap}
use Rattle.std.specs.Str.{bytes_eq}
use Rattle.clap.specs.Walk.{Row, Text, has_row, settled_rows}
use Rattle.clap.specs.Faults.{settle_fault}
use Rattle.command_line.specs.CommandWords.{Ending, Flag, Item, Valued, bare, dashes, file, footnotes, max_bytes, named}
use Rattle.command_line.specs.CommandWords.{no_decorate, references, rich, shared_footnotes, width}
use Rattle.command_line.proofs.FaultKinds.{IsRefusal, refusal_as}
use Rattle.command_line.proofs.ItemUses.{Takes, held_with, id_in, item_fault, pend, row_in, settle_is, settled_is}
use Rattle.command_line.proofs.ItemUses.{taken, taken_passes, takes, untaken, used_is, value_fault}
use Rattle.command_line.proofs.OptionNames.{filed, flagged, id_of, shape, valued}
use Rattle.command_line.proofs.RowLemmas.{has_row-append}

-- each name is used once, with a value that passes
abbrev pub Runs : List Row → List Item → Type 0
Runs rows [] = Unit {0}
Runs rows (item ∷ rest) = (has_row (id_in item) rows ≡ false) × (value_fault item ≡ [])
    × Runs (rows ++ row_in item ∷ []) rest

abbrev pub listed : Option Item → List Item
listed None = []
listed (Some item) = item ∷ []

abbrev pub pended : List Row → Option Item → List Row
pended rows None = rows
pended rows (Some item) = rows ++ row_in item ∷ []

-- the file after `--`
abbrev pub trailing : Ending → List Item
trailing bare = []
trailing dashes = []
trailing (named name) = file name ∷ []

-- ---- what is held is used

pub settle_passes : (rows : List Row) (p : Option Item) → Runs rows (listed p)
    → settle_fault shape.rules false (held_with rows p) ≡ []
settle_passes rows None runs = refl
settle_passes rows (Some item) runs = settle_is rows (Some item) ∙ taken_passes rows item runs.0 runs.1

pub settled_rows_are : (rows : List Row) (p : Option Item) → Runs rows (listed p)
    → settled_rows shape.rules (pend p) rows ≡ pended rows p
settled_rows_are rows None runs = refl
settled_rows_are rows (Some item) runs = settled_is rows (Some item) ∙ used_is item rows runs.0

pub data Settles (rows : List Row) (p : Option Item) : Type 0 where
  settles_well : Runs rows (listed p) → Settles rows p
  settles_badly : IsRefusal (settle_fault shape.rules false (held_with rows p)) → Settles rows p

pub settles : (rows : List Row) (p : Option Item) → Settles rows p
settles rows None = settles_well tt
settles rows (Some item) = go (takes rows item)
  where
    go : Takes rows item → Settles rows (Some item)
    go (taken fresh fine) = settles_well (fresh, fine, tt)
    go (untaken refused) = settles_badly (refusal_as _ (item_fault rows item) (settle_is rows (Some item)) refused)

-- ---- whether the file was named

abbrev pub file_id : Text
file_id = id_of filed

abbrev pub is_file : Item → Bool
is_file item = bytes_eq (id_in item) file_id

or_false : (b : Bool) → (b || false) ≡ b
or_false true = refl
or_false false = refl

or_true : (b : Bool) → (b || true) ≡ true
or_true true = refl
or_true false = refl

pub other_row : (rows : List Row) (item : Item) → is_file item ≡ false → has_row file_id (rows ++ row_in item ∷ [])
    ≡ has_row file_id rows
other_row rows item other = has_row-append file_id rows (row_in item ∷ [])
    ∙ ap (λ b. has_row file_id rows || (b || false)) other ∙ or_false (has_row file_id rows)

pub file_row : (rows : List Row) (name : Text) → has_row file_id (rows ++ row_in (file name) ∷ []) ≡ true
file_row rows name = has_row-append file_id rows (row_in (file name) ∷ []) ∙ or_true (has_row file_id rows)

pub option_no_file : (option : Valued) → bytes_eq (id_of (valued option)) file_id ≡ false
option_no_file width = refl
option_no_file references = refl
option_no_file max_bytes = refl

pub flag_no_file : (option : Flag) → bytes_eq (id_of (flagged option)) file_id ≡ false
flag_no_file rich = refl
flag_no_file no_decorate = refl
flag_no_file footnotes = refl
flag_no_file shared_footnotes = refl
