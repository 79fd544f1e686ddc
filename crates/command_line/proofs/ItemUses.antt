-- An item is one use of an argument: how it may fail, and the row that it gives.
use Rattle.std.proofs.Common.{◌≡◌, ◌∙◌, ◌++◌, ◌∷◌, [], Bool, List, None, Option, Some, ap, codes, false, pos, refl}
use Rattle.std.proofs.Common.{true}
use Rattle.std.specs.Option.{option_map_or}
use Rattle.clap.specs.Walk.{Held, Row, Text, has_row, more_values, settled_rows, used, used_by_id, with_values, without}
use Rattle.clap.specs.Values.{reading_of, refused_kind}
use Rattle.clap.specs.ValueTests.{accepts}
use Rattle.clap.specs.Kinds.{Kinds, or_else, values_kinds}
use Rattle.clap.specs.Faults.{repeat_fault, settle_fault, use_fault}
use Rattle.clap.specs.declared.builder.value_parser.ValueParser.{ValueParser}
use Rattle.clap.specs.declared.builder.value_parser.ValueParser.TheVariants as vp
use Rattle.clap.specs.declared.parser.matches.ValueSource.TheVariants.{CommandLine}
use Rattle.clap.specs.declared.error.kind.ErrorKind.TheVariants.{ArgumentConflict, DisplayHelp, InvalidValue}
use Rattle.command_line.specs.CommandWords.{Item, Valued, apart, file, flag, footnotes, joined, max_bytes, no_decorate}
use Rattle.command_line.specs.CommandWords.{references, rich, shared_footnotes, width}
use Rattle.command_line.proofs.FaultKinds.{IsRefusal, refusal}
use Rattle.command_line.proofs.OptionNames.{Name, by_id, filed, flagged, id_of, rule_at, shape, valued}
use Rattle.command_line.proofs.RowLemmas.{fresh_row, fresh_without}

abbrev pub name_of : Item → Name
name_of (apart option value) = valued option
name_of (joined option value) = valued option
name_of (flag option) = flagged option
name_of (file name) = filed

abbrev pub id_in : Item → Text
id_in item = id_of (name_of item)

abbrev pub value_of : Item → Text
value_of (apart option value) = value
value_of (joined option value) = value
value_of (flag option) = codes "true"
value_of (file name) = name

-- the values that the words give
abbrev pub given : Item → List Text
given (apart option value) = value ∷ []
given (joined option value) = value ∷ []
given (flag option) = []
given (file name) = name ∷ []

abbrev pub numbers : ValueParser
numbers = vp.Signed (pos 0) (pos 4294967295)

abbrev pub parser_at : Name → ValueParser
parser_at (valued width) = numbers
parser_at (valued references) = vp.String
parser_at (valued max_bytes) = numbers
parser_at (flagged option) = vp.Bool
parser_at filed = vp.String

abbrev pub row_in : Item → Row
row_in item = record {
  id = id_in item;
  values = value_of item ∷ [];
  count = None;
  source = Some CommandLine;
  reading = reading_of (parser_at (name_of item));
}

-- ---- one use

abbrev pub value_fault : Item → Kinds
value_fault item = values_kinds false (parser_at (name_of item)) (value_of item ∷ [])

abbrev pub item_fault : List Row → Item → Kinds
item_fault rows item = or_else (repeat_fault false (id_in item) rows) (value_fault item)

pub use_is : (rows : List Row) (item : Item) → use_fault false (rule_at (name_of item)) (given item) rows
    ≡ item_fault rows item
unfolding rule_at
use_is rows (apart width value) = refl
use_is rows (apart references value) = refl
use_is rows (apart max_bytes value) = refl
use_is rows (joined width value) = refl
use_is rows (joined references value) = refl
use_is rows (joined max_bytes value) = refl
use_is rows (flag rich) = refl
use_is rows (flag no_decorate) = refl
use_is rows (flag footnotes) = refl
use_is rows (flag shared_footnotes) = refl
use_is rows (file name) = refl

-- an option without its value
pub bare_use : (option : Valued) (rows : List Row) → use_fault false (rule_at (valued option)) [] rows
    ≡ InvalidValue ∷ []
unfolding rule_at
bare_use width rows = refl
bare_use references rows = refl
bare_use max_bytes rows = refl

abbrev pub used_by : Item → List Row → List Row
used_by item rows = used (rule_at (name_of item)) (given item) rows

used_with : (item : Item) (rows : List Row)
    → used_by item rows ≡ with_values (id_in item) (reading_of (parser_at (name_of item))) CommandLine
    (value_of item ∷ []) (without (id_in item) rows)
unfolding rule_at
used_with (apart width value) rows = refl
used_with (apart references value) rows = refl
used_with (apart max_bytes value) rows = refl
used_with (joined width value) rows = refl
used_with (joined references value) rows = refl
used_with (joined max_bytes value) rows = refl
used_with (flag rich) rows = refl
used_with (flag no_decorate) rows = refl
used_with (flag footnotes) rows = refl
used_with (flag shared_footnotes) rows = refl
used_with (file name) rows = refl

pub used_is : (item : Item) (rows : List Row) → has_row (id_in item) rows ≡ false
    → used_by item rows ≡ rows ++ row_in item ∷ []
used_is item rows fresh =
    used_with item rows
    ∙ ap (with_values (id_in item) (reading_of (parser_at (name_of item))) CommandLine (value_of item ∷ []))
    (fresh_without (id_in item) rows fresh)
    ∙ fresh_row (id_in item) (more_values CommandLine (value_of item ∷ [])) (row_in item ∷ []) rows fresh

no_help : (name : Name) → refused_kind (parser_at name) ≡ DisplayHelp → ⊥
no_help (valued width) e = cc
no_help (valued references) e = cc
no_help (valued max_bytes) e = cc
no_help (flagged option) e = cc
no_help filed e = cc

-- a name that was not used, with a value that passes; or a refusal
pub data Takes (rows : List Row) (item : Item) : Type 0 where
  taken : has_row (id_in item) rows ≡ false → value_fault item ≡ [] → Takes rows item
  untaken : IsRefusal (item_fault rows item) → Takes rows item

pub takes : (rows : List Row) (item : Item) → Takes rows item
takes rows item = by_row (has_row (id_in item) rows) refl
  where
    by_value : has_row (id_in item) rows ≡ false → (b : Bool) → accepts false (parser_at (name_of item)) (value_of item)
        ≡ b → Takes rows item
    by_value fresh true e = taken fresh (simp e)
    by_value fresh false e = untaken (refusal _ (refused_kind (parser_at (name_of item))) (no_help (name_of item))
        (simp (fresh, e)))

    by_row : (b : Bool) → has_row (id_in item) rows ≡ b → Takes rows item
    by_row true e = untaken (refusal _ ArgumentConflict (λ same. let bad : ArgumentConflict ≡ DisplayHelp = same in cc)
        (simp e))
    by_row false e = by_value e (accepts false (parser_at (name_of item)) (value_of item)) refl

pub taken_passes : (rows : List Row) (item : Item) → has_row (id_in item) rows ≡ false → value_fault item ≡ []
    → item_fault rows item ≡ []
taken_passes rows item fresh fine = rw fresh fine

-- ---- what is held between two words

abbrev pub held : List Row → Option (Text × List Text) → Held
held rows pending = record { rows = rows; pending = pending; skip = 0 }

-- an item that is not used yet
abbrev pub pend : Option Item → Option (Text × List Text)
pend None = None
pend (Some item) = Some (id_in item, given item)

abbrev pub held_with : List Row → Option Item → Held
held_with rows p = held rows (pend p)

abbrev pub pending_fault : List Row → Option Item → Kinds
pending_fault rows None = []
pending_fault rows (Some item) = item_fault rows item

abbrev pub rows_with : List Row → Option Item → List Row
rows_with rows None = rows
rows_with rows (Some item) = used_by item rows

pub settle_is : (rows : List Row) (p : Option Item) → settle_fault shape.rules false (held_with rows p)
    ≡ pending_fault rows p
settle_is rows None = refl
settle_is rows (Some item) = ap (λ o. option_map_or (λ a. use_fault false a (given item) rows) o [])
    (by_id (name_of item)) ∙ use_is rows item

pub settled_is : (rows : List Row) (p : Option Item) → settled_rows shape.rules (pend p) rows ≡ rows_with rows p
settled_is rows None = refl
settled_is rows (Some item) = ap (λ o. used_by_id o (given item) rows) (by_id (name_of item))
