-- Items that clap takes one after the other are those of a line of the grammar.
use Rattle.std.proofs.Common.{◌≡◌, ◌∙◌, ◌++◌, ◌≤◌, ◌||◌, ◌∷◌, [], Bool, List, None, Option, Some, ap, arith, cond}
use Rattle.std.proofs.Common.{false, length, map, not, refl, subst, suc, sym, true, zero, ℕ}
use Rattle.std.specs.List.{All}
use Rattle.std.specs.Str.{bytes_eq}
use Rattle.std.proofs.lemmas.List.{length-map}
use Rattle.std.proofs.lemmas.Slice.Eq.{bytes_eq-Decides}
use Rattle.clap.specs.Walk.{Row, Text, has_row}
use Rattle.clap.specs.Kinds.{values_kinds}
use Rattle.command_line.specs.CommandWords.{Asked, Ending, Flag, GivesNumber, GivesText, GivesWidth, IsGiven, IsLine}
use Rattle.command_line.specs.CommandWords.{IsWritten, Item, Valued, apart, bare, dashes, file, files_in, flag}
use Rattle.command_line.specs.CommandWords.{footnotes, joined, max_bytes, named, no_decorate, references, rich}
use Rattle.command_line.specs.CommandWords.{shared_footnotes, uses_in, values_in, width}
use Rattle.command_line.proofs.ItemRuns.{Runs, trailing}
use Rattle.command_line.proofs.ItemUses.{id_in, name_of, numbers, parser_at, row_in, value_fault, value_of}
use Rattle.command_line.proofs.NameUses.{files_all, same_parser, uses_all, uses_at, values_all}
use Rattle.command_line.proofs.NumberValues.{says_number, takes_number}
use Rattle.command_line.proofs.OptionNames.{Name, filed, flagged, id_of, valued}
use Rattle.command_line.proofs.RowLemmas.{has_row-append}

-- ---- what runs use of a name

or_splits : (a b : Bool) → (a || b) ≡ false → (a ≡ false) × (b ≡ false)
or_splits true b e = cc
or_splits false b e = (refl, e)

has_more : (id : Text) (rows : List Row) (item : Item) → has_row id (rows ++ row_in item ∷ [])
    ≡ (has_row id rows || (bytes_eq (id_in item) id || false))
has_more id rows item = has_row-append id rows (row_in item ∷ [])

has_front : (id : Text) (rows : List Row) (item : Item) → has_row id rows ≡ true
    → has_row id (rows ++ row_in item ∷ []) ≡ true
has_front id rows item has = has_more id rows item ∙ ap (λ b. b || (bytes_eq (id_in item) id || false)) has

or_last : (a b : Bool) → b ≡ true → (a || (b || false)) ≡ true
or_last true b e = refl
or_last false true e = refl
or_last false false e = e

has_last : (id : Text) (rows : List Row) (item : Item) → bytes_eq (id_in item) id ≡ true
    → has_row id (rows ++ row_in item ∷ []) ≡ true
has_last id rows item same = has_more id rows item ∙ or_last (has_row id rows) (bytes_eq (id_in item) id) same

unused : (name : Name) (rows : List Row) (items : List Item) → Runs rows items → has_row (id_of name) rows ≡ true
    → uses_at name items ≡ []
unused name rows [] runs has = refl
unused name rows (item ∷ rest) runs has =
    go (bytes_eq (id_in item) (id_of name)) refl
    (unused name (rows ++ row_in item ∷ []) rest runs.2 (has_front (id_of name) rows item has))
  where
    go : (b : Bool) → bytes_eq (id_in item) (id_of name) ≡ b → uses_at name rest ≡ []
        → cond b (item ∷ uses_at name rest) (uses_at name rest) ≡ []
    go true same later =
        let is : id_in item ≡ id_of name = (bytes_eq-Decides (id_in item) (id_of name)).0 same in
        let bad : true ≡ false = sym has ∙ ap (λ id. has_row id rows) (sym is) ∙ runs.0 in
        cc
    go false same later = later

-- no item, or one whose value passes
pub data Slot (name : Name) (uses : List Item) : Type 0 where
  none_here : uses ≡ [] → Slot name uses
  one_here : (item : Item) → uses ≡ item ∷ [] → bytes_eq (id_in item) (id_of name) ≡ true → value_fault item ≡ []
      → Slot name uses

pub slot_at : (name : Name) (rows : List Row) (items : List Item) → Runs rows items → Slot name (uses_at name items)
slot_at name rows [] runs = none_here refl
slot_at name rows (item ∷ rest) runs = go (bytes_eq (id_in item) (id_of name)) refl
    (slot_at name (rows ++ row_in item ∷ []) rest runs.2)
  where
    go : (b : Bool) → bytes_eq (id_in item) (id_of name) ≡ b → Slot name (uses_at name rest)
        → Slot name (cond b (item ∷ uses_at name rest) (uses_at name rest))
    go true same later =
        one_here item (ap (λ us. item ∷ us) (unused name (rows ++ row_in item ∷ []) rest runs.2
        (has_last (id_of name) rows item same))) same runs.1
    go false same later = later

-- ---- what they ask

-- what the value of the item is to a name whose values are numbers
number_passes : (option : Valued) (item : Item) → bytes_eq (id_in item) (id_of (valued option)) ≡ true
    → value_fault item ≡ [] → values_kinds false (parser_at (valued option)) (value_of item ∷ []) ≡ []
number_passes option item same fine = ap (λ p. values_kinds false p (value_of item ∷ []))
    (sym (same_parser (valued option) item same)) ∙ fine

width_asked : (values : List Text) (uses : List Item) → values ≡ map value_of uses → Slot (valued width) uses
    → (n : ℕ) × GivesWidth values n
width_asked values uses are (none_here none) =
    (80, subst (λ vs. GivesWidth vs 80) (sym (are ∙ ap (map value_of) none)) refl)
width_asked values uses are (one_here item one same fine) =
    let says = says_number (value_of item) (number_passes width item same fine) in
    (says.0, subst (λ vs. GivesWidth vs says.0) (sym (are ∙ ap (map value_of) one)) says.1)

number_asked : (values : List Text) (uses : List Item) → values ≡ map value_of uses → Slot (valued max_bytes) uses
    → (n : Option ℕ) × GivesNumber values n
number_asked values uses are (none_here none) =
    (None, subst (λ vs. GivesNumber vs None) (sym (are ∙ ap (map value_of) none)) refl)
number_asked values uses are (one_here item one same fine) =
    let says = says_number (value_of item) (number_passes max_bytes item same fine) in
    (Some says.0, subst (λ vs. GivesNumber vs (Some says.0)) (sym (are ∙ ap (map value_of) one)) says.1)

text_asked : (name : Name) (values : List Text) (uses : List Item) → values ≡ map value_of uses → Slot name uses
    → (text : Option Text) × GivesText values text
text_asked name values uses are (none_here none) =
    (None, subst (λ vs. GivesText vs None) (sym (are ∙ ap (map value_of) none)) refl)
text_asked name values uses are (one_here item one same fine) =
    (Some (value_of item), subst (λ vs. GivesText vs (Some (value_of item))) (sym (are ∙ ap (map value_of) one)) refl)

flag_asked : (name : Name) (count : ℕ) (uses : List Item) → count ≡ length uses → Slot name uses
    → (b : Bool) × IsGiven count b
flag_asked name count uses is (none_here none) = (false, subst (λ n. IsGiven n false) (sym (is ∙ ap length none)) refl)
flag_asked name count uses is (one_here item one same fine) =
    (true, subst (λ n. IsGiven n true) (sym (is ∙ ap length one)) refl)

not_twice : (b : Bool) → not (not b) ≡ b
not_twice true = refl
not_twice false = refl

pub record Line (items : List Item) (ending : Ending) : Type 0 where
  pub asked : Asked
  pub asks : IsLine items ending asked

pub runs_ask : (items : List Item) (ending : Ending) → All IsWritten items → Runs [] (items ++ trailing ending)
    → Line items ending
runs_ask items ending written runs = record {
  asked = record {
    width = columns.0;
    rich = plain.0;
    decorate = not unmarked.0;
    footnotes = notes.0;
    shared_footnotes = shared.0;
    references =
        table.0;
    max_bytes = most.0;
    file = page.0;
  };
  asks = record {
    written = written;
    width = columns.1;
    rich = plain.1;
    decorate = subst (IsGiven (uses_in no_decorate items)) (sym (not_twice unmarked.0)) unmarked.1;
    footnotes = notes.1;
    shared_footnotes = shared.1;
    references = table.1;
    max_bytes = most.1;
    file = page.1;
  };
}
  where
    all : List Item
    all = items ++ trailing ending

    columns : (n : ℕ) × GivesWidth (values_in width items) n
    columns = width_asked (values_in width items) (uses_at (valued width) all) (values_all width items ending)
        (slot_at (valued width) [] all runs)

    most : (n : Option ℕ) × GivesNumber (values_in max_bytes items) n
    most = number_asked (values_in max_bytes items) (uses_at (valued max_bytes) all) (values_all max_bytes items ending)
        (slot_at (valued max_bytes) [] all runs)

    table : (text : Option Text) × GivesText (values_in references items) text
    table = text_asked (valued references) (values_in references items) (uses_at (valued references) all)
        (values_all references items ending) (slot_at (valued references) [] all runs)

    page : (text : Option Text) × GivesText (files_in items ending) text
    page = text_asked filed (files_in items ending) (uses_at filed all) (files_all items ending)
        (slot_at filed [] all runs)

    given_flag : (option : Flag) → (b : Bool) × IsGiven (uses_in option items) b
    given_flag option = flag_asked (flagged option) (uses_in option items) (uses_at (flagged option) all)
        (uses_all option items ending) (slot_at (flagged option) [] all runs)

    plain : (b : Bool) × IsGiven (uses_in rich items) b
    plain = given_flag rich

    unmarked : (b : Bool) × IsGiven (uses_in no_decorate items) b
    unmarked = given_flag no_decorate

    notes : (b : Bool) × IsGiven (uses_in footnotes items) b
    notes = given_flag footnotes

    shared : (b : Bool) × IsGiven (uses_in shared_footnotes items) b
    shared = given_flag shared_footnotes

-- ---- the items of a line run

pub width_single : (values : List Text) (n : ℕ) → GivesWidth values n → length values ≤ 1
width_single [] n gives = omega arith
width_single (v ∷ []) n gives = omega arith
width_single (v ∷ w ∷ values) n gives = absurd gives

pub number_single : (values : List Text) (n : Option ℕ) → GivesNumber values n → length values ≤ 1
number_single [] n gives = omega arith
number_single (v ∷ []) n gives = omega arith
number_single (v ∷ w ∷ values) n gives = absurd gives

pub text_single : (values : List Text) (text : Option Text) → GivesText values text → length values ≤ 1
text_single [] text gives = omega arith
text_single (v ∷ []) text gives = omega arith
text_single (v ∷ w ∷ values) text gives = absurd gives

pub flag_single : (count : ℕ) (b : Bool) → IsGiven count b → count ≤ 1
flag_single zero b gives = omega arith
flag_single (suc zero) b gives = omega arith
flag_single (suc (suc n)) b gives = absurd gives

single_uses : (values : List Text) (uses : List Item) → values ≡ map value_of uses → length values ≤ 1 → length uses ≤ 1
single_uses values uses are short = let same = ap length are ∙ length-map uses value_of in omega arith

pub all_single : (items : List Item) (ending : Ending) (asked : Asked) → IsLine items ending asked → (name : Name)
    → length (uses_at name (items ++ trailing ending)) ≤ 1
all_single items ending asked line (valued width) =
    single_uses _ _ (values_all width items ending) (width_single _ _ line.width)
all_single items ending asked line (valued references) =
    single_uses _ _ (values_all references items ending) (text_single _ _ line.references)
all_single items ending asked line (valued max_bytes) =
    single_uses _ _ (values_all max_bytes items ending) (number_single _ _ line.max_bytes)
all_single items ending asked line (flagged rich) =
    subst (λ n. n ≤ 1) (uses_all rich items ending) (flag_single _ _ line.rich)
all_single items ending asked line (flagged no_decorate) =
    subst (λ n. n ≤ 1) (uses_all no_decorate items ending) (flag_single _ _ line.decorate)
all_single items ending asked line (flagged footnotes) =
    subst (λ n. n ≤ 1) (uses_all footnotes items ending) (flag_single _ _ line.footnotes)
all_single items ending asked line (flagged shared_footnotes) =
    subst (λ n. n ≤ 1) (uses_all shared_footnotes items ending) (flag_single _ _ line.shared_footnotes)
all_single items ending asked line filed = single_uses _ _ (files_all items ending) (text_single _ _ line.file)

abbrev Good : List Text → Type 0
Good [] = Unit {0}
Good (value ∷ values) = (values_kinds false numbers (value ∷ []) ≡ []) × Good values

good_width : (values : List Text) (n : ℕ) → GivesWidth values n → Good values
good_width [] n gives = tt
good_width (v ∷ []) n gives = (takes_number v n gives, tt)
good_width (v ∷ w ∷ values) n gives = absurd gives

good_number : (values : List Text) (n : Option ℕ) → GivesNumber values n → Good values
good_number [] n gives = tt
good_number (v ∷ []) None gives = absurd gives
good_number (v ∷ []) (Some n) gives = (takes_number v n gives, tt)
good_number (v ∷ w ∷ values) n gives = absurd gives

abbrev Fine : List Item → Type 0
Fine [] = Unit {0}
Fine (item ∷ rest) = (value_fault item ≡ []) × Fine rest

fine_items : (items : List Item) (ending : Ending) → Good (values_in width items) → Good (values_in max_bytes items)
    → Fine (items ++ trailing ending)
fine_items [] bare w m = tt
fine_items [] dashes w m = tt
fine_items [] (named name) w m = (refl, tt)
fine_items (apart width value ∷ rest) ending w m = (w.0, fine_items rest ending w.1 m)
fine_items (apart references value ∷ rest) ending w m = (refl, fine_items rest ending w m)
fine_items (apart max_bytes value ∷ rest) ending w m = (m.0, fine_items rest ending w m.1)
fine_items (joined width value ∷ rest) ending w m = (w.0, fine_items rest ending w.1 m)
fine_items (joined references value ∷ rest) ending w m = (refl, fine_items rest ending w m)
fine_items (joined max_bytes value ∷ rest) ending w m = (m.0, fine_items rest ending w m.1)
fine_items (flag option ∷ rest) ending w m = (refl, fine_items rest ending w m)
fine_items (file name ∷ rest) ending w m = (refl, fine_items rest ending w m)

same_name : (name : Name) → bytes_eq (id_of name) (id_of name) ≡ true
same_name name = (bytes_eq-Decides (id_of name) (id_of name)).1 refl

nil_of_none : (uses : List Item) → length uses ≤ 0 → uses ≡ []
nil_of_none [] none = refl
nil_of_none (u ∷ us) none = absurd (omega arith)

fewer : (name : Name) (item : Item) (rest : List Item) → length (uses_at name (item ∷ rest)) ≤ 1
    → length (uses_at name rest) ≤ 1
fewer name item rest short = go (bytes_eq (id_in item) (id_of name)) short
  where
    go : (b : Bool) → length (cond b (item ∷ uses_at name rest) (uses_at name rest)) ≤ 1
        → length (uses_at name rest) ≤ 1
    go true s = omega arith
    go false s = s

-- after an item its name is used no more, and what was not used stays so
none_later : (name : Name) (rows : List Row) (item : Item) (rest : List Item) → length (uses_at name (item ∷ rest)) ≤ 1
    → (has_row (id_of name) rows ≡ true → uses_at name (item ∷ rest) ≡ [])
    → has_row (id_of name) (rows ++ row_in item ∷ []) ≡ true → uses_at name rest ≡ []
none_later name rows item rest short before has = go (bytes_eq (id_in item) (id_of name)) refl short before
  where
    go : (b : Bool) → bytes_eq (id_in item) (id_of name) ≡ b
        → length (cond b (item ∷ uses_at name rest) (uses_at name rest)) ≤ 1
        → (has_row (id_of name) rows ≡ true → cond b (item ∷ uses_at name rest) (uses_at name rest) ≡ [])
        → uses_at name rest ≡ []
    go true same s none = nil_of_none (uses_at name rest) (omega arith)
    go false other s none = none (earlier (has_row (id_of name) rows)
        (ap (λ b. has_row (id_of name) rows || (b || false)) (sym other) ∙ sym (has_more (id_of name) rows item) ∙ has))
      where
        earlier : (b : Bool) → (b || false) ≡ true → b ≡ true
        earlier true e = refl
        earlier false e = e

not_used_yet : (rows : List Row) (item : Item) (rest : List Item)
    → (has_row (id_in item) rows ≡ true → uses_at (name_of item) (item ∷ rest) ≡ []) → has_row (id_in item) rows ≡ false
not_used_yet rows item rest none = go (has_row (id_in item) rows) refl
  where
    here : uses_at (name_of item) (item ∷ rest) ≡ item ∷ uses_at (name_of item) rest
    here = ap (λ b. cond b (item ∷ uses_at (name_of item) rest) (uses_at (name_of item) rest))
        (same_name (name_of item))

    go : (b : Bool) → has_row (id_in item) rows ≡ b → b ≡ false
    go true has = let bad : item ∷ uses_at (name_of item) rest ≡ [] = sym here ∙ none has in cc
    go false fresh = refl

run_from : (items : List Item) (rows : List Row) → ((name : Name) → length (uses_at name items) ≤ 1)
    → ((name : Name) → has_row (id_of name) rows ≡ true → uses_at name items ≡ [])
    → Fine items → Runs rows items
run_from [] rows short none fine = tt
run_from (item ∷ rest) rows short none fine = (
  not_used_yet rows item rest (none (name_of item)),
  fine.0,
  run_from rest (rows ++ row_in item ∷ []) (λ name. fewer name item rest (short name))
      (λ name. none_later name rows item rest (short name) (none name)) fine.1,
)

pub line_runs : (items : List Item) (ending : Ending) (asked : Asked) → IsLine items ending asked
    → Runs [] (items ++ trailing ending)
line_runs items ending asked line =
    run_from (items ++ trailing ending) [] (all_single items ending asked line)
    (λ name has. let bad : false ≡ true = has in cc)
    (fine_items items ending (good_width _ _ line.width) (good_number _ _ line.max_bytes))
