-- The items that use a name, and what the grammar counts of them.
use Rattle.std.proofs.Common.{◌≡◌, ◌∙◌, ◌++◌, ◌+◌, ◌||◌, ◌∷◌, [], Bool, List, None, Option, Some, ap, append-nil, arith}
use Rattle.std.proofs.Common.{codes, cond, false, flat_map, length, length-append, map, refl, sym, true}
use Rattle.std.specs.Prelude.{slice_get}
use Rattle.std.specs.Str.{bytes_eq}
use Rattle.std.specs.Option.{option_and_then, option_map_or}
use Rattle.std.proofs.lemmas.Slice.Eq.{bytes_eq-Decides}
use Rattle.std.proofs.lemmas.Grind.{flat_map-append}
use Rattle.clap.specs.Walk.{Row, Text, row_text}
use Rattle.clap.specs.Values.{read_as, reading_of}
use Rattle.clap.specs.declared.builder.value_parser.ValueParser.{ValueParser}
use Rattle.clap.specs.declared.builder.value_parser.ValueParser.TheVariants as vp
use Rattle.command_line.specs.CommandWords.{Ending, Flag, Item, Valued, apart, bare, dashes, file, file_after, file_in}
use Rattle.command_line.specs.CommandWords.{files_in, flag, footnotes, joined, max_bytes, named, no_decorate}
use Rattle.command_line.specs.CommandWords.{references, rich, shared_footnotes, use_in, uses_in, value_in, values_in}
use Rattle.command_line.specs.CommandWords.{width}
use Rattle.command_line.proofs.ItemRuns.{trailing}
use Rattle.command_line.proofs.ItemUses.{id_in, name_of, numbers, parser_at, row_in, value_of}
use Rattle.command_line.proofs.FoundRows.{first_some, row_at}
use Rattle.command_line.proofs.OptionNames.{Name, filed, flagged, id_of, valued}

abbrev pub uses_at : Name → List Item → List Item
uses_at name [] = []
uses_at name (item ∷ rest) = cond (bytes_eq (id_in item) (id_of name)) (item ∷ uses_at name rest) (uses_at name rest)

abbrev pub values_at : Name → List Item → List Text
values_at name items = map value_of (uses_at name items)

-- ---- one item

each_item : (P : Item → Type 0) → ((v : Text) → P (apart width v)) → ((v : Text) → P (apart references v))
    → ((v : Text) → P (apart max_bytes v)) → ((v : Text) → P (joined width v))
    → ((v : Text) → P (joined references v)) → ((v : Text) → P (joined max_bytes v)) → P (flag rich)
    → P (flag no_decorate) → P (flag footnotes) → P (flag shared_footnotes) → ((v : Text) → P (file v))
    → (item : Item) → P item
each_item P a b c d e f g h i j k (apart width v) = a v
each_item P a b c d e f g h i j k (apart references v) = b v
each_item P a b c d e f g h i j k (apart max_bytes v) = c v
each_item P a b c d e f g h i j k (joined width v) = d v
each_item P a b c d e f g h i j k (joined references v) = e v
each_item P a b c d e f g h i j k (joined max_bytes v) = f v
each_item P a b c d e f g h i j k (flag rich) = g
each_item P a b c d e f g h i j k (flag no_decorate) = h
each_item P a b c d e f g h i j k (flag footnotes) = i
each_item P a b c d e f g h i j k (flag shared_footnotes) = j
each_item P a b c d e f g h i j k (file v) = k v

abbrev OneValue : Valued → Item → Type 0
OneValue option item = value_in option item ≡ values_at (valued option) (item ∷ [])

value_one : (option : Valued) (item : Item) → OneValue option item
value_one width = each_item (OneValue width) (λ v. refl) (λ v. refl) (λ v. refl) (λ v. refl) (λ v. refl) (λ v. refl)
    refl refl refl refl (λ v. refl)
value_one references = each_item (OneValue references) (λ v. refl) (λ v. refl) (λ v. refl) (λ v. refl) (λ v. refl)
    (λ v. refl) refl refl refl refl (λ v. refl)
value_one max_bytes = each_item (OneValue max_bytes) (λ v. refl) (λ v. refl) (λ v. refl) (λ v. refl) (λ v. refl)
    (λ v. refl) refl refl refl refl (λ v. refl)

abbrev OneUse : Flag → Item → Type 0
OneUse option item = use_in option item ≡ length (uses_at (flagged option) (item ∷ []))

use_one : (option : Flag) (item : Item) → OneUse option item
use_one rich = each_item (OneUse rich) (λ v. refl) (λ v. refl) (λ v. refl) (λ v. refl) (λ v. refl) (λ v. refl) refl refl
    refl refl (λ v. refl)
use_one no_decorate = each_item (OneUse no_decorate) (λ v. refl) (λ v. refl) (λ v. refl) (λ v. refl) (λ v. refl)
    (λ v. refl) refl refl refl refl (λ v. refl)
use_one footnotes = each_item (OneUse footnotes) (λ v. refl) (λ v. refl) (λ v. refl) (λ v. refl) (λ v. refl) (λ v. refl)
    refl refl refl refl (λ v. refl)
use_one shared_footnotes = each_item (OneUse shared_footnotes) (λ v. refl) (λ v. refl) (λ v. refl) (λ v. refl)
    (λ v. refl) (λ v. refl) refl refl refl refl (λ v. refl)

abbrev OneFile : Item → Type 0
OneFile item = file_in item ≡ values_at filed (item ∷ [])

file_one : (item : Item) → OneFile item
file_one = each_item OneFile (λ v. refl) (λ v. refl) (λ v. refl) (λ v. refl) (λ v. refl) (λ v. refl) refl refl refl
    refl (λ v. refl)

-- ---- all items

uses_step : (name : Name) (item : Item) (rest : List Item) → uses_at name (item ∷ rest)
    ≡ uses_at name (item ∷ []) ++ uses_at name rest
uses_step name item rest = go (bytes_eq (id_in item) (id_of name))
  where
    go : (b : Bool) → cond b (item ∷ uses_at name rest) (uses_at name rest) ≡ cond b (item ∷ []) [] ++ uses_at name rest
    go true = refl
    go false = refl

values_step : (name : Name) (item : Item) (rest : List Item) → values_at name (item ∷ rest)
    ≡ values_at name (item ∷ []) ++ values_at name rest
values_step name item rest = go (bytes_eq (id_in item) (id_of name))
  where
    go : (b : Bool) → map value_of (cond b (item ∷ uses_at name rest) (uses_at name rest))
        ≡ map value_of (cond b (item ∷ []) []) ++ values_at name rest
    go true = refl
    go false = refl

pub values_are : (option : Valued) (items : List Item) → values_in option items ≡ values_at (valued option) items
values_are option [] = refl
values_are option (item ∷ rest) = (λ i. value_one option item i ++ values_are option rest i)
    ∙ sym (values_step (valued option) item rest)

pub uses_are : (option : Flag) (items : List Item) → uses_in option items ≡ length (uses_at (flagged option) items)
uses_are option [] = refl
uses_are option (item ∷ rest) =
    (λ i. use_one option item i + uses_are option rest i)
    ∙ sym (ap length (uses_step (flagged option) item rest) ∙ length-append (uses_at (flagged option) (item ∷ []))
    (uses_at (flagged option) rest))

pub files_are : (items : List Item) → flat_map file_in items ≡ values_at filed items
files_are [] = refl
files_are (item ∷ rest) = (λ i. file_one item i ++ files_are rest i) ∙ sym (values_step filed item rest)

-- ---- the file after `--` is the file of one more item

no_value_after : (option : Valued) (ending : Ending) → values_in option (trailing ending) ≡ []
no_value_after option bare = refl
no_value_after option dashes = refl
no_value_after width (named name) = refl
no_value_after references (named name) = refl
no_value_after max_bytes (named name) = refl

pub values_all : (option : Valued) (items : List Item) (ending : Ending)
    → values_in option items ≡ values_at (valued option) (items ++ trailing ending)
values_all option items ending =
    sym (append-nil (values_in option items)) ∙ ap (λ vs. values_in option items ++ vs)
    (sym (no_value_after option ending)) ∙ sym (flat_map-append (value_in option) items (trailing ending))
    ∙ values_are option (items ++ trailing ending)

no_use_after : (option : Flag) (ending : Ending) → uses_in option (trailing ending) ≡ 0
no_use_after option bare = refl
no_use_after option dashes = refl
no_use_after rich (named name) = refl
no_use_after no_decorate (named name) = refl
no_use_after footnotes (named name) = refl
no_use_after shared_footnotes (named name) = refl

uses-append : (option : Flag) (xs ys : List Item) → uses_in option (xs ++ ys) ≡ uses_in option xs + uses_in option ys
uses-append option [] ys = omega arith
uses-append option (x ∷ xs) ys = let later = uses-append option xs ys in omega arith

pub uses_all : (option : Flag) (items : List Item) (ending : Ending) → uses_in option items
    ≡ length (uses_at (flagged option) (items ++ trailing ending))
uses_all option items ending =
    let none = no_use_after option ending in
    let both = uses-append option items (trailing ending) in
    let same : uses_in option items ≡ uses_in option (items ++ trailing ending) = omega arith in
    same ∙ uses_are option (items ++ trailing ending)

file_after_is : (ending : Ending) → flat_map file_in (trailing ending) ≡ file_after ending
file_after_is bare = refl
file_after_is dashes = refl
file_after_is (named name) = refl

pub files_all : (items : List Item) (ending : Ending) → files_in items ending
    ≡ values_at filed (items ++ trailing ending)
files_all items ending =
    ap (λ fs. flat_map file_in items ++ fs) (sym (file_after_is ending)) ∙ sym
    (flat_map-append file_in items (trailing ending)) ∙ files_are (items ++ trailing ending)

-- ---- the row of a name

parser_by : Text → ValueParser
parser_by id =
    cond (bytes_eq id (codes "width") || bytes_eq id (codes "max-bytes")) numbers
    (cond (bytes_eq id (codes "rich") || (bytes_eq id (codes "no-decorate")
    || (bytes_eq id (codes "footnotes") || bytes_eq id (codes "shared-footnotes")))) vp.Bool vp.String)

parser_is : (name : Name) → parser_at name ≡ parser_by (id_of name)
unfolding parser_by
parser_is (valued width) = refl
parser_is (valued references) = refl
parser_is (valued max_bytes) = refl
parser_is (flagged rich) = refl
parser_is (flagged no_decorate) = refl
parser_is (flagged footnotes) = refl
parser_is (flagged shared_footnotes) = refl
parser_is filed = refl

pub same_parser : (name : Name) (item : Item) → bytes_eq (id_in item) (id_of name) ≡ true
    → parser_at (name_of item) ≡ parser_at name
same_parser name item same = parser_is (name_of item)
    ∙ ap parser_by ((bytes_eq-Decides (id_in item) (id_of name)).0 same) ∙ sym (parser_is name)

abbrev pub first_of_all : {A : Type 0} → List A → Option A
first_of_all [] = None
first_of_all (x ∷ xs) = Some x

-- what clap reads of a name: of the first item that uses it, or of another row
abbrev pub text_in : Name → List Item → Option Row → Option Text
text_in name items other = option_map_or (λ v. Some (read_as (reading_of (parser_at name)) v))
    (first_of_all (values_at name items)) (option_and_then row_text other)

pub text_at : (name : Name) (items : List Item) (other : Option Row)
    → option_and_then row_text (first_some (row_at (id_of name) (map row_in items)) other) ≡ text_in name items other
text_at name [] other = refl
text_at name (item ∷ rest) other = go (bytes_eq (id_in item) (id_of name)) refl (text_at name rest other)
  where
    go : (b : Bool) → bytes_eq (id_in item) (id_of name) ≡ b
        → option_and_then row_text (first_some (row_at (id_of name) (map row_in rest)) other) ≡ text_in name rest other
        → option_and_then row_text (first_some (cond b (Some (row_in item)) (row_at (id_of name) (map row_in rest)))
        other)
        ≡ option_map_or (λ v. Some (read_as (reading_of (parser_at name)) v))
        (first_of_all (map value_of (cond b (item ∷ uses_at name rest) (uses_at name rest))))
        (option_and_then row_text other)
    go true same later = ap (λ p. Some (read_as (reading_of p) (value_of item))) (same_parser name item same)
    go false same later = later

-- the value as it was written
abbrev pub first_text : Row → Option Text
first_text r = slice_get r.values 0

pub value_found : (name : Name) (items : List Item)
    → option_and_then first_text (row_at (id_of name) (map row_in items)) ≡ first_of_all (values_at name items)
value_found name [] = refl
value_found name (item ∷ rest) = go (bytes_eq (id_in item) (id_of name)) (value_found name rest)
  where
    go : (b : Bool) → option_and_then first_text (row_at (id_of name) (map row_in rest))
        ≡ first_of_all (values_at name rest)
        → option_and_then first_text (cond b (Some (row_in item)) (row_at (id_of name) (map row_in rest)))
        ≡ first_of_all (map value_of (cond b (item ∷ uses_at name rest) (uses_at name rest)))
    go true later = refl
    go false later = later

-- ---- the value of a flag

is_flag_id : Text → Bool
is_flag_id id = bytes_eq id (codes "rich") || (bytes_eq id (codes "no-decorate")
    || (bytes_eq id (codes "footnotes") || bytes_eq id (codes "shared-footnotes")))

abbrev IsTrueFlag : Item → Type 0
IsTrueFlag item = is_flag_id (id_in item) ≡ true → value_of item ≡ codes "true"

true_flag : (item : Item) → IsTrueFlag item
unfolding is_flag_id
true_flag = each_item IsTrueFlag (λ v e. cc) (λ v e. cc) (λ v e. cc) (λ v e. cc) (λ v e. cc) (λ v e. cc) (λ e. refl)
    (λ e. refl) (λ e. refl) (λ e. refl) (λ v e. cc)

flag_ids : (option : Flag) → is_flag_id (id_of (flagged option)) ≡ true
unfolding is_flag_id
flag_ids rich = refl
flag_ids no_decorate = refl
flag_ids footnotes = refl
flag_ids shared_footnotes = refl

pub flag_value : (option : Flag) (item : Item) → bytes_eq (id_in item) (id_of (flagged option)) ≡ true
    → value_of item ≡ codes "true"
flag_value option item same = true_flag item
    (ap is_flag_id ((bytes_eq-Decides (id_in item) (id_of (flagged option))).0 same) ∙ flag_ids option)
