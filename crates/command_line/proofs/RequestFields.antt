-- What is read of the values that clap found is what the line asks for.
use Rattle.std.proofs.Common.{◌≡◌, ◌∙◌, ◌++◌, ◌∷◌, [], Bool, List, None, Option, Some, ap, codes, false, length, map}
use Rattle.std.proofs.Common.{not, refl, subst, sym, true, ℕ}
use Rattle.std.specs.Prelude.{fold}
use Rattle.std.specs.Option.{option_and_then, option_map_or}
use Rattle.clap.specs.Walk.{Text, row_text, rows_of, with_default}
use Rattle.clap.specs.Lexer.{without_minus}
use Rattle.clap.specs.Matches.{first_value, one_text}
use Rattle.clap.specs.Simple.{matches_of}
use Rattle.clap.specs.declared.parser.matches.Found.{Found}
use Rattle.clap.proofs.WalkLemmas.{first_value-rows, one_text-rows}
use Rattle.command_line.specs.CommandRules.{program}
use Rattle.command_line.specs.CommandWords.{Asked, Ending, Flag, GivesNumber, GivesText, GivesWidth, IsGiven, IsLine}
use Rattle.command_line.specs.CommandWords.{Item, Valued, files_in, footnotes, max_bytes, no_decorate, references, rich}
use Rattle.command_line.specs.CommandWords.{shared_footnotes, uses_in, values_in, width}
use Rattle.command_line.specs.FoundWords.{IsFound, EmitsFlag, EmitsNumber, EmitsWidth}
use Rattle.command_line.proofs.FoundRows.{all_rows, first_some, found_at, row_at, row_without}
use Rattle.command_line.proofs.ItemRuns.{trailing}
use Rattle.command_line.proofs.ItemUses.{row_in, value_of}
use Rattle.command_line.proofs.LineItems.{Slot, line_runs, none_here, one_here, slot_at}
use Rattle.command_line.proofs.LineWalks.{rows_over, stands}
use Rattle.command_line.proofs.NameUses.{files_all, first_of_all, first_text, flag_value, text_at, text_in, uses_all}
use Rattle.command_line.proofs.NameUses.{uses_at, value_found, values_all, values_at}
use Rattle.command_line.proofs.OptionNames.{Name, filed, flagged, id_of, shape, valued}

-- ---- what is found

-- what clap found is what it makes of the words, and the walk's rows are those of the items
pub record Finds (found : Found) (words : List Text) (all : List Item) : Type 0 where
  pub rows : rows_of found ≡ matches_of program words
  pub walk : rows_over (stands [] None) words ≡ map row_in all

row_found : (found : Found) (words : List Text) (all : List Item) → Finds found words all → (name : Name)
    → row_at (id_of name) (rows_of found) ≡ first_some (row_at (id_of name) (map row_in all)) (row_without name)
row_found found words all finds name =
    ap (row_at (id_of name)) (finds.rows ∙ all_rows words ∙ ap (λ rs. fold with_default rs shape.rules) finds.walk)
    ∙ found_at name (map row_in all)

text_found : (found : Found) (words : List Text) (all : List Item) → Finds found words all → (name : Name)
    → one_text found (id_of name) ≡ text_in name all (row_without name)
text_found found words all finds name =
    one_text-rows found (id_of name) ∙ ap (option_and_then row_text) (row_found found words all finds name)
    ∙ text_at name all (row_without name)

first_some_none : {A : Type 0} (a : Option A) → first_some a None ≡ a
first_some_none None = refl
first_some_none (Some x) = refl

option_found : (found : Found) (words : List Text) (all : List Item) → Finds found words all → (option : Valued)
    → first_value found (id_of (valued option)) ≡ first_of_all (values_at (valued option) all)
option_found found words all finds option =
    first_value-rows found (id_of (valued option)) ∙ ap (option_and_then first_text)
    (row_found found words all finds (valued option) ∙ first_some_none _) ∙ value_found (valued option) all

file_found : (found : Found) (words : List Text) (all : List Item) → Finds found words all
    → first_value found (id_of filed) ≡ first_of_all (values_at filed all)
file_found found words all finds =
    first_value-rows found (id_of filed) ∙ ap (option_and_then first_text)
    (row_found found words all finds filed ∙ first_some_none _) ∙ value_found filed all

-- ---- each of the eight

abbrev number_text : List Text → Option Text
number_text values = option_map_or (λ v. Some (without_minus v)) (first_of_all values) None

width_emitted : (values : List Text) (text : Option Text) (columns n : ℕ) → text ≡ number_text values
    → EmitsWidth text columns → GivesWidth values n → columns ≡ n
width_emitted [] text columns n is emits gives = emits.0 is ∙ sym gives
width_emitted (v ∷ []) text columns n is emits gives = emits.1 v n is gives
width_emitted (v ∷ w ∷ values) text columns n is emits gives = absurd gives

number_emitted : (values : List Text) (text : Option Text) (number n : Option ℕ) → text ≡ number_text values
    → EmitsNumber text number → GivesNumber values n → number ≡ n
number_emitted [] text number n is emits gives = emits.0 is ∙ sym gives
number_emitted (v ∷ []) text number None is emits gives = absurd gives
number_emitted (v ∷ []) text number (Some n) is emits gives = emits.1 v n is gives
number_emitted (v ∷ w ∷ values) text number n is emits gives = absurd gives

pub text_emitted : (values : List Text) (text : Option Text) → GivesText values text → first_of_all values ≡ text
text_emitted [] text gives = sym gives
text_emitted (v ∷ []) text gives = sym gives
text_emitted (v ∷ w ∷ values) text gives = absurd gives

given_none : (count : ℕ) (given : Bool) → count ≡ 0 → IsGiven count given → given ≡ false
given_none count given none is = subst (λ n. IsGiven n given) none is

given_one : (count : ℕ) (given : Bool) → count ≡ 1 → IsGiven count given → given ≡ true
given_one count given one is = subst (λ n. IsGiven n given) one is

flag_emitted : (option : Flag) (all : List Item) (count : ℕ) (text : Option Text) (emitted given : Bool)
    → Slot (flagged option) (uses_at (flagged option) all) → count ≡ length (uses_at (flagged option) all)
    → text ≡ text_in (flagged option) all (row_without (flagged option)) → EmitsFlag text emitted → IsGiven count given
    → emitted ≡ given
flag_emitted option all count text emitted given (none_here none) counts is emits gives =
    let false_text : text ≡ Some (codes "false") =
    is ∙ ap (λ us. option_map_or (λ v. Some v) (first_of_all (map value_of us)) (Some (codes "false"))) none in
    emits.1 false_text ∙ sym (given_none count given (counts ∙ ap length none) gives)
flag_emitted option all count text emitted given (one_here item one same fine) counts is emits gives =
    let true_text : text ≡ Some (codes "true") =
    is ∙ ap (λ us. option_map_or (λ v. Some v) (first_of_all (map value_of us)) (Some (codes "false"))) one
    ∙ ap (λ v. Some v) (flag_value option item same) in
    emits.0 true_text ∙ sym (given_one count given (counts ∙ ap length one) gives)

pub not_same : (a b : Bool) → not a ≡ not b → a ≡ b
not_same true true e = refl
not_same true false e = cc
not_same false true e = cc
not_same false false e = refl

pub found_is_asked : (found : Found) (words : List Text) (items : List Item) (ending : Ending) (read asked : Asked)
    → Finds found words (items ++ trailing ending) → IsLine items ending asked → IsFound found read → read ≡ asked
found_is_asked found words items ending read asked finds line emits = λ i. record {
  width = columns i;
  rich = flag_is rich read.rich asked.rich emits.rich line.rich i;
  decorate = not_same read.decorate asked.decorate
      (flag_is no_decorate (not read.decorate) (not asked.decorate) emits.decorate line.decorate) i;
  footnotes = flag_is footnotes read.footnotes asked.footnotes emits.footnotes line.footnotes i;
  shared_footnotes = flag_is shared_footnotes read.shared_footnotes asked.shared_footnotes emits.shared_footnotes
      line.shared_footnotes i;
  references = table i;
  max_bytes = most i;
  file = page i;
}
  where
    all : List Item
    all = items ++ trailing ending

    columns : read.width ≡ asked.width
    columns = width_emitted (values_in width items) (one_text found (id_of (valued width))) read.width asked.width
        (text_found found words all finds (valued width) ∙ ap number_text (sym (values_all width items ending)))
        emits.width line.width

    most : read.max_bytes ≡ asked.max_bytes
    most = number_emitted (values_in max_bytes items) (one_text found (id_of (valued max_bytes))) read.max_bytes
        asked.max_bytes
        (text_found found words all finds (valued max_bytes) ∙ ap number_text (sym (values_all max_bytes items ending)))
        emits.max_bytes line.max_bytes

    table : read.references ≡ asked.references
    table = emits.references ∙ option_found found words all finds references
        ∙ ap first_of_all (sym (values_all references items ending))
        ∙ text_emitted (values_in references items) asked.references line.references

    page : read.file ≡ asked.file
    page = emits.file ∙ file_found found words all finds ∙ ap first_of_all (sym (files_all items ending))
        ∙ text_emitted (files_in items ending) asked.file line.file

    flag_is : (option : Flag) (emitted given : Bool) → EmitsFlag (one_text found (id_of (flagged option))) emitted
        → IsGiven (uses_in option items) given → emitted ≡ given
    flag_is option emitted given emit gives =
        flag_emitted option all (uses_in option items) (one_text found (id_of (flagged option))) emitted given
        (slot_at (flagged option) [] all (line_runs items ending asked line))
        (uses_all option items ending) (text_found found words all finds (flagged option)) emit gives
