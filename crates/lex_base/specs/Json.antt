-- The table of references that a JSON text gives, in the form in which the standard publishes it (WHATWG HTML, 13.5):
-- an object whose keys are `&` and a name, and whose values are objects with `codepoints`, an array of whole numbers.
use Rattle.std.specs.Prelude.{◌==◌, ◌&&◌, if◌then◌else◌, [], ◌∷◌, Err, List, None, Ok, Option, Result, Some, chars}
use Rattle.std.specs.Prelude.{codes, option_and_then, option_map, ℕ}
use Rattle.serde_json.specs.Data.{Data, Items, no_items, item, Members, no_members, member}
use Rattle.serde_json.specs.Find.{get, as_array, as_object, as_number, as_u64}
use Rattle.serde_json.specs.Read.{read}
use Rattle.lex_base.specs.declared.table_error.TableError.{TableError}
use Rattle.lex_base.specs.declared.table_error.TableError.TheVariants.{BadCodePoints, BadName, NotAnObject, NotJson}
use Rattle.lex_base.specs.References.{Reference, References, references, is_name, is_value, result_then}

-- the whole numbers of an array, where it has nothing else
abbrev pub whole_numbers : Items → Option (List ℕ)
whole_numbers no_items = Some []
whole_numbers (item d ds) =
    option_and_then (λ n. option_map (λ ns. n ∷ ns) (whole_numbers ds)) (option_and_then as_u64 (as_number d))

abbrev pub value_if : List ℕ → Option (List ℕ)
value_if cs = if is_value cs then Some cs else None

-- the characters that an object names in `codepoints`
abbrev pub value_in : Data → Option (List ℕ)
value_in d =
    option_and_then value_if (option_and_then whole_numbers (option_and_then as_array (get (codes "codepoints") d)))

-- the name in a key
abbrev pub name_in : List ℕ → Option (List ℕ)
name_in [] = None
name_in (c ∷ cs) = if c == 38 && is_name cs then Some cs else None

abbrev pub found_or : {A B E : Type 0} → Option A → E → (A → Result B E) → Result B E
found_or None e f = Err e
found_or (Some a) e f = f a

-- a member of the object as a reference, or what is wrong with it: its key before its value
abbrev pub reference_in : List ℕ → Data → Result Reference TableError
reference_in key d =
    found_or (name_in key) (BadName key) (λ name. found_or (value_in d) (BadCodePoints key) (λ value. Ok (name, value)))

-- the members, which stand in the byte order of their keys, or the first fault
abbrev pub references_in : Members → Result (List Reference) TableError
references_in no_members = Ok []
references_in (member key d ms) =
    result_then (reference_in (chars key) d) (λ first. result_then (references_in ms) (λ others. Ok (first ∷ others)))

-- the table of a JSON text, or its first fault
abbrev pub table_of_json : List ℕ → Result References TableError
table_of_json text =
    found_or (read text) NotJson
    (λ d. found_or (as_object d) NotAnObject (λ ms. result_then (references_in ms) (λ sound. Ok (references sound))))
