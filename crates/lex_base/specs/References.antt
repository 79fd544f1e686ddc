-- Named character references as a table of names.
use Rattle.std.specs.Prelude.{◌==◌, ◌&&◌, ◌||◌, if◌then◌else◌, [], ◌∷◌, Bool, Err, List, Ok, Result, codes, length}
use Rattle.std.specs.Prelude.{nat_le, nat_lt, reverse, ℕ}
use Rattle.std.specs.List.{list_all}
use Rattle.std.specs.Ordering.{nat_cmp}
use Rattle.std.specs.Cmp.Lexicographic.{slice_cmp}
use Rattle.std.specs.Coded.{Coded, coded_ℕ, coded_list}
use Rattle.std.specs.FinMap as finite
use Rattle.lex_base.specs.declared.table_error.TableError.{TableError}
use Rattle.lex_base.specs.declared.table_error.TableError.TheVariants.{BadName, BadCodePoints}

-- a name, without its `&`, and the characters that it stands for, as code points
abbrev pub Reference : Type 0
Reference = List ℕ × List ℕ

-- names and their characters
abbrev pub References : Type 0
References = finite.FinMap (slice_cmp nat_cmp) (List ℕ)

-- a table is stored as its entries
abbrev pub references_code : Coded References
references_code = finite.code (coded_list coded_ℕ) (coded_list coded_ℕ)

-- the table of a list of references: where a name stands twice its last value stays
abbrev pub references : List Reference → References
references rs = finite.from_entries (reverse rs)

-- The references of the characters that HTML escapes (WHATWG HTML, 13.3, "escaping a string", and 13.5).
abbrev pub basic_references : List Reference
basic_references =
    (codes "amp;", 38 ∷ []) ∷ (codes "lt;", 60 ∷ []) ∷ (codes "gt;", 62 ∷ []) ∷ (codes "quot;", 34 ∷ [])
    ∷ (codes "nbsp;", 160 ∷ []) ∷ []

abbrev pub basic : References
basic = references basic_references

abbrev pub is_between : ℕ → ℕ → ℕ → Bool
is_between low high c = nat_le low c && nat_le c high

-- an ASCII digit or letter
abbrev pub is_alphanumeric : ℕ → Bool
is_alphanumeric c = is_between 48 57 c || is_between 65 90 c || is_between 97 122 c

-- a text without a semicolon at its end
abbrev pub without_semicolon : List ℕ → List ℕ
without_semicolon [] = []
without_semicolon (c ∷ cs) = if length cs == 0 && c == 59 then [] else c ∷ without_semicolon cs

abbrev pub is_word : List ℕ → Bool
is_word cs = nat_lt 0 (length cs) && list_all is_alphanumeric cs

-- A name: ASCII letters and digits, at least one, with a semicolon only last.
abbrev pub is_name : List ℕ → Bool
is_name cs = is_word (without_semicolon cs)

-- a character other than NUL: no surrogate, and at most U+10FFFF
abbrev pub is_shown : ℕ → Bool
is_shown c = is_between 1 0xD7FF c || is_between 0xE000 0x10FFFF c

-- What a name stands for: one or two characters other than NUL.
abbrev pub is_value : List ℕ → Bool
is_value cs = is_between 1 2 (length cs) && list_all is_shown cs

-- a reference, or what is wrong with it: its name before its value
abbrev pub checked : Reference → Result Reference TableError
checked r = if is_name r.0 then (if is_value r.1 then Ok r else Err (BadCodePoints r.0)) else Err (BadName r.0)

abbrev pub result_then : {A B E : Type 0} → Result A E → (A → Result B E) → Result B E
result_then (Ok a) f = f a
result_then (Err e) f = Err e

-- the references of a list, or its first fault
abbrev pub all_checked : List Reference → Result (List Reference) TableError
all_checked [] = Ok []
all_checked (r ∷ rs) = result_then (checked r) (λ first. result_then (all_checked rs) (λ others. Ok (first ∷ others)))

-- the table of pairs of a name and a value, or the first fault
abbrev pub table_of_pairs : List Reference → Result References TableError
table_of_pairs rs = result_then (all_checked rs) (λ sound. Ok (references sound))
