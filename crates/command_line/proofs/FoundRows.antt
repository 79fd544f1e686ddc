-- What clap makes of all words: the faults of its walk, and the rows of its walk with the flags' defaults after them.
use Rattle.std.proofs.Common.{◌≡◌, ◌∙◌, ◌++◌, ◌∷◌, ◌||◌, [], Bool, List, None, Option, Some, ap, append-nil, codes}
use Rattle.std.proofs.Common.{cond, false, flat_map, refl, sym, true}
use Rattle.std.specs.Prelude.{fold, if◌then◌else◌, is_some}
use Rattle.std.specs.List.{find}
use Rattle.std.specs.Str.{bytes_eq}
use Rattle.std.proofs.lemmas.Slice.Eq.{bytes_eq-Decides}
use Rattle.clap.specs.Walk.{Row, Rule, Text, default_rows, finished, has_row, is_empty, more_values, nothing_held}
use Rattle.clap.specs.Walk.{reading_by, settled, with_default}
use Rattle.clap.specs.Values.{reading_of}
use Rattle.clap.specs.Kinds.{or_else}
use Rattle.clap.specs.Faults.{check_fault, defaults_fault, fault_of, given_default_fault, level_fault, settle_fault}
use Rattle.clap.specs.Faults.{walk_fault}
use Rattle.clap.specs.Simple.{built, matches_of}
use Rattle.clap.specs.declared.builder.value_parser.ValueParser.TheVariants as vp
use Rattle.clap.specs.declared.parser.matches.ValueSource.TheVariants.{DefaultValue}
use Rattle.clap.proofs.FaultLemmas.{leaf_fault}
use Rattle.command_line.specs.CommandRules.{program}
use Rattle.command_line.specs.CommandWords.{footnotes, max_bytes, no_decorate, references, rich, shared_footnotes}
use Rattle.command_line.specs.CommandWords.{width}
use Rattle.command_line.proofs.FaultKinds.{or_else_none}
use Rattle.command_line.proofs.LineWalks.{end_of, fault_over, rows_over, stands}
use Rattle.command_line.proofs.OptionNames.{Name, filed, flagged, id_of, no_override, shape, valued}
use Rattle.command_line.proofs.RowLemmas.{fresh_row}

-- ---- faults

-- the defaults of all arguments pass
abbrev DefaultsPass : List Rule → Type 0
DefaultsPass [] = Unit {0}
DefaultsPass (a ∷ rest) = ((if is_empty a.defaults then [] else given_default_fault a a.defaults) ≡ [])
    × DefaultsPass rest

no_default_fault : (rules : List Rule) (rows : List Row) → DefaultsPass rules → defaults_fault rows rules ≡ []
unfolding defaults_fault
no_default_fault [] rows pass = refl
no_default_fault (a ∷ rest) rows pass =
    ap (λ k. or_else k (defaults_fault (with_default rows a) rest)) (one (has_row a.id rows))
    ∙ no_default_fault rest (with_default rows a) pass.1
  where
    one : (b : Bool) → (if b || is_empty a.defaults then [] else given_default_fault a a.defaults) ≡ []
    one true = refl
    one false = pass.0

program_defaults : DefaultsPass shape.rules
unfolding shape
program_defaults = (refl, (refl, (refl, (refl, (refl, (refl, (refl, (refl, (refl, tt)))))))))

program_checks : (rows : List Row) → check_fault shape rows false ≡ []
unfolding shape
program_checks rows = refl

level_is : (words : List Text) → level_fault shape [] nothing_held words false [] ≡ fault_over (stands [] None) words
level_is words =
    let end = (end_of (stands [] None) words).held in
    ap (λ b. or_else (walk_fault shape [] (stands [] None) words)
    (or_else (settle_fault shape.rules b end)
    (or_else (defaults_fault (settled shape.rules end).rows shape.rules)
    (check_fault shape (finished shape.rules end) false)))) no_override
    ∙ ap (λ k. or_else (walk_fault shape [] (stands [] None) words)
    (or_else (settle_fault shape.rules false end) (or_else k (check_fault shape (finished shape.rules end) false))))
    (no_default_fault shape.rules (rows_over (stands [] None) words) program_defaults)
    ∙ ap (λ k. or_else (walk_fault shape [] (stands [] None) words) (or_else (settle_fault shape.rules false end) k))
    (program_checks (finished shape.rules end))
    ∙ ap (or_else (walk_fault shape [] (stands [] None) words)) (or_else_none (settle_fault shape.rules false end))

pub all_faults : (words : List Text) → fault_of program words ≡ fault_over (stands [] None) words
unfolding shape
all_faults words = leaf_fault (built program) nothing_held words refl ∙ level_is words

-- ---- rows

pub all_rows : (words : List Text) → matches_of program words ≡ fold with_default (rows_over (stands [] None) words)
    shape.rules
unfolding shape
all_rows words = refl

abbrev pub row_at : Text → List Row → Option Row
row_at id rows = find (λ r. bytes_eq r.id id) rows

abbrev pub first_some : {A : Type 0} → Option A → Option A → Option A
first_some None other = other
first_some (Some x) other = Some x

first_some_assoc : {A : Type 0} (a b c : Option A) → first_some (first_some a b) c ≡ first_some a (first_some b c)
first_some_assoc None b c = refl
first_some_assoc (Some x) b c = refl

first_some_none : {A : Type 0} (a : Option A) → first_some a None ≡ a
first_some_none None = refl
first_some_none (Some x) = refl

row_at-append : (id : Text) (xs ys : List Row) → row_at id (xs ++ ys) ≡ first_some (row_at id xs) (row_at id ys)
row_at-append id [] ys = refl
row_at-append id (x ∷ xs) ys = go (bytes_eq x.id id) (row_at-append id xs ys)
  where
    go : (b : Bool) → row_at id (xs ++ ys) ≡ first_some (row_at id xs) (row_at id ys)
        → cond b (Some x) (row_at id (xs ++ ys)) ≡ first_some (cond b (Some x) (row_at id xs)) (row_at id ys)
    go true e = refl
    go false e = e

has_row_is : (id : Text) (rows : List Row) → has_row id rows ≡ is_some (row_at id rows)
has_row_is id [] = refl
has_row_is id (r ∷ rs) = go (bytes_eq r.id id) (has_row_is id rs)
  where
    go : (b : Bool) → has_row id rs ≡ is_some (row_at id rs) → (b || has_row id rs)
        ≡ is_some (cond b (Some r) (row_at id rs))
    go true e = refl
    go false e = e

-- the row of an argument's default, if it has one
abbrev default_row : Rule → List Row
default_row a = default_rows a.id (reading_by a) a.defaults []

default_joins : (rows : List Row) (a : Rule) (values : List Text) → has_row a.id rows ≡ false
    → default_rows a.id (reading_by a) values rows ≡ rows ++ default_rows a.id (reading_by a) values []
default_joins rows a [] fresh = sym (append-nil rows)
default_joins rows a (v ∷ vs) fresh = fresh_row a.id (more_values DefaultValue (v ∷ vs)) _ rows fresh

other_default : (id : Text) (a : Rule) (values : List Text) → bytes_eq a.id id ≡ false
    → row_at id (default_rows a.id (reading_by a) values []) ≡ None
other_default id a [] other = refl
other_default id a (v ∷ vs) other = rw other

default_at : (id : Text) (rows : List Row) (a : Rule) → row_at id (with_default rows a)
    ≡ first_some (row_at id rows) (row_at id (default_row a))
default_at id rows a = go (has_row a.id rows) refl
  where
    none_left : has_row a.id rows ≡ true → row_at id rows ≡ None → (b : Bool) → bytes_eq a.id id ≡ b
        → row_at id (default_row a) ≡ None
    none_left has none true same =
        let is : a.id ≡ id = (bytes_eq-Decides a.id id).0 same in
        let bad : true ≡ false = sym has ∙ ap (λ i. has_row i rows) is ∙ has_row_is id rows
        ∙ ap (λ o. is_some o) none in
        cc
    none_left has none false other = other_default id a a.defaults other

    kept : has_row a.id rows ≡ true → (o : Option Row) → row_at id rows ≡ o
        → row_at id rows ≡ first_some (row_at id rows) (row_at id (default_row a))
    kept has None is = is ∙ sym (none_left has is (bytes_eq a.id id) refl)
        ∙ ap (λ o. first_some o (row_at id (default_row a))) (sym is)
    kept has (Some r) is = is ∙ ap (λ o. first_some o (row_at id (default_row a))) (sym is)

    go : (b : Bool) → has_row a.id rows ≡ b → row_at id (with_default rows a)
        ≡ first_some (row_at id rows) (row_at id (default_row a))
    go true has = rw has (kept has (row_at id rows) refl)
    go false fresh = rw fresh (ap (row_at id) (default_joins rows a a.defaults fresh)
        ∙ row_at-append id rows (default_row a))

defaults_at : (id : Text) (rules : List Rule) (rows : List Row) → row_at id (fold with_default rows rules)
    ≡ first_some (row_at id rows) (row_at id (flat_map default_row rules))
defaults_at id [] rows = sym (first_some_none (row_at id rows))
defaults_at id (a ∷ rest) rows =
    defaults_at id rest (with_default rows a) ∙ ap (λ o. first_some o (row_at id (flat_map default_row rest)))
    (default_at id rows a)
    ∙ first_some_assoc (row_at id rows) (row_at id (default_row a)) (row_at id (flat_map default_row rest))
    ∙ ap (first_some (row_at id rows)) (sym (row_at-append id (default_row a) (flat_map default_row rest)))

abbrev pub row_without : Name → Option Row
row_without (valued option) = None
row_without (flagged option) = Some (record {
  id = id_of (flagged option);
  values = codes "false" ∷ [];
  count = None;
  source = Some DefaultValue;
  reading =
      reading_of vp.Bool;
})
row_without filed = None

program_default : (name : Name) → row_at (id_of name) (flat_map default_row shape.rules) ≡ row_without name
unfolding shape
program_default (valued width) = refl
program_default (valued references) = refl
program_default (valued max_bytes) = refl
program_default (flagged rich) = refl
program_default (flagged no_decorate) = refl
program_default (flagged footnotes) = refl
program_default (flagged shared_footnotes) = refl
program_default filed = refl

-- what is found of a name: its row, or that of its default
pub found_at : (name : Name) (rows : List Row) → row_at (id_of name) (fold with_default rows shape.rules)
    ≡ first_some (row_at (id_of name) rows) (row_without name)
found_at name rows = defaults_at (id_of name) shape.rules rows ∙ ap (first_some (row_at (id_of name) rows))
    (program_default name)
