-- A character reference that goes on is open: some text after it ends it, and the reference then has all of that text.
use Rattle.std.proofs.Common.{◌≡◌, ◌≢◌, ◌&&◌, ◌||◌, [], ◌∷◌, ◌++◌, ◌∙◌, Bool, IsTrue, List, Some, ap, append-nil, arith}
use Rattle.std.proofs.Common.{eqb, false, length, length-append, ltb, not, refl, subst, sym, true, ℕ}
use Rattle.std.proofs.lemmas.Bool.{and_parts, eqb-true, ne_eqb}
use Rattle.std.specs.List.{list_all, list_any}
use Rattle.std.specs.FinMap as finite
use Rattle.lex_base.specs.Lookup.{HasLongerName}
use Rattle.lex_base.specs.References.{References}
use Rattle.token_grammar.specs.Characters.{is_alphanumeric, is_digit}
use Rattle.token_grammar.specs.Items.{Item}
use Rattle.token_grammar.specs.Lexemes.{Lexeme, nothing, reference_lexeme, tagged, emitted}
use Rattle.token_grammar.specs.References.{Found, is_x, named, number_of, numbered, numeric_of, reference}
use Rattle.token_grammar.specs.declared.modes.Mode.{Mode}
use Rattle.token_grammar.proofs.NameLemmas.{longest_name}
use Rattle.token_states.specs.Goings.{IsNamed}
use Rattle.token_states.specs.OpenEnds.{IsOpenEnded, is_steady}
use Rattle.token_states.specs.ReferenceSound.{are_digits, is_reference_held}
use Rattle.token_states.specs.Turns.{with_more}
use Rattle.token_states.specs.declared.place.LexemeState.TheVariants.{CharacterReference}
use Rattle.token_states.specs.declared.place.ReferencePlace.{ReferencePlace}
use Rattle.token_states.specs.declared.place.ReferencePlace.TheVariants.{Decimal, Hexadecimal, HexadecimalStart, Named}
use Rattle.token_states.specs.declared.place.ReferencePlace.TheVariants.{Numeric}
use Rattle.token_states.proofs.ReferenceLexemes.{all_pass, other_code}
use Rattle.token_states.proofs.ReferenceNames.{AreNames, by_name, is_of_name, letters_of, no_sign, there}
use Rattle.token_states.proofs.ReferencePlaces.{decimal_at, hexadecimal_at, one_sign}

-- ---- text that a lexeme has taken

not_empty : (cs : List ℕ) (d : ℕ) (ds : List ℕ) → [] ≡ cs ++ d ∷ ds → ⊥
not_empty cs d ds e = omega (arith, ap length e, length-append cs (d ∷ ds))

-- a lexeme that leaves nothing has no text after it
taken_whole : (items : List Item) (trailing : Mode) (d : ℕ) (ds : List ℕ) (l : Lexeme) →
    emitted items trailing [] ≡ with_more (d ∷ ds) l → ⊥
taken_whole items trailing d ds nothing e = cc
taken_whole items trailing d ds (tagged t rest) e = cc
taken_whole items trailing d ds (emitted others mode rest) e = not_empty rest d ds cc

-- a reference that has taken all of a text
abbrev whole : List ℕ → Bool → Found
whole value closed = record { characters = value; closed = closed; rest = [] }

open_before : (table : References) (foreign : Bool) (mode : Mode) (place : ReferencePlace) (held : List ℕ) (d : ℕ)
    (ds value : List ℕ) (closed : Bool) → IsTrue (is_steady (d ∷ ds)) → reference table (held ++ d ∷ ds)
    ≡ Some (whole value closed)
    → IsOpenEnded table foreign mode (CharacterReference place) held
open_before table foreign mode place held d ds value closed steady found = λ l lexemes.
    taken_whole _ mode d ds l (sym (ap (reference_lexeme mode (held ++ d ∷ ds)) found) ∙ lexemes (d ∷ ds) steady)

-- ---- numbers

number_ended : (base : ℕ) (ds : List ℕ) → are_digits base ds ≡ true → numeric_of base ds (59 ∷ [])
    ≡ Some (whole (numbered (number_of base ds) ∷ []) true)
number_ended base [] h = cc
number_ended base (d ∷ ds) h = rw (ne_eqb (length (d ∷ ds)) 0 (λ e. omega arith)) refl

decimal_open : (table : References) (foreign : Bool) (mode : Mode) (held : List ℕ) →
    IsTrue (is_reference_held Decimal held) → IsOpenEnded table foreign mode (CharacterReference Decimal) held
decimal_open table foreign mode [] h = cc
decimal_open table foreign mode (n ∷ []) h = let wrong = (and_parts (eqb n 35) false h).1 in cc
decimal_open table foreign mode (n ∷ d ∷ ds) h =
    let parts = and_parts (eqb n 35) (are_digits 10 (d ∷ ds)) h in
    let digits = (and_parts (ltb 0 (length (d ∷ ds))) (list_all (is_digit 10) (d ∷ ds)) parts.1).1 in
    subst (λ m. IsOpenEnded table foreign mode (CharacterReference Decimal) (m ∷ d ∷ ds)) (sym (eqb-true n 35 parts.0))
    (open_before table foreign mode Decimal (35 ∷ d ∷ ds) 59 []
    _ true refl (decimal_at table d ds (59 ∷ []) digits refl ∙ number_ended 10 (d ∷ ds) parts.1))

hexadecimal_open : (table : References) (foreign : Bool) (mode : Mode) (held : List ℕ) →
    IsTrue (is_reference_held Hexadecimal held) → IsOpenEnded table foreign mode (CharacterReference Hexadecimal) held
hexadecimal_open table foreign mode [] h = cc
hexadecimal_open table foreign mode (n ∷ []) h = cc
hexadecimal_open table foreign mode (n ∷ x ∷ ds) h =
    let parts = and_parts (eqb n 35 && is_x x) (are_digits 16 ds) h in
    let front = and_parts (eqb n 35) (is_x x) parts.0 in
    let digits = (and_parts (ltb 0 (length ds)) (list_all (is_digit 16) ds) parts.1).1 in
    subst (λ m. IsOpenEnded table foreign mode (CharacterReference Hexadecimal) (m ∷ x ∷ ds))
    (sym (eqb-true n 35 front.0))
    (open_before table foreign mode Hexadecimal (35 ∷ x ∷ ds) 59 []
    _ true refl (hexadecimal_at table x ds (59 ∷ []) front.1 digits refl ∙ number_ended 16 ds parts.1))

start_open : (table : References) (foreign : Bool) (mode : Mode) (held : List ℕ) →
    IsTrue (is_reference_held HexadecimalStart held) →
    IsOpenEnded table foreign mode (CharacterReference HexadecimalStart) held
start_open table foreign mode [] h = cc
start_open table foreign mode (n ∷ []) h = cc
start_open table foreign mode (n ∷ x ∷ y ∷ held) h = cc
start_open table foreign mode (n ∷ x ∷ []) h =
    let parts = and_parts (eqb n 35) (is_x x) h in
    subst (λ m. IsOpenEnded table foreign mode (CharacterReference HexadecimalStart) (m ∷ x ∷ []))
    (sym (eqb-true n 35 parts.0))
    (open_before table foreign mode HexadecimalStart (35 ∷ x ∷ []) 49 (59 ∷ []) _ true refl
    (hexadecimal_at table x (49 ∷ []) (59 ∷ []) parts.1 refl refl))

-- ---- names

of_name_steady : (c : ℕ) → is_of_name c ≡ true → not (eqb c 10 || eqb c 13 || eqb c 0xFEFF) ≡ true
of_name_steady c h =
    rw (
      other_code is_of_name 10 c refl h,
      other_code is_of_name 13 c refl h,
      other_code is_of_name 0xFEFF c refl h,
    ) refl

all_after : (p : ℕ → Bool) (cs ds : List ℕ) → list_all p (cs ++ ds) ≡ true → list_all p ds ≡ true
all_after p [] ds h = h
all_after p (c ∷ cs) ds h = all_after p cs ds (and_parts (p c) (list_all p (cs ++ ds)) h).1

named_whole : (table : References) (name value : List ℕ) → finite.get table name ≡ Some value →
    named table name ≡ Some (whole value (list_any (λ c. eqb c 59) name))
named_whole table name value e = longest_name table name name value (record {
  rest = [];
  begins = sym (append-nil name);
  named = e;
  longest = λ front more is _. omega (arith, ap length is, length-append front more);
})

name_open : (table : References) (foreign : Bool) (mode : Mode) (held : List ℕ) → AreNames table →
    list_all is_alphanumeric held ≡ true → held ≢ [] → HasLongerName table held →
    IsOpenEnded table foreign mode (CharacterReference Named) held
name_open table foreign mode held law letters some longer =
    let d = longer.0 in
    let more = longer.1 in
    let name = held ++ d ∷ more in
    let stands = there _ longer.2 in
    let steady : IsTrue (is_steady (d ∷ more)) =
    all_after (λ c. not (eqb c 10 || eqb c 13 || eqb c 0xFEFF)) held (d ∷ more)
    (all_pass is_of_name _ of_name_steady name (letters_of name (law name stands.0 stands.1).0)) in
    open_before table foreign mode Named held d more stands.0 (list_any (λ c. eqb c 59) name) steady
    (by_name table name (no_sign is_alphanumeric refl held (d ∷ more) letters some) ∙
    named_whole table name stands.0 stands.1)

-- what goes on of a reference is open
pub references_open : (table : References) (foreign : Bool) (mode : Mode) (place : ReferencePlace) (held : List ℕ) →
    AreNames table → IsTrue (is_reference_held place held) → IsNamed table place held →
    IsOpenEnded table foreign mode (CharacterReference place) held
references_open table foreign mode Named [] law h longer =
    open_before table foreign mode Named [] 35 (49 ∷ 59 ∷ []) _ true refl refl
references_open table foreign mode Named (c ∷ cs) law h longer =
    λ l lexemes. longer (λ is. name_open table foreign mode (c ∷ cs) law h (λ e. cc) is l lexemes)
references_open table foreign mode Numeric held law h longer =
    subst (IsOpenEnded table foreign mode (CharacterReference Numeric)) (sym (one_sign held h))
    (open_before table foreign mode Numeric (35 ∷ []) 49 (59 ∷ []) _ true refl refl)
references_open table foreign mode HexadecimalStart held law h longer = start_open table foreign mode held h
references_open table foreign mode Decimal held law h longer = decimal_open table foreign mode held h
references_open table foreign mode Hexadecimal held law h longer = hexadecimal_open table foreign mode held h
