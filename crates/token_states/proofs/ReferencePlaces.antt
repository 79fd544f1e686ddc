-- What a further character does to what is held of a character reference.
use Rattle.std.proofs.Common.{◌≡◌, ◌&&◌, [], ◌∷◌, ◌++◌, ◌≤◌, ◌∙◌, Bool, IsTrue, IsUtf8, List, None, Some, ap}
use Rattle.std.proofs.Common.{append-nil, append_assoc, ap₂, arith, chars, cond, eqb, false, length, length-append, ltb}
use Rattle.std.proofs.Common.{option_map, refl, subst, sym, take, true, ℕ}
use Rattle.std.specs.Prelude.{IfSome}
use Rattle.std.proofs.lemmas.Bool.{and_parts, lt-ltb, eqb-true, cond_both, cond-false, cond-true}
use Rattle.std.specs.List.{list_all}
use Rattle.std.proofs.lemmas.List.{take-append-le, take_all}
use Rattle.std.proofs.lemmas.Str.{chars-append, IsCharBoundary-from_take}
use Rattle.std.specs.Char.{IsScalar, encode_utf8}
use Rattle.std.specs.String.Boundary.{IsSplitPoint}
use Rattle.lex_base.specs.References as lexemes
use Rattle.token_grammar.specs.Characters.{is_digit}
use Rattle.token_grammar.specs.References.{Found, is_x, numbered, number_of, numeric, numeric_of, reference}
use Rattle.token_grammar.specs.Slices.{first_passes, front_while, rest_while}
use Rattle.token_states.specs.Goings.{IsNamed}
use Rattle.token_states.specs.ReferenceSound.{are_digits, is_reference_held}
use Rattle.token_states.specs.ReferenceTurns.{ReferenceTurns, digit_turn, goes, hexadecimal_turn, number_turn}
use Rattle.token_grammar.specs.declared.modes.Mode.{Mode}
use Rattle.token_grammar.proofs.MarkLemmas.{chars-encode}
use Rattle.token_states.specs.Turns.{Turns}
use Rattle.token_states.specs.declared.place.LexemeState.TheVariants.{CharacterReference}
use Rattle.token_states.specs.declared.place.ReferencePlace.{ReferencePlace}
use Rattle.token_states.specs.declared.place.ReferencePlace.TheVariants.{Decimal, Hexadecimal, HexadecimalStart}
use Rattle.token_states.specs.declared.place.ReferencePlace.TheVariants.{Numeric}
use Rattle.token_states.specs.declared.turn.Turn.{Turn}
use Rattle.token_states.specs.declared.turn.Turn.TheVariants.{Goes, Ends, EndsBefore}
use Rattle.token_states.proofs.ReferenceLexemes.{IsSettled, all_append, all_pass, both_true, class_plain, is_plain}
use Rattle.token_states.proofs.ReferenceLexemes.{other_code, over, settled_none, taken, with_rest}

-- ---- what is held goes on, or is over

pub goes_on : (table : lexemes.References) (place next : ReferencePlace) (held : List ℕ) (c : ℕ) →
    IsTrue (is_reference_held next (held ++ c ∷ [])) → IsNamed table next (held ++ c ∷ []) →
    ReferenceTurns table place held c (goes next)
goes_on table place next held c sound longer =
    λ foreign mode. (taken table foreign mode place next held c, (sound, longer))

pub ends_with : (table : lexemes.References) (place : ReferencePlace) (held : List ℕ) (c : ℕ) →
    IsSettled table (held ++ c ∷ []) [] → ReferenceTurns table place held c (Ends (CharacterReference place))
ends_with table place held c h =
    λ foreign mode. (taken table foreign mode place place held c, over table foreign mode place (held ++ c ∷ []) [] h)

pub ends_before : (table : lexemes.References) (place : ReferencePlace) (held : List ℕ) (c : ℕ) →
    IsSettled table held (c ∷ []) → ReferenceTurns table place held c EndsBefore
ends_before table place held c h = λ foreign mode. (refl, over table foreign mode place held (c ∷ []) h)

-- ---- numbers

digits_plain : (c : ℕ) → is_digit 16 c ≡ true → is_plain c ≡ true
digits_plain c h = class_plain (is_digit 16) refl refl refl refl c h

decimals_plain : (c : ℕ) → is_digit 10 c ≡ true → is_plain c ≡ true
decimals_plain c h = class_plain (is_digit 10) refl refl refl refl c h

x_plain : (c : ℕ) → is_x c ≡ true → is_plain c ≡ true
x_plain c h = class_plain is_x refl refl refl refl c h

front_digits : (p : ℕ → Bool) (ds rest : List ℕ) → list_all p ds ≡ true → first_passes p rest ≡ false →
    front_while p (ds ++ rest) ≡ ds
front_digits p [] [] h e = refl
front_digits p [] (c ∷ rest) h e = rw e refl
front_digits p (d ∷ ds) rest h e =
    rw (and_parts (p d) (list_all p ds) h).0
    (ap (λ l. d ∷ l) (front_digits p ds rest (and_parts (p d) (list_all p ds) h).1 e))

rest_digits : (p : ℕ → Bool) (ds rest : List ℕ) → list_all p ds ≡ true → first_passes p rest ≡ false →
    rest_while p (ds ++ rest) ≡ rest
rest_digits p [] [] h e = refl
rest_digits p [] (c ∷ rest) h e = rw e refl
rest_digits p (d ∷ ds) rest h e =
    rw (and_parts (p d) (list_all p ds) h).0 (rest_digits p ds rest (and_parts (p d) (list_all p ds) h).1 e)

numeric_at : (base : ℕ) (ds rest : List ℕ) → list_all (is_digit base) ds ≡ true →
    first_passes (is_digit base) rest ≡ false → numeric base (ds ++ rest) ≡ numeric_of base ds rest
numeric_at base ds rest h e =
    ap₂ (numeric_of base) (front_digits (is_digit base) ds rest h e) (rest_digits (is_digit base) ds rest h e)

number_found : (b : Bool) (base : ℕ) (ds more : List ℕ) (closed : Bool) (rest left : List ℕ) → left ≡ rest ++ more
    → cond b None (Some (let f : Found = record { characters = numbered (number_of base ds) ∷ []; closed = closed; rest = left } in f))
    ≡ option_map (with_rest more) (cond b None (Some (let f : Found = record { characters = numbered (number_of base ds) ∷ []; closed = closed; rest = rest } in f)))
number_found true base ds more closed rest left e = refl
number_found false base ds more closed rest left e = ap (λ l. Some (let f : Found = record { characters = numbered (number_of base ds) ∷ []; closed = closed; rest = l } in f)) e

closed_on : (base : ℕ) (ds more : List ℕ) → numeric_of base ds (59 ∷ more)
    ≡ option_map (with_rest more) (numeric_of base ds (59 ∷ []))
closed_on base ds more = number_found (eqb (length ds) 0) base ds more true [] more refl

open_on : (base : ℕ) (ds : List ℕ) (c : ℕ) (more : List ℕ) → eqb c 59 ≡ false → numeric_of base ds (c ∷ more)
    ≡ option_map (with_rest (c ∷ more)) (numeric_of base ds [])
open_on base ds c more e = rw e (number_found (eqb (length ds) 0) base ds (c ∷ more) false [] (c ∷ more) refl)

number_left : (b : Bool) (base : ℕ) (ds : List ℕ) (closed : Bool)
    → IfSome (cond b None (Some (let f : Found = record { characters = numbered (number_of base ds) ∷ []; closed = closed; rest = [] } in f))) (λ (found : Found). list_all is_plain found.rest ≡ true)
number_left true base ds closed = tt
number_left false base ds closed = refl

-- what is held is a number's beginning and its digits
module _ (table : lexemes.References) (base : ℕ) (held ds : List ℕ) (at : (rest : List ℕ) → first_passes (is_digit base) rest ≡ false → reference table (held ++ rest) ≡ numeric_of base ds rest) (plain : list_all is_plain held ≡ true) where
  alone : reference table held ≡ numeric_of base ds []
  alone = sym (ap (reference table) (append-nil held)) ∙ at [] refl

  pub number_before : (c : ℕ) → is_digit base c ≡ false → eqb c 59 ≡ false → IsSettled table held (c ∷ [])
  number_before c other open_end = record {
    same = λ rest. at (c ∷ rest) other ∙ open_on base ds c rest open_end ∙ ap (option_map (with_rest (c ∷ rest)))
        (sym alone);
    plain = plain;
    left = subst (λ o. IfSome o (λ (found : Found). list_all is_plain found.rest ≡ true)) (sym alone)
        (number_left (eqb (length ds) 0) base ds false);
  }

  pub number_closed : is_digit base 59 ≡ false → IsSettled table (held ++ 59 ∷ []) []
  number_closed other = record {
    same = λ rest. ap (reference table) (append_assoc held (59 ∷ []) rest) ∙ at (59 ∷ rest) other ∙
        closed_on base ds rest ∙ ap (option_map (with_rest rest)) (sym (at (59 ∷ []) other));
    plain = all_append is_plain held (59 ∷ []) plain refl;
    left = subst (λ o. IfSome o (λ (found : Found). list_all is_plain found.rest ≡ true)) (sym (at (59 ∷ []) other))
        (number_left (eqb (length ds) 0) base ds true);
  }

  digits_end : (place : ReferencePlace) (c : ℕ) → is_digit base 59 ≡ false → is_digit base c ≡ false →
      ReferenceTurns table place held c (cond (eqb c 59) (Ends (CharacterReference place)) EndsBefore)
  digits_end place c other none =
      cond_both (eqb c 59) (Ends (CharacterReference place)) EndsBefore (ReferenceTurns table place held c)
      (λ is. subst (λ d. ReferenceTurns table place held d (Ends (CharacterReference place))) (sym (eqb-true c 59 is))
      (ends_with table place held 59 (number_closed other)))
      (λ is. ends_before table place held c (number_before c none is))

  pub digit_turns : (place : ReferencePlace) (c : ℕ) → is_digit base 59 ≡ false →
      (is_digit base c ≡ true → IsTrue (is_reference_held place (held ++ c ∷ []))) →
      IsNamed table place (held ++ c ∷ []) → ReferenceTurns table place held c (digit_turn place base c)
  digit_turns place c other more longer =
      cond_both (is_digit base c) (goes place) (cond (eqb c 59) (Ends (CharacterReference place)) EndsBefore)
      (ReferenceTurns table place held c)
      (λ is. goes_on table place place held c (more is) longer)
      (λ is. digits_end place c other is)

-- after `#`, or after `#x`
pub decimal_at : (table : lexemes.References) (d : ℕ) (ds rest : List ℕ) → list_all (is_digit 10) (d ∷ ds) ≡ true →
    first_passes (is_digit 10) rest ≡ false → reference table (35 ∷ d ∷ (ds ++ rest)) ≡ numeric_of 10 (d ∷ ds) rest
decimal_at table d ds rest h e =
    let digit = (and_parts (is_digit 10 d) (list_all (is_digit 10) ds) h).0 in
    rw (other_code (is_digit 10) 120 d refl digit, other_code (is_digit 10) 88 d refl digit)
    (numeric_at 10 (d ∷ ds) rest h e)

pub hexadecimal_at : (table : lexemes.References) (x : ℕ) (ds rest : List ℕ) → is_x x ≡ true →
    list_all (is_digit 16) ds ≡ true → first_passes (is_digit 16) rest ≡ false →
    reference table (35 ∷ x ∷ (ds ++ rest)) ≡ numeric_of 16 ds rest
hexadecimal_at table x ds rest e h f =
    cond-true (is_x x) (numeric 16 (ds ++ rest)) (numeric 10 (x ∷ (ds ++ rest))) e ∙ numeric_at 16 ds rest h f

more_digits : (base : ℕ) (ds : List ℕ) (c : ℕ) → are_digits base ds ≡ true → is_digit base c ≡ true →
    are_digits base (ds ++ c ∷ []) ≡ true
more_digits base ds c h e =
    both_true (ltb 0 (length (ds ++ c ∷ []))) _ (lt-ltb 0 (length (ds ++ c ∷ []))
    (omega (arith, length-append ds (c ∷ []))))
    (all_append (is_digit base) ds (c ∷ []) (and_parts (ltb 0 (length ds)) (list_all (is_digit base) ds) h).1
    (both_true (is_digit base c) true e refl))

pub decimal_turns : (table : lexemes.References) (held : List ℕ) (c : ℕ) → IsTrue (is_reference_held Decimal held) →
    ReferenceTurns table Decimal held c (digit_turn Decimal 10 c)
decimal_turns table [] c h = cc
decimal_turns table (n ∷ []) c h = let wrong = (and_parts (eqb n 35) false h).1 in cc
decimal_turns table (n ∷ d ∷ ds) c h =
    let parts = and_parts (eqb n 35) (are_digits 10 (d ∷ ds)) h in
    let digits = (and_parts (ltb 0 (length (d ∷ ds))) (list_all (is_digit 10) (d ∷ ds)) parts.1).1 in
    subst (λ m. ReferenceTurns table Decimal (m ∷ d ∷ ds) c (digit_turn Decimal 10 c)) (sym (eqb-true n 35 parts.0))
    (digit_turns table 10 (35 ∷ d ∷ ds) (d ∷ ds) (λ rest e. decimal_at table d ds rest digits e)
    (all_pass (is_digit 10) is_plain decimals_plain (d ∷ ds) digits)
    Decimal c refl (λ e. more_digits 10 (d ∷ ds) c parts.1 e) tt)

pub hexadecimal_turns : (table : lexemes.References) (held : List ℕ) (c : ℕ) →
    IsTrue (is_reference_held Hexadecimal held) → ReferenceTurns table Hexadecimal held c (digit_turn Hexadecimal 16 c)
hexadecimal_turns table [] c h = cc
hexadecimal_turns table (n ∷ []) c h = cc
hexadecimal_turns table (n ∷ x ∷ ds) c h =
    let parts = and_parts (eqb n 35 && is_x x) (are_digits 16 ds) h in
    let front = and_parts (eqb n 35) (is_x x) parts.0 in
    let digits = (and_parts (ltb 0 (length ds)) (list_all (is_digit 16) ds) parts.1).1 in
    subst (λ m. ReferenceTurns table Hexadecimal (m ∷ x ∷ ds) c (digit_turn Hexadecimal 16 c))
    (sym (eqb-true n 35 front.0))
    (digit_turns table 16 (35 ∷ x ∷ ds) ds (λ rest e. hexadecimal_at table x ds rest front.1 digits e)
    (both_true (is_plain x) _ (x_plain x front.1) (all_pass (is_digit 16) is_plain digits_plain ds digits))
    Hexadecimal c refl (λ e. both_true (is_x x) _ front.1 (more_digits 16 ds c parts.1 e)) tt)

pub one_sign : (held : List ℕ) → IsTrue (is_reference_held Numeric held) → held ≡ 35 ∷ []
one_sign [] h = cc
one_sign (n ∷ []) h = ap (λ m. m ∷ []) (eqb-true n 35 (and_parts (eqb n 35) true h).0)
one_sign (n ∷ m ∷ held) h = let wrong = (and_parts (eqb (length (n ∷ m ∷ held)) 1) _ h).0 in absurd (let no = eqb-true (length (n ∷ m ∷ held)) 1 wrong in omega arith)

no_number : (base : ℕ) (c : ℕ) (rest : List ℕ) → is_digit base c ≡ false → numeric base (c ∷ rest) ≡ None
no_number base c rest e = rw e refl

pub number_turns : (table : lexemes.References) (held : List ℕ) (c : ℕ) → IsTrue (is_reference_held Numeric held) →
    ReferenceTurns table Numeric held c (number_turn c)
number_turns table held c h =
    subst (λ l. ReferenceTurns table Numeric l c (number_turn c)) (sym (one_sign held h))
    (cond_both (is_x c) (goes HexadecimalStart) (cond (is_digit 10 c) (goes Decimal) EndsBefore)
    (ReferenceTurns table Numeric (35 ∷ []) c)
    (λ x. goes_on table Numeric HexadecimalStart (35 ∷ []) c x tt)
    (λ x. cond_both (is_digit 10 c) (goes Decimal) EndsBefore (ReferenceTurns table Numeric (35 ∷ []) c)
    (λ e. goes_on table Numeric Decimal (35 ∷ []) c (both_true (is_digit 10 c) true e refl) tt)
    (λ e. ends_before table Numeric (35 ∷ []) c
    (settled_none table (35 ∷ []) c (λ rest. cond-false (is_x c) (numeric 16 rest) (numeric 10 (c ∷ rest)) x ∙
    no_number 10 c rest e) refl refl))))

pub start_turns : (table : lexemes.References) (held : List ℕ) (c : ℕ) →
    IsTrue (is_reference_held HexadecimalStart held) → ReferenceTurns table HexadecimalStart held c (hexadecimal_turn c)
start_turns table [] c h = cc
start_turns table (n ∷ []) c h = cc
start_turns table (n ∷ x ∷ y ∷ held) c h = cc
start_turns table (n ∷ x ∷ []) c h =
    let parts = and_parts (eqb n 35) (is_x x) h in
    subst (λ m. ReferenceTurns table HexadecimalStart (m ∷ x ∷ []) c (hexadecimal_turn c)) (sym (eqb-true n 35 parts.0))
    (cond_both (is_digit 16 c) (goes Hexadecimal) EndsBefore (ReferenceTurns table HexadecimalStart (35 ∷ x ∷ []) c)
    (λ e. goes_on table HexadecimalStart Hexadecimal (35 ∷ x ∷ []) c
    (both_true (is_x x) _ parts.1 (both_true (is_digit 16 c) true e refl)) tt)
    (λ e. ends_before table HexadecimalStart (35 ∷ x ∷ []) c
    (settled_none table (35 ∷ x ∷ []) c (λ rest. hexadecimal_at table x [] (c ∷ rest) parts.1 refl e)
    (hexadecimal_at table x [] [] parts.1 refl refl) (both_true (is_plain x) true (x_plain x parts.1) refl))))

-- ---- the text that is held

pub held_with : (old new : List ℕ) (c : ℕ) → IsUtf8 old → IsScalar c → new ≡ old ++ encode_utf8 c →
    chars new ≡ chars old ++ c ∷ []
held_with old new c u scalar e =
    ap chars e ∙ chars-append old (encode_utf8 c) u ∙ ap (λ l. chars old ++ l) (chars-encode c scalar)

front_held : (old new more : List ℕ) (n : ℕ) → n ≡ length old → new ≡ old ++ more → take n new ≡ old
front_held old new more n size e =
    ap (take n) e ∙ take-append-le n old more (omega arith) ∙ take_all n old (omega arith)

pub before_last : (old new more : List ℕ) (n : ℕ) → IsUtf8 old → IsUtf8 new → n ≡ length old → new ≡ old ++ more →
    IsSplitPoint new n
before_last old new more n u v size e =
    let le : n ≤ length new = omega (arith, ap length e, length-append old more) in
    let edge = IsCharBoundary-from_take new n v le (subst IsUtf8 (sym (front_held old new more n size e)) u) in
    (edge.0, λ _. edge.1)

pub turns_at : (table : lexemes.References) (place p : ReferencePlace) (held : List ℕ) (c : ℕ) (turn t : Turn) →
    place ≡ p → turn ≡ t → (IsTrue (is_reference_held p held) → ReferenceTurns table p held c t) →
    IsTrue (is_reference_held place held)
    → ReferenceTurns table place held c turn
turns_at table place p held c turn t e f turns h =
    subst (λ q. ReferenceTurns table q held c turn) (sym e)
    (subst (ReferenceTurns table p held c) (sym f) (turns (subst (λ q. IsTrue (is_reference_held q held)) e h)))

abbrev TurnsTo : lexemes.References → ReferencePlace → List ℕ → ℕ → Turn → List ℕ → Type 0
TurnsTo table place held c turn now = (foreign : Bool) (mode : Mode) →
    Turns table foreign mode (CharacterReference place) held c turn now

pub turns_held : (table : lexemes.References) (place : ReferencePlace) (held now : List ℕ) (c : ℕ) (turn : Turn) →
    ReferenceTurns table place held c turn → (turn ≡ EndsBefore → ⊥) → now ≡ held ++ c ∷ [] →
    TurnsTo table place held c turn now
turns_held table place held now c (Goes p) h other e = subst (TurnsTo table place held c (Goes p)) (sym e) h
turns_held table place held now c (Ends p) h other e = subst (TurnsTo table place held c (Ends p)) (sym e) h
turns_held table place held now c EndsBefore h other e = absurd (other refl)

pub turns_before : (table : lexemes.References) (place : ReferencePlace) (old new more now : List ℕ) (c n : ℕ)
    (turn : Turn) → ReferenceTurns table place (chars old) c turn → turn ≡ EndsBefore → n ≡ length old →
    new ≡ old ++ more → now ≡ take n new
    → TurnsTo table place (chars old) c turn (chars now)
turns_before table place old new more now c n (Goes p) h is size e cut = cc
turns_before table place old new more now c n (Ends p) h is size e cut = cc
turns_before table place old new more now c n EndsBefore h is size e cut =
    subst (TurnsTo table place (chars old) c EndsBefore) (sym (ap chars (cut ∙ front_held old new more n size e))) h
