-- References in an attribute's value, and the value that is made of them.
use Rattle.std.proofs.Common.{◌≡◌, ◌≤◌, ◌&&◌, ◌||◌, [], ◌∷◌, ◌++◌, ◌∙◌, Bool, IfSome, List, None, Option, Some, String}
use Rattle.std.proofs.Common.{ap, append-nil, append_assoc, arith, cond, drop, encode_utf8, eqb, false, length, not}
use Rattle.std.proofs.Common.{option_and_then, option_map, refl, string_bytes, subst, suc, sym, true, zero, ℕ}
use Rattle.std.proofs.lemmas.Bool.{cond-true, cond-false, cond_both}
use Rattle.std.proofs.lemmas.Option.{none-some, cond_some}
use Rattle.std.proofs.lemmas.Str.{chars-append, IsUtf8-string_bytes}
use Rattle.std.specs.Char.{IsScalar}
use Rattle.std.specs.Option.{option_or}
use Rattle.std.specs.FinMap as finite
use Rattle.lex_base.specs.References.{References}
use Rattle.token_grammar.proofs.MarkLemmas.{chars-encode}
use Rattle.token_grammar.specs.Characters.{is_alphanumeric, is_digit, shown}
use Rattle.token_grammar.specs.References.{Found, after_number_sign, named, named_from, numeric, reference}
use Rattle.token_grammar.specs.References.{reference_in_value, value_from, value_of}
use Rattle.token_grammar.specs.Slices.{after, begins, first_passes, front_while, rest_while}
use Rattle.std.specs.Str.{chars}
use Rattle.token_grammar.proofs.NameLemmas.{named_as}

-- ---- the number sign

chars-sign : chars (35 ∷ []) ≡ 35 ∷ []
unfolding chars
chars-sign = refl

-- the text begins with the sign, and `rest` follows it
sign_stands : (cs rest : List ℕ) → Some rest ≡ after (chars (35 ∷ [])) cs → (begins (35 ∷ []) cs ≡ true)
    × (drop 1 cs ≡ rest)
sign_stands cs rest e = cond_some (begins (35 ∷ []) cs) (drop 1 cs) rest (sym (e ∙ ap (λ m. after m cs) chars-sign))

none_by : {A : Type 0} (b : Bool) (x : A) → None ≡ cond b (Some x) None → b ≡ false
none_by true x e = absurd (none-some x e)
none_by false x e = refl

no_sign : (cs : List ℕ) → None ≡ after (chars (35 ∷ [])) cs → begins (35 ∷ []) cs ≡ false
no_sign cs e = none_by (begins (35 ∷ []) cs) (drop 1 cs) (e ∙ ap (λ m. after m cs) chars-sign)

pub sign_in_text : (table : References) (cs rest : List ℕ) → Some rest ≡ after (chars (35 ∷ [])) cs →
    after_number_sign rest ≡ reference table cs
sign_in_text table cs rest e =
    let stands = sign_stands cs rest e in
    ap after_number_sign (sym stands.1) ∙ sym (cond-true (begins (35 ∷ []) cs) _ _ stands.0)

pub sign_in_value : (table : References) (cs rest : List ℕ) → Some rest ≡ after (chars (35 ∷ [])) cs →
    after_number_sign rest ≡ reference_in_value table cs
sign_in_value table cs rest e =
    let stands = sign_stands cs rest e in
    ap after_number_sign (sym stands.1) ∙ sym (cond-true (begins (35 ∷ []) cs) _ _ stands.0)

pub name_in_text : (table : References) (cs : List ℕ) → None ≡ after (chars (35 ∷ [])) cs →
    named table cs ≡ reference table cs
name_in_text table cs e = sym (cond-false (begins (35 ∷ []) cs) _ _ (no_sign cs e))

-- ---- names in a value

abbrev goes_on : ℕ → Bool
goes_on c = eqb c 61 || is_alphanumeric c

abbrev kept : Found → Option Found
kept found = cond (not found.closed && first_passes goes_on found.rest) None (Some found)

name_in_value : (table : References) (cs : List ℕ) → None ≡ after (chars (35 ∷ [])) cs →
    reference_in_value table cs ≡ option_and_then kept (named table cs)
name_in_value table cs e = cond-false (begins (35 ∷ []) cs) _ _ (no_sign cs e)

left_out : (closed on : Bool) → (closed || not on) ≡ false → (not closed && on) ≡ true
left_out true on e = cc
left_out false true e = refl
left_out false false e = cc

taken : (closed on : Bool) → (closed || not on) ≡ true → (not closed && on) ≡ false
taken true on e = refl
taken false true e = cc
taken false false e = refl

pub no_name_in_value : (table : References) (cs : List ℕ) → None ≡ after (chars (35 ∷ [])) cs → None ≡ named table cs →
    None ≡ reference_in_value table cs
no_name_in_value table cs e none = sym (name_in_value table cs e ∙ ap (option_and_then kept) (sym none))

module _ (table : References) (cs : List ℕ) (found : Found) (b : Bool) (e : None ≡ after (chars (35 ∷ [])) cs)
    (is : Some found ≡ named table cs) (test : b ≡ (found.closed || not (first_passes goes_on found.rest))) where
  at_name : reference_in_value table cs ≡ kept found
  at_name = name_in_value table cs e ∙ ap (option_and_then kept) (sym is)

  pub name_kept : b ≡ true → Some found ≡ reference_in_value table cs
  name_kept t = sym (at_name ∙ cond-false _ _ _ (taken found.closed (first_passes goes_on found.rest) (sym test ∙ t)))

  pub name_left_out : b ≡ false → None ≡ reference_in_value table cs
  name_left_out t =
      sym (at_name ∙ cond-true _ _ _ (left_out found.closed (first_passes goes_on found.rest) (sym test ∙ t)))

-- ---- what follows a reference is no longer than the text

abbrev pub EndsWithin : ℕ → Option Found → Type 0
EndsWithin n o = IfSome o (λ f. length f.rest ≤ n)

within_both : (n : ℕ) (b : Bool) (x y : Option Found) → EndsWithin n x → EndsWithin n y → EndsWithin n (cond b x y)
within_both n true x y p q = p
within_both n false x y p q = q

within_either : (n : ℕ) (x y : Option Found) → EndsWithin n x → EndsWithin n y → EndsWithin n (option_or x y)
within_either n None y p q = q
within_either n (Some f) y p q = p

within_more : (m n : ℕ) (o : Option Found) → m ≤ n → EndsWithin m o → EndsWithin n o
within_more m n None le p = tt
within_more m n (Some f) le p = omega (arith, p)

within_named : (front rest : List ℕ) (o : Option (List ℕ)) →
    EndsWithin (length rest) (option_map (named_as front rest) o)
within_named front rest None = tt
within_named front rest (Some value) = omega arith

name_within : (table : References) (front cs : List ℕ) → EndsWithin (length cs) (named_from table front cs)
name_within table front [] = within_named front [] (finite.get table front)
name_within table front (c ∷ cs) =
    within_either (length (c ∷ cs)) (named_from table (front ++ c ∷ []) cs)
    (option_map (named_as front (c ∷ cs)) (finite.get table front))
    (within_more (length cs) (length (c ∷ cs)) (named_from table (front ++ c ∷ []) cs) (omega arith)
    (name_within table (front ++ c ∷ []) cs))
    (within_named front (c ∷ cs) (finite.get table front))

rest_within : (p : ℕ → Bool) (cs : List ℕ) → length (rest_while p cs) ≤ length cs
rest_within p [] = omega arith
rest_within p (c ∷ cs) =
    cond_both (p c) (rest_while p cs) (c ∷ cs) (λ l. length l ≤ suc (length cs)) (λ e. omega (arith, rest_within p cs))
    (λ e. omega arith)

dropped_within : (b : Bool) (cs : List ℕ) → length (cond b (drop 1 cs) cs) ≤ length cs
dropped_within true [] = omega arith
dropped_within true (c ∷ cs) = omega arith
dropped_within false cs = omega arith

number_within : (base : ℕ) (cs : List ℕ) → EndsWithin (length cs) (numeric base cs)
number_within base cs =
    let rest : List ℕ = rest_while (is_digit base) cs in
    let le : length (cond (begins (59 ∷ []) rest) (drop 1 rest) rest) ≤ length cs =
    omega (arith, dropped_within (begins (59 ∷ []) rest) rest, rest_within (is_digit base) cs) in
    within_both (length cs) (eqb (length (front_while (is_digit base) cs)) 0) _ _ tt le

drop_within : (cs : List ℕ) → length (drop 1 cs) ≤ length cs
drop_within cs = dropped_within true cs

sign_within : (cs : List ℕ) → EndsWithin (length cs) (after_number_sign cs)
sign_within cs =
    within_both (length cs) (first_passes (λ c. eqb c 120 || eqb c 88) cs) (numeric 16 (drop 1 cs)) (numeric 10 cs)
    (within_more (length (drop 1 cs)) (length cs) (numeric 16 (drop 1 cs)) (drop_within cs)
    (number_within 16 (drop 1 cs)))
    (number_within 10 cs)

kept_within : (n : ℕ) (o : Option Found) → EndsWithin n o → EndsWithin n (option_and_then kept o)
kept_within n None p = tt
kept_within n (Some f) p = within_both n (not f.closed && first_passes goes_on f.rest) None (Some f) tt p

pub within_value : (table : References) (cs : List ℕ) → EndsWithin (length cs) (reference_in_value table cs)
within_value table cs =
    within_both (length cs) (begins (35 ∷ []) cs) (after_number_sign (drop 1 cs))
    (option_and_then kept (named table cs))
    (within_more (length (drop 1 cs)) (length cs) (after_number_sign (drop 1 cs)) (drop_within cs)
    (sign_within (drop 1 cs)))
    (kept_within (length cs) (named table cs) (name_within table [] cs))

-- ---- the value

-- what stands after a character of a value
abbrev pub after_character : References → ℕ → List ℕ → Option Found
after_character table c cs = cond (eqb c 38) (reference_in_value table cs) None

within_character : (table : References) (c : ℕ) (cs : List ℕ) → EndsWithin (length cs) (after_character table c cs)
within_character table c cs =
    within_both (length cs) (eqb c 38) (reference_in_value table cs) None (within_value table cs) tt

-- a value read with one step more
record Step (table : References) (n : ℕ) (cs rest piece : List ℕ) : Type 0 where
  less : ℕ
  enough : length rest ≤ less
  reads : value_from table n cs ≡ piece ++ value_from table less rest

step_character : (table : References) (n c : ℕ) (cs : List ℕ) → suc (length cs) ≤ n →
    None ≡ after_character table c cs → Step table n (c ∷ cs) cs (shown c ∷ [])
step_character table zero c cs le e = absurd (omega arith)
step_character table (suc n) c cs le e = record { less = n; enough = omega arith; reads = rw (sym e) refl }

step_found : (table : References) (n c : ℕ) (cs : List ℕ) (found : Found) → suc (length cs) ≤ n →
    Some found ≡ after_character table c cs → Step table n (c ∷ cs) found.rest found.characters
step_found table zero c cs found le e = absurd (omega arith)
step_found table (suc n) c cs found le e =
    let short : length found.rest ≤ length cs = subst (EndsWithin (length cs)) (sym e) (within_character table c cs) in
    record { less = n; enough = omega (arith, short); reads = rw (sym e) refl }

-- `value` was read, and `rest` is to come
pub record IsValuing (table : References) (text value rest : List ℕ) : Type 0 where
  pub steps : ℕ
  pub enough : length rest ≤ steps
  pub so_far : value ++ value_from table steps rest ≡ value_of table text

pub valuing_start : (table : References) (text value : List ℕ) → value ≡ [] → IsValuing table text value text
valuing_start table text value e =
    record { steps = length text; enough = omega arith; so_far = ap (λ l. l ++ value_from table (length text) text) e }

no_more : (table : References) (n : ℕ) → value_from table n [] ≡ []
no_more table zero = refl
no_more table (suc n) = refl

pub valuing_ends : (table : References) (text value rest : List ℕ) → IsValuing table text value rest → rest ≡ [] →
    value ≡ value_of table text
valuing_ends table text value rest h e =
    sym (append-nil value) ∙ ap (λ l. value ++ l) (sym (ap (value_from table h.steps) e ∙ no_more table h.steps)) ∙
    h.so_far

valuing_on : (table : References) (text value rest cs left piece new : List ℕ) (h : IsValuing table text value rest) →
    rest ≡ cs → Step table h.steps cs left piece → new ≡ value ++ piece → IsValuing table text new left
valuing_on table text value rest cs left piece new h e step is = record {
  steps = step.less;
  enough = step.enough;
  so_far =
      ap (λ l. l ++ value_from table step.less left) is ∙ append_assoc value piece (value_from table step.less left)
      ∙ ap (λ l. value ++ l) (sym (ap (value_from table h.steps) e ∙ step.reads)) ∙ h.so_far;
}

module _ (table : References) (text value rest : List ℕ) (c : ℕ) (cs : List ℕ) (h : IsValuing table text value rest)
    (e : rest ≡ c ∷ cs) where
  fits : suc (length cs) ≤ h.steps
  fits = omega (arith, h.enough, ap length e)

  pub valuing_character : (new : List ℕ) → None ≡ after_character table c cs → new ≡ value ++ shown c ∷ [] →
      IsValuing table text new cs
  valuing_character new none is =
      valuing_on table text value rest (c ∷ cs) cs (shown c ∷ []) new h e
      (step_character table h.steps c cs fits none) is

  pub valuing_found : (new : List ℕ) (found : Found) → Some found ≡ after_character table c cs →
      new ≡ value ++ found.characters → IsValuing table text new found.rest
  valuing_found new found some is =
      valuing_on table text value rest (c ∷ cs) found.rest found.characters new h e
      (step_found table h.steps c cs found fits some) is

  pub shorter_found : (found : Found) → Some found ≡ after_character table c cs → suc (length found.rest) ≤ length rest
  shorter_found found some =
      let short : length found.rest ≤ length cs =
      subst (EndsWithin (length cs)) (sym some) (within_character table c cs) in
      omega (arith, short, ap length e)

-- ---- what a String grows by

pub pushed_text : {Z : Type 0} (old new : String Z) (piece : List ℕ) → string_bytes new ≡ string_bytes old ++ piece →
    chars (string_bytes new) ≡ chars (string_bytes old) ++ chars piece
pushed_text old new piece e = ap chars e ∙ chars-append (string_bytes old) piece (IsUtf8-string_bytes old)

shown_scalar : (c : ℕ) → IsScalar c → IsScalar (shown c)
shown_scalar c scalar = cond_both (eqb c 0) 0xFFFD c IsScalar (λ e. refl) (λ e. scalar)

pub pushed_shown : {Z : Type 0} (old new : String Z) (c d : ℕ) → IsScalar c → d ≡ shown c →
    string_bytes new ≡ string_bytes old ++ encode_utf8 d → chars (string_bytes new)
    ≡ chars (string_bytes old) ++ shown c ∷ []
pushed_shown old new c d scalar is e =
    pushed_text old new (encode_utf8 d) e ∙ ap (λ l. chars (string_bytes old) ++ chars (encode_utf8 l)) is ∙
    ap (λ l. chars (string_bytes old) ++ l) (chars-encode (shown c) (shown_scalar c scalar))
