-- Numbers after a number sign.
use Rattle.std.proofs.Common.{◌≡◌, ◌⊎◌, ◌+◌, ◌*◌, ◌<◌, ◌≤◌, ◌&&◌, ◌||◌, [], ◌∷◌, ◌++◌, ◌∙◌, Bool, Bor, IsTrue, IsUtf8}
use Rattle.std.proofs.Common.{List, MatchOption, None, Option, Some, ap, arith, cond, drop, encode_utf8}
use Rattle.std.proofs.Common.{encode_utf8_all, eqb, false, fold, inl, inr, is_some, length, min, mul-le-mul_left}
use Rattle.std.proofs.Common.{option_map, refl, subst, sym, true, unwrap_or, ℕ}
use Rattle.std.proofs.lemmas.Bool.{and_from, and_parts, cases_lt, cond-false, cond-true, cond_both, eq-eqb, eqb-false}
use Rattle.std.proofs.lemmas.Bool.{eqb-true, lt-ltb, ltb-true, ne_eqb, or_right}
use Rattle.std.proofs.lemmas.List.{nil_from_length}
use Rattle.std.proofs.lemmas.Option.{none-some, same_Some}
use Rattle.std.proofs.lemmas.Str.{chars_past_char, encodes-chars, IsUtf8-past_char}
use Rattle.std.specs.Char.{digit_value}
use Rattle.std.specs.List.{list_all}
use Rattle.std.specs.Option.{option_or, SomeIff}
use Rattle.std.specs.Str.{chars}
use Rattle.token_grammar.specs.Characters.{is_digit}
use Rattle.token_grammar.specs.References.{Found, after_number_sign, number_of, numbered, numeric}
use Rattle.token_grammar.specs.Slices.{after, begins, front_while, rest_while}
use Rattle.token_grammar.proofs.SliceLemmas.{no_bytes}

-- ---- the number that digits spell

-- one digit more
abbrev pub spelled : ℕ → ℕ → ℕ → ℕ
spelled base n d = n * base + digit_value d

same_or_large : (x y most : ℕ) → min x most ≡ min y most → (x ≡ y) ⊎ ((most ≤ x) × (most ≤ y))
same_or_large x y most e = elim (cases_lt x most) [
  | inl below ↦ inl (omega arith)
  | inr above ↦ inr (above, omega arith)
]

same_step : (base d x y most : ℕ) → 1 ≤ base → min x most ≡ min y most → min (x * base + d) most
    ≡ min (y * base + d) most
same_step base d x y most some e = elim (same_or_large x y most e) [
  | inl same ↦ ap (λ n. min (n * base + d) most) same
  | inr large ↦ omega (arith, large.0, large.1, mul-le-mul_left x some, mul-le-mul_left y some)
]

same_spelled : (base x y most : ℕ) (ds : List ℕ) → 1 ≤ base → min x most ≡ min y most →
    min (fold (spelled base) x ds) most ≡ min (fold (spelled base) y ds) most
same_spelled base x y most [] some e = e
same_spelled base x y most (d ∷ ds) some e =
    same_spelled base (spelled base x d) (spelled base y d) most ds some
    (same_step base (digit_value d) x y most some e)

no_characters : (bs : List ℕ) → IsUtf8 bs → chars bs ≡ [] → bs ≡ []
no_characters bs u none = sym (encodes-chars bs u) ∙ ap encode_utf8_all none

too_large : (n : ℕ) → 0x10FFFF < n → numbered n ≡ 0xFFFD
too_large n h = cond-true _ _ _ (or_right _ _ (lt-ltb 0x10FFFF n h))

pub same_numbered : (x y most : ℕ) → 0x10FFFF < most → min x most ≡ min y most → numbered x ≡ numbered y
same_numbered x y most h e = elim (same_or_large x y most e) [
  | inl same ↦ ap numbered same
  | inr large ↦ too_large x (omega (arith, large.0)) ∙ sym (too_large y (omega (arith, large.1)))
]

digit_given : (base d value : ℕ) (r : Option ℕ) → IsTrue (is_digit base d) →
    SomeIff r (digit_value d < base) (digit_value d) → value ≡ unwrap_or r 0 → value ≡ digit_value d
digit_given base d value None is h e = absurd (h (ltb-true (digit_value d) base is))
digit_given base d value (Some v) is h e = e ∙ h.1

-- the digits after the first ones are to come: `number` is what the first spell, as far as `most`
pub record IsCounting (base most : ℕ) (digits left : List ℕ) (number : ℕ) : Type 0 where
  pub is_text : IsUtf8 left
  pub all : IsTrue (list_all (is_digit base) (chars left))
  pub so_far : min (fold (spelled base) number (chars left)) most ≡ min (number_of base (chars digits)) most

pub counting_start : (base most : ℕ) (digits left : List ℕ) → IsUtf8 digits →
    IsTrue (list_all (is_digit base) (chars digits)) → left ≡ digits → IsCounting base most digits left 0
counting_start base most digits left u all e = record {
  is_text = subst IsUtf8 (sym e) u;
  all = subst (λ l. IsTrue (list_all (is_digit base) (chars l))) (sym e) all;
  so_far = ap (λ l. min (number_of base (chars l)) most) e;
}

module _ (base most : ℕ) (digits left : List ℕ) (number : ℕ) (h : IsCounting base most digits left number) where
  pub counting_more : (rest : List ℕ) (d product value next : ℕ) (r : Option ℕ) → 2 ≤ base →
      left ≡ encode_utf8 d ++ rest → product ≡ min (number * base) most
      → SomeIff r (digit_value d < base) (digit_value d) → value ≡ unwrap_or r 0 → next ≡ min (product + value) most →
      IsCounting base most digits rest next
  counting_more rest d product value next r least e p given is n =
      let first : chars left ≡ d ∷ chars rest = chars_past_char left rest d h.is_text e in
      let digits =
      and_parts (is_digit base d) (list_all (is_digit base) (chars rest))
      (subst (λ l. IsTrue (list_all (is_digit base) l)) first h.all) in
      let same : value ≡ digit_value d = digit_given base d value r digits.0 given is in
      let capped : min next most ≡ min (number * base + digit_value d) most = omega arith in
      record {
        is_text = IsUtf8-past_char left rest d h.is_text e;
        all = digits.1;
        so_far =
            same_spelled base next (spelled base number d) most (chars rest) (omega arith) capped
            ∙ sym (ap (λ l. min (fold (spelled base) number l) most) first) ∙ h.so_far;
      }

  pub counting_ends : 0x10FFFF < most → length left ≡ 0 → numbered number ≡ numbered (number_of base (chars digits))
  counting_ends large none =
      same_numbered number (number_of base (chars digits)) most large
      (sym (ap (λ l. min (fold (spelled base) number l) most) (no_bytes left none)) ∙ h.so_far)

-- ---- digits, at least one, and an optional semicolon

all_pass : (p : ℕ → Bool) (cs : List ℕ) → IsTrue (list_all p (front_while p cs))
all_pass p [] = refl
all_pass p (c ∷ cs) =
    cond_both (p c) (c ∷ front_while p cs) [] (λ l. IsTrue (list_all p l)) (λ e. and_from (p c) _ e (all_pass p cs))
    (λ e. refl)

chars-semicolon : chars (59 ∷ []) ≡ 59 ∷ []
unfolding chars
chars-semicolon = refl

abbrev found_with : List ℕ → Bool → List ℕ → Found
found_with characters closed rest = record { characters = characters; closed = closed; rest = rest }

-- the semicolon that ends a number, and what follows
abbrev Ended : Bool → List ℕ → List ℕ → Option (Bor (List ℕ)) → Bor (List ℕ) → Type 0
Ended b trailing cs end rest = (is_some end ≡ b) × (chars (unwrap_or end rest).now ≡ cond b trailing cs)

ended_by : (b : Bool) (trailing cs : List ℕ) (end : Option (Bor (List ℕ))) (rest : Bor (List ℕ)) →
    option_map {T = Bor (List ℕ)} {U = List ℕ} (λ r. chars r.now) end ≡ cond b (Some trailing) None → chars rest.now ≡ cs
    → Ended b trailing cs end rest
ended_by true trailing cs None rest e is = absurd (none-some trailing e)
ended_by true trailing cs (Some x) rest e is = (refl, same_Some (chars x.now) trailing e)
ended_by false trailing cs None rest e is = (refl, is)
ended_by false trailing cs (Some x) rest e is = absurd (none-some (chars x.now) (sym e))

found_same : {a b : List ℕ} {x y : Bool} {k l : List ℕ} → a ≡ b → x ≡ y → k ≡ l →
    Some (found_with a x k) ≡ Some (found_with b y l)
found_same {a} {b} {x} {y} {k} {l} e f g = λ i. Some (found_with (e i) (f i) (g i))

-- a class of digits was split off the front of a text
module _ (base : ℕ) (p : ℕ → Bool) (text digits : List ℕ) (same : p ≡ is_digit base) (front : chars digits
    ≡ front_while p (chars text)) where
  digits_are : chars digits ≡ front_while (is_digit base) (chars text)
  digits_are = subst (λ (q : ℕ → Bool). chars digits ≡ front_while q (chars text)) same front

  pub digits_pass : IsTrue (list_all (is_digit base) (chars digits))
  digits_pass =
      subst (λ l. IsTrue (list_all (is_digit base) l)) (sym digits_are) (all_pass (is_digit base) (chars text))

  pub no_digits : (b : Bool) → b ≡ eqb (length digits) 0 → b ≡ true → None ≡ numeric base (chars text)
  no_digits b e passes =
      let none : chars digits ≡ [] = no_bytes digits (eqb-true (length digits) 0 (sym e ∙ passes)) in
      sym (cond-true _ _ _ (eq-eqb _ 0 (ap length (sym digits_are ∙ none))))

  pub some_digits : (b closed : Bool) (rest left : Bor (List ℕ)) (end : Option (Bor (List ℕ))) (value pushed : List ℕ)
      (c n : ℕ)
      → IsUtf8 digits → b ≡ eqb (length digits) 0 → b ≡ false → chars rest.now ≡ rest_while p (chars text)
      → option_map {T = Bor (List ℕ)} {U = List ℕ} (λ r. chars r.now) end ≡ after (chars (59 ∷ [])) (chars rest.now) →
      closed ≡ is_some end → left ≡ unwrap_or end rest
      → value ≡ chars pushed → pushed ≡ encode_utf8 c → chars (encode_utf8 c) ≡ c ∷ [] → c ≡ numbered n →
      numbered n ≡ numbered (number_of base (chars digits))
      → Some (record { characters = value; closed = closed; rest = chars left.now }) ≡ numeric base (chars text)
  some_digits b closed rest left end value pushed c n u e fails trailing ends is_closed is_left is_value is_pushed one
      numbers same_number =
      let some : length (front_while (is_digit base) (chars text)) ≡ 0 → ⊥ =
      λ none. eqb-false (length digits) 0 (sym e ∙ fails)
      (ap length (no_characters digits u (digits_are ∙ nil_from_length _ none))) in
      let rest_is : chars rest.now ≡ rest_while (is_digit base) (chars text) =
      subst (λ (q : ℕ → Bool). chars rest.now ≡ rest_while q (chars text)) same trailing in
      let cs : List ℕ = rest_while (is_digit base) (chars text) in
      let ended : Ended (begins (59 ∷ []) cs) (drop 1 cs) cs end rest =
      ended_by (begins (59 ∷ []) cs) (drop 1 cs) cs end rest
      (ends ∙ ap (λ m. after m (chars rest.now)) chars-semicolon ∙ ap (after (59 ∷ [])) rest_is) rest_is in
      let made : value ≡ numbered (number_of base (front_while (is_digit base) (chars text))) ∷ [] =
      is_value ∙ ap chars is_pushed ∙ one ∙ ap (λ k. k ∷ [])
      (numbers ∙ same_number ∙ ap (λ l. numbered (number_of base l)) digits_are) in
      found_same made (is_closed ∙ ended.0) (ap (λ (r : Bor (List ℕ)). chars r.now) is_left ∙ ended.1)
      ∙ sym (cond-false _ _ _ (ne_eqb _ 0 some))

-- ---- the letter x, in either case

and_true : (b : Bool) → (b && true) ≡ b
and_true true = refl
and_true false = refl

after_one : (m c : ℕ) (cs : List ℕ) → after (m ∷ []) (c ∷ cs) ≡ cond (eqb c m) (Some cs) None
after_one m c cs = ap (λ b. cond b (Some cs) None) (and_true (eqb c m))

chars-small-x : chars (120 ∷ []) ≡ 120 ∷ []
unfolding chars
chars-small-x = refl

chars-large-x : chars (88 ∷ []) ≡ 88 ∷ []
unfolding chars
chars-large-x = refl

-- what one of two marks leaves
abbrev LeftBy : Bool → List ℕ → Option (Bor (List ℕ)) → Type 0
LeftBy b cs r = MatchOption r (b ≡ false) (λ x. (b ≡ true) × (chars x.now ≡ cs))

abbrev chars_of : Option (Bor (List ℕ)) → Option (List ℕ)
chars_of r = option_map {T = Bor (List ℕ)} {U = List ℕ} (λ x. chars x.now) r

either_left : (a b : Bool) (cs : List ℕ) (r s : Option (Bor (List ℕ))) → chars_of r ≡ cond a (Some cs) None →
    chars_of s ≡ cond b (Some cs) None → LeftBy (a || b) cs (option_or r s)
either_left true b cs None s e f = absurd (none-some cs e)
either_left true b cs (Some x) s e f = (refl, same_Some (chars x.now) cs e)
either_left false b cs (Some x) s e f = absurd (none-some (chars x.now) (sym e))
either_left false true cs None None e f = absurd (none-some cs f)
either_left false true cs None (Some x) e f = (refl, same_Some (chars x.now) cs f)
either_left false false cs None None e f = refl
either_left false false cs None (Some x) e f = absurd (none-some (chars x.now) (sym f))

-- the text without its x, if it begins with one
abbrev pub AfterX : List ℕ → Option (Bor (List ℕ)) → Type 0
AfterX cs r =
    MatchOption r (numeric 10 cs ≡ after_number_sign cs) (λ x. numeric 16 (chars x.now) ≡ after_number_sign cs)

after_x_by : (b : Bool) (cs : List ℕ) (all : List ℕ) (whole : Option Found) (r : Option (Bor (List ℕ))) →
    whole ≡ cond b (numeric 16 cs) (numeric 10 all) → LeftBy b cs r
    → MatchOption r (numeric 10 all ≡ whole) (λ x. numeric 16 (chars x.now) ≡ whole)
after_x_by b cs all whole None e h = sym (e ∙ cond-false b _ _ h)
after_x_by b cs all whole (Some x) e h = ap (numeric 16) h.1 ∙ sym (e ∙ cond-true b _ _ h.0)

x_of : (cs : List ℕ) (r s : Option (Bor (List ℕ))) → chars_of r ≡ after (120 ∷ []) cs →
    chars_of s ≡ after (88 ∷ []) cs → AfterX cs (option_or r s)
x_of [] r s e f = after_x_by false [] [] (numeric 10 []) (option_or r s) refl (either_left false false [] r s e f)
x_of (c ∷ cs) r s e f =
    after_x_by (eqb c 120 || eqb c 88) cs (c ∷ cs) (after_number_sign (c ∷ cs)) (option_or r s) refl
    (either_left (eqb c 120) (eqb c 88) cs r s (e ∙ after_one 120 c cs) (f ∙ after_one 88 c cs))

pub after_x : (cs : List ℕ) (r s both : Option (Bor (List ℕ))) → chars_of r ≡ after (chars (120 ∷ [])) cs →
    chars_of s ≡ after (chars (88 ∷ [])) cs → both ≡ option_or r s → AfterX cs both
after_x cs r s both e f is =
    subst (AfterX cs) (sym is) (x_of cs r s (e ∙ ap (λ m. after m cs) chars-small-x)
    (f ∙ ap (λ m. after m cs) chars-large-x))
