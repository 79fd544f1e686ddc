-- Numbers in attributes, beside what `parse` answers.
use Rattle.std.proofs.Common.{◌≡◌, ◌≢◌, ◌-◌, ◌^◌, ◌<◌, ◌≤◌, ◌&&◌, ◌==◌, if◌then◌else◌, [], ◌∷◌, ◌∙◌, Bool, IsUtf8, List}
use Rattle.std.proofs.Common.{ap, arith, chars, false, length, refl, suc, sym, true, w64, ℕ}
use Rattle.std.specs.Prelude.{Option, None, Some, Result, Ok, Err, ℤ, pos, neg_ℤ}
use Rattle.std.specs.Bool.{nat_le, nat_lt}
use Rattle.std.specs.Char.{is_ascii_digit}
use Rattle.std.specs.Result.{OkIff, result_ok}
use Rattle.std.specs.Str.{all_ascii_digits}
use Rattle.std.proofs.lemmas.Str.{encodes-chars, encodes-IsAscii}
use Rattle.std.specs.Str.Parse.{ParsesSigned, ParsesUnsigned, digits_value}
use Rattle.std.proofs.lemmas.Bool.Decides.{nat_tests}
use Rattle.std.proofs.lemmas.Str.Parse.{IsNumeralModel, numerals_by_value, parse_plain, parse_plus, parse_signed_minus}
use Rattle.std.proofs.lemmas.Str.Parse.{parse_signed_plain, parse_signed_plus, tells_all_ascii_digits}
use Rattle.tree_names.specs.Sets.{is_ascii_word}
use Rattle.tree_names.proofs.SetLemmas.{ascii_word}
use Rattle.tree_predicates.proofs.WordLemmas.{word_chars}
use Rattle.render_conversion.specs.Numbers.{negative, positive, read_digits, signed_of, unsigned_of}

abbrev IsRead : (most : ℕ) → List ℕ → Type 0
IsRead most ds = (all_ascii_digits ds ≡ true) × (0 < length ds) × (digits_value 10 ds ≤ most)

own : IsNumeralModel (λ ds. all_ascii_digits ds ≡ true) (digits_value 10)
own = numerals_by_value _ tells_all_ascii_digits

at_most : (n m : ℕ) → n ≤ m → nat_le n m ≡ true
at_most n m h = grind (arith, nat_tests)

is_at_most : (n m : ℕ) → nat_le n m ≡ true → n ≤ m
is_at_most n m h = grind (arith, nat_tests)

same_number : (n m : ℕ) → (n == m) ≡ true → n ≡ m
same_number n m h = grind (arith, nat_tests)

other_number : (n m : ℕ) → (n == m) ≡ false → n ≢ m
other_number n m h = grind (arith, nat_tests)

read_some : (most : ℕ) (ds : List ℕ) → IsRead most ds → read_digits most ds ≡ Some (digits_value 10 ds)
read_some most [] h = absurd (omega (arith, h.1))
read_some most (c ∷ cs) h =
    by (all_ascii_digits (c ∷ cs)) (nat_le (digits_value 10 (c ∷ cs)) most) h.0
    (at_most (digits_value 10 (c ∷ cs)) most h.2) where
      by : (a b : Bool) → a ≡ true → b ≡ true
          → (if a && b then Some (digits_value 10 (c ∷ cs)) else None) ≡ Some (digits_value 10 (c ∷ cs))
      by true true e f = refl
      by true false e f = cc
      by false b e f = cc

read_none : (most : ℕ) (ds : List ℕ) → ¬ (IsRead most ds) → read_digits most ds ≡ None
read_none most [] h = refl
read_none most (c ∷ cs) h =
    by (all_ascii_digits (c ∷ cs)) (nat_le (digits_value 10 (c ∷ cs)) most) refl refl where
      by : (a b : Bool) → all_ascii_digits (c ∷ cs) ≡ a → nat_le (digits_value 10 (c ∷ cs)) most ≡ b
          → (if a && b then Some (digits_value 10 (c ∷ cs)) else None) ≡ None
      by true true e f = absurd (h (e, omega arith, is_at_most (digits_value 10 (c ∷ cs)) most f))
      by true false e f = refl
      by false b e f = refl

answered : {X E : Type 0} (r : Result X E) (g : ℕ → X) (o : Option ℕ → Option X) (most : ℕ) (ds : List ℕ)
    → ((n : ℕ) → o (Some n) ≡ Some (g n)) → o None ≡ None → OkIff r (IsRead most ds) (g (digits_value 10 ds))
    → result_ok r ≡ o (read_digits most ds)
answered (Ok x) g o most ds some none h =
    ap Some h.1 ∙ (sym (some (digits_value 10 ds)) ∙ sym (ap o (read_some most ds h.0)))
answered (Err e) g o most ds some none h = sym none ∙ sym (ap o (read_none most ds h))

abbrev IsBelow : (limit : ℕ) → List ℕ → Type 0
IsBelow limit ds = (all_ascii_digits ds ≡ true) × (0 < length ds) × (digits_value 10 ds < limit)

below : {X E : Type 0} (r : Result X E) (most limit : ℕ) (ds : List ℕ) (x : X) → limit ≡ suc most
    → OkIff r (IsBelow limit ds) x → OkIff r (IsRead most ds) x
below (Ok y) most limit ds x e h = ((h.0.0, h.0.1, omega (arith, h.0.2)), h.1)
below (Err y) most limit ds x e h = λ p. h (p.0, p.1, omega (arith, p.2))

-- ---- of bytes

unsigned_bytes : {E : Type 0} (bs : List ℕ) (r : Result ℕ E) → ParsesUnsigned 64 10 bs r
    → result_ok r ≡ unsigned_of bs
unsigned_bytes [] r h =
    answered r (λ n. n) (λ o. o) (2 ^ 64 - 1) [] (λ n. refl) refl
    (below r (2 ^ 64 - 1) (2 ^ 64) [] _ refl (parse_plain own 64 [] r h (λ e. omega arith)))
unsigned_bytes (c ∷ cs) r h = by (c == 43) refl where
  by : (b : Bool) → (c == 43) ≡ b
      → result_ok r ≡ (if b then read_digits (2 ^ 64 - 1) cs else read_digits (2 ^ 64 - 1) (c ∷ cs))
  by true e =
      answered r (λ n. n) (λ o. o) (2 ^ 64 - 1) cs (λ n. refl) refl
      (below r (2 ^ 64 - 1) (2 ^ 64) cs _ refl (parse_plus own 64 (c ∷ cs) r h (same_number c 43 e)))
  by false e =
      answered r (λ n. n) (λ o. o) (2 ^ 64 - 1) (c ∷ cs) (λ n. refl) refl
      (below r (2 ^ 64 - 1) (2 ^ 64) (c ∷ cs) _ refl (parse_plain own 64 (c ∷ cs) r h (other_number c 43 e)))

abbrev minus : ℕ → ℤ
minus n = neg_ℤ (pos n)

abbrev plus : ℕ → ℤ
plus n = pos n

signed_bytes : {E : Type 0} (bs : List ℕ) (r : Result ℤ E) → ParsesSigned w64 10 bs r → result_ok r ≡ signed_of bs
signed_bytes [] r h =
    answered r plus positive (2 ^ 63 - 1) [] (λ n. refl) refl
    (below r (2 ^ 63 - 1) (2 ^ 63) [] _ refl
    (parse_signed_plain own w64 [] r h (λ e. omega arith) (λ e. omega arith)))
signed_bytes (c ∷ cs) r h = by (c == 45) (c == 43) refl refl where
  by : (a b : Bool) → (c == 45) ≡ a → (c == 43) ≡ b
      → result_ok r ≡ (if a then negative (read_digits (2 ^ 63) cs)
      else if b then positive (read_digits (2 ^ 63 - 1) cs) else positive (read_digits (2 ^ 63 - 1) (c ∷ cs)))
  by true b e f =
      answered r minus negative (2 ^ 63) cs (λ n. refl) refl
      (parse_signed_minus own w64 (c ∷ cs) r h (same_number c 45 e))
  by false true e f =
      answered r plus positive (2 ^ 63 - 1) cs (λ n. refl) refl
      (below r (2 ^ 63 - 1) (2 ^ 63) cs _ refl (parse_signed_plus own w64 (c ∷ cs) r h (same_number c 43 f)))
  by false false e f =
      answered r plus positive (2 ^ 63 - 1) (c ∷ cs) (λ n. refl) refl
      (below r (2 ^ 63 - 1) (2 ^ 63) (c ∷ cs) _ refl
      (parse_signed_plain own w64 (c ∷ cs) r h (other_number c 43 f) (other_number c 45 e)))

-- ---- of characters: a text that isn't of ASCII alone is no number

digit_is_ascii : (c : ℕ) → is_ascii_digit c ≡ true → nat_lt c 128 ≡ true
digit_is_ascii c h = grind (arith, nat_tests)

both_true : (a b : Bool) → (a && b) ≡ true → (a ≡ true) × (b ≡ true)
both_true true b h = (refl, h)
both_true false b h = cc

and_true : (a b : Bool) → a ≡ true → b ≡ true → (a && b) ≡ true
and_true true b e f = f
and_true false b e f = cc

digits_are_ascii : (ds : List ℕ) → all_ascii_digits ds ≡ true → is_ascii_word ds ≡ true
digits_are_ascii [] h = refl
digits_are_ascii (c ∷ cs) h =
    let p = both_true (is_ascii_digit c) (all_ascii_digits cs) h in
    and_true (nat_lt c 128) (is_ascii_word cs) (digit_is_ascii c p.0) (digits_are_ascii cs p.1)

true_is_not_false : (b : Bool) → b ≡ true → b ≡ false → ⊥
true_is_not_false b h k = cc

not_read : (most : ℕ) (ds : List ℕ) → is_ascii_word ds ≡ false → read_digits most ds ≡ None
not_read most ds h =
    read_none most ds (λ p. true_is_not_false (is_ascii_word ds) (digits_are_ascii ds p.0) h)

after_ascii : (c n : ℕ) (cs : List ℕ) → c ≡ n → nat_lt n 128 ≡ true → is_ascii_word (c ∷ cs) ≡ false
    → is_ascii_word cs ≡ false
after_ascii c n cs e t h = by (nat_lt c 128) (ap (λ k. nat_lt k 128) e ∙ t) h where
  by : (b : Bool) → b ≡ true → (b && is_ascii_word cs) ≡ false → is_ascii_word cs ≡ false
  by true k f = f
  by false k f = cc

unsigned_none : (cs : List ℕ) → is_ascii_word cs ≡ false → unsigned_of cs ≡ None
unsigned_none [] h = refl
unsigned_none (c ∷ cs) h = by (c == 43) refl where
  by : (b : Bool) → (c == 43) ≡ b
      → (if b then read_digits (2 ^ 64 - 1) cs else read_digits (2 ^ 64 - 1) (c ∷ cs)) ≡ None
  by true e = not_read (2 ^ 64 - 1) cs (after_ascii c 43 cs (same_number c 43 e) refl h)
  by false e = not_read (2 ^ 64 - 1) (c ∷ cs) h

signed_none : (cs : List ℕ) → is_ascii_word cs ≡ false → signed_of cs ≡ None
signed_none [] h = refl
signed_none (c ∷ cs) h = by (c == 45) (c == 43) refl refl where
  by : (a b : Bool) → (c == 45) ≡ a → (c == 43) ≡ b
      → (if a then negative (read_digits (2 ^ 63) cs)
      else if b then positive (read_digits (2 ^ 63 - 1) cs) else positive (read_digits (2 ^ 63 - 1) (c ∷ cs)))
      ≡ None
  by true b e f = ap negative (not_read (2 ^ 63) cs (after_ascii c 45 cs (same_number c 45 e) refl h))
  by false true e f = ap positive (not_read (2 ^ 63 - 1) cs (after_ascii c 43 cs (same_number c 43 f) refl h))
  by false false e f = ap positive (not_read (2 ^ 63 - 1) (c ∷ cs) h)

ascii_chars : (bs : List ℕ) → IsUtf8 bs → is_ascii_word (chars bs) ≡ true → bs ≡ chars bs
ascii_chars bs u h = sym (encodes-chars bs u) ∙ encodes-IsAscii (chars bs) (ascii_word (chars bs) h)

other_bytes : (bs : List ℕ) → is_ascii_word (chars bs) ≡ false → is_ascii_word bs ≡ false
other_bytes bs h = by (is_ascii_word bs) refl where
  by : (b : Bool) → is_ascii_word bs ≡ b → is_ascii_word bs ≡ false
  by false e = e
  by true e =
      absurd (true_is_not_false (is_ascii_word (chars bs)) (ap is_ascii_word (word_chars bs e) ∙ e) h)

pub unsigned_read : {E : Type 0} (bs : List ℕ) (r : Result ℕ E) → IsUtf8 bs → ParsesUnsigned 64 10 bs r
    → result_ok r ≡ unsigned_of (chars bs)
unsigned_read bs r u h = unsigned_bytes bs r h ∙ by (is_ascii_word (chars bs)) refl where
  by : (b : Bool) → is_ascii_word (chars bs) ≡ b → unsigned_of bs ≡ unsigned_of (chars bs)
  by true e = ap unsigned_of (ascii_chars bs u e)
  by false e = unsigned_none bs (other_bytes bs e) ∙ sym (unsigned_none (chars bs) e)

pub signed_read : {E : Type 0} (bs : List ℕ) (r : Result ℤ E) → IsUtf8 bs → ParsesSigned w64 10 bs r
    → result_ok r ≡ signed_of (chars bs)
signed_read bs r u h = signed_bytes bs r h ∙ by (is_ascii_word (chars bs)) refl where
  by : (b : Bool) → is_ascii_word (chars bs) ≡ b → signed_of bs ≡ signed_of (chars bs)
  by true e = ap signed_of (ascii_chars bs u e)
  by false e = signed_none bs (other_bytes bs e) ∙ sym (signed_none (chars bs) e)
