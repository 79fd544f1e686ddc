-- What is read of a text that another was added to.
use Rattle.std.proofs.Common.{◌≡◌, ◌+◌, ◌<◌, ◌%◌, ◌/◌, ◌==◌, [], ◌∷◌, ◌++◌, if◌then◌else◌, ◌∙◌, Bool, Err, IsAscii}
use Rattle.std.proofs.Common.{IsUtf8, List, Ok, OnOk, Result, ap, append-nil, append_assoc, arith, encode_utf8, false}
use Rattle.std.proofs.Common.{is_ok, nat_lt, refl, subst, suc, sym, true, zero, ℕ}
use Rattle.std.proofs.lemmas.Bool.Decides.{nat_tests}
use Rattle.std.proofs.lemmas.Nat.{mod_below}
use Rattle.std.proofs.lemmas.Str.{IsAscii-append, IsUtf8-encode, chars-IsAscii, chars-append, chars-nil}
use Rattle.std.proofs.lemmas.Str.{chars_past_char}
use Rattle.std.proofs.lemmas.Str.Ascii.{IsAscii-cons, IsAscii-nil}
use Rattle.std.proofs.lemmas.Result.{on_ok_weaker}
use Rattle.std.specs.Char.{IsScalar}
use Rattle.std.specs.Str.{chars}
use Rattle.std.specs.Fmt.{digit_glyph, digits, digits_onto}
use Rattle.test_fields.specs.Escapes.{code_of, escape_of, is_unseen}

-- a text that reads as cs was added
pub is_added : {T E : Type 0} (r : Result T E) (old new text cs : List ℕ) → IsUtf8 old → chars text ≡ cs
    → OnOk r (new ≡ old ++ text) → OnOk r (chars new ≡ chars old ++ cs)
is_added r old new text cs utf8 reads added = on_ok_weaker r
    (λ e. ap chars e ∙ chars-append old text utf8 ∙ ap (λ l. chars old ++ l) reads) added

-- what `push` and `push_str` promise, for which a text that is refused adds nothing
pub is_pushed : {T E : Type 0} (r : Result T E) (old new text cs : List ℕ) → IsUtf8 old → chars text ≡ cs
    → new ≡ (if is_ok r then old ++ text else old) → OnOk r (chars new ≡ chars old ++ cs)
is_pushed {T = T} {E = E} (Ok x) old new text cs utf8 reads pushed =
    is_added {T = T} {E = E} (Ok x) old new text cs utf8 reads pushed
is_pushed (Err e) old new text cs utf8 reads pushed = tt

pub chars-encode : (c : ℕ) → IsScalar c → chars (encode_utf8 c) ≡ c ∷ []
chars-encode c scalar =
    chars_past_char (encode_utf8 c) [] c (IsUtf8-encode c scalar) (sym (append-nil (encode_utf8 c)))
    ∙ ap (λ l. c ∷ l) chars-nil

glyph_is_ascii : (d : ℕ) → d < 16 → digit_glyph true d < 128
glyph_is_ascii d small = by (nat_lt d 10) where
  by : (b : Bool) → (if b then 48 + d else 55 + d) < 128
  by true = omega arith
  by false = omega arith

either : (b : Bool) (xs ys : List ℕ) → IsAscii xs → IsAscii ys → IsAscii (if b then xs else ys)
either true xs ys p q = p
either false xs ys p q = q

digits_are_ascii : (k n : ℕ) (acc : List ℕ) → IsAscii acc → IsAscii (digits_onto k 16 true n acc)
digits_are_ascii zero n acc h = h
digits_are_ascii (suc k) n acc h =
    let d = digit_glyph true (n % 16) in
    let more = IsAscii-cons d acc (glyph_is_ascii (n % 16) (mod_below n 16 (omega arith))) h in
    either (n / 16 == 0) (d ∷ acc) (digits_onto k 16 true (n / 16) (d ∷ acc)) more
    (digits_are_ascii k (n / 16) (d ∷ acc) more)

-- an escape in braces reads as itself
pub code_reads : (c : ℕ) → chars (code_of c) ≡ code_of c
unfolding digits
code_reads c = chars-IsAscii (code_of c)
    (IsAscii-cons 92 (117 ∷ 123 ∷ (digits 16 true c ++ 125 ∷ [])) (omega arith)
    (IsAscii-cons 117 (123 ∷ (digits 16 true c ++ 125 ∷ [])) (omega arith)
    (IsAscii-cons 123 (digits 16 true c ++ 125 ∷ []) (omega arith)
    (IsAscii-append (digits 16 true c) (125 ∷ []) (digits_are_ascii 64 c [] IsAscii-nil)
    (IsAscii-cons 125 [] (omega arith) IsAscii-nil)))))

-- what stands for a character of its own escape
pub escape_92 : (c : ℕ) → c ≡ 92 → chars (92 ∷ 92 ∷ []) ≡ escape_of c
unfolding chars
escape_92 c e = subst (λ d. chars (92 ∷ 92 ∷ []) ≡ escape_of d) (sym e) refl

pub escape_10 : (c : ℕ) → c ≡ 10 → chars (92 ∷ 110 ∷ []) ≡ escape_of c
unfolding chars
escape_10 c e = subst (λ d. chars (92 ∷ 110 ∷ []) ≡ escape_of d) (sym e) refl

pub escape_9 : (c : ℕ) → c ≡ 9 → chars (92 ∷ 116 ∷ []) ≡ escape_of c
unfolding chars
escape_9 c e = subst (λ d. chars (92 ∷ 116 ∷ []) ≡ escape_of d) (sym e) refl

pub escape_13 : (c : ℕ) → c ≡ 13 → chars (92 ∷ 114 ∷ []) ≡ escape_of c
unfolding chars
escape_13 c e = subst (λ d. chars (92 ∷ 114 ∷ []) ≡ escape_of d) (sym e) refl

-- what is none of the four and shows by itself stands as it is
pub escape_seen : (c : ℕ) → (c == 92) ≡ false → (c == 10) ≡ false → (c == 9) ≡ false → (c == 13) ≡ false
    → is_unseen c ≡ false → c ∷ [] ≡ escape_of c
escape_seen c a b d e u = grind (arith, nat_tests, a, b, d, e, u)

-- one character more, and then a text
pub after_one : (old mid new cs : List ℕ) (c : ℕ) → IsScalar c → IsUtf8 old → mid ≡ old ++ encode_utf8 c
    → chars new ≡ chars mid ++ cs → chars new ≡ chars old ++ c ∷ cs
after_one old mid new cs c scalar utf8 one more =
    more ∙ ap (λ bs. chars bs ++ cs) one
    ∙ ap (λ l. l ++ cs) (chars-append old (encode_utf8 c) utf8 ∙ ap (λ l. chars old ++ l) (chars-encode c scalar))
    ∙ append_assoc (chars old) (c ∷ []) cs

pub one_more : (old new cs : List ℕ) (c : ℕ) → IsScalar c → IsUtf8 old → new ≡ old ++ encode_utf8 c → chars old ≡ cs
    → chars new ≡ cs ++ c ∷ []
one_more old new cs c scalar utf8 one so_far =
    ap chars one ∙ chars-append old (encode_utf8 c) utf8 ∙ ap (λ l. chars old ++ l) (chars-encode c scalar)
    ∙ ap (λ l. l ++ c ∷ []) so_far
