-- Where words begin and end in a text.
use Rattle.std.proofs.Common.{◌≡◌, [], ◌∷◌, ◌++◌, ◌∙◌, ◌==◌, Bool, IsUtf8, List, ap, append_assoc, arith, chars}
use Rattle.std.proofs.Common.{encode_utf8, false, length, nat_le, refl, subst, sym, true, ℕ}
use Rattle.std.specs.Prelude.{All, None, Some, is_some, if◌then◌else◌}
use Rattle.std.specs.Char.{IsScalar}
use Rattle.std.proofs.lemmas.Bool.Decides.{nat_tests}
use Rattle.text_lines.proofs.Emptiness.{chars_nil}
use Rattle.text_lines.proofs.Joins.{chars_of_one}
use Rattle.std.proofs.lemmas.List.Elements.{All-nil, All-same, All-push}
use Rattle.std.proofs.lemmas.List.Sums.{fold-append}
use Rattle.std.proofs.lemmas.Str.{chars-nil, chars-append, chars_past_char, IsUtf8-nil, IsUtf8-append, IsUtf8-encode}
use Rattle.text_lines.specs.Columns.{columns_of, width_of}
use Rattle.text_pieces.specs.Sources.{is_break_point}
use Rattle.text_normal.specs.Riders.{is_carrier, in_word_at}
use Rattle.text_normal.specs.MarkedStates.{LeavesWord, BeginsWord, in_word_after}
use Rattle.text_normal.proofs.NormalReading.{width_read}

pub leaves_start : (text : List ℕ) → LeavesWord text text
leaves_start text = record {
  parts = record { front = []; whole = refl; utf8 = IsUtf8-nil };
  bare = All-same (λ c. is_carrier c ≡ false) (chars []) [] chars-nil (All-nil (λ c. is_carrier c ≡ false));
}

pub leaves_more : (text rest after : List ℕ) (c : ℕ) → LeavesWord text rest → rest ≡ encode_utf8 c ++ after
    → IsScalar c → is_carrier c ≡ false → LeavesWord text after
leaves_more text rest after c r split scalar bare =
    let p = r.parts in
    record {
      parts = record {
        front = p.front ++ encode_utf8 c;
        whole = p.whole ∙ ap (λ l. p.front ++ l) split ∙ sym (append_assoc p.front (encode_utf8 c) after);
        utf8 = IsUtf8-append p.front (encode_utf8 c) p.utf8 (IsUtf8-encode c scalar);
      };
      bare = All-same (λ d. is_carrier d ≡ false) (chars (p.front ++ encode_utf8 c)) (chars p.front ++ c ∷ [])
          (chars-append p.front (encode_utf8 c) p.utf8 ∙ ap (λ l. chars p.front ++ l) (chars_of_one c scalar))
          (All-push (λ d. is_carrier d ≡ false) (chars p.front) c r.bare bare);
    }

pub begins_here : (rest after : List ℕ) (c : ℕ) → IsUtf8 rest → rest ≡ encode_utf8 c ++ after → is_carrier c ≡ true
    → BeginsWord (chars rest)
begins_here rest after c utf8 split carrier =
    let P : List ℕ → Type 0 = BeginsWord in subst P (sym (chars_past_char rest after c utf8 split)) carrier

pub begins_nothing : (rest : List ℕ) → rest ≡ [] → BeginsWord (chars rest)
begins_nothing rest none = let P : List ℕ → Type 0 = BeginsWord in subst P (sym (ap chars none ∙ chars-nil)) tt

-- what the last character makes of it
pub after_last : (width : ℕ) (in_word : Bool) (rest before : List ℕ) (c : ℕ) → rest ≡ before ++ encode_utf8 c
    → IsUtf8 before → IsScalar c
    → in_word_after width in_word (chars rest) ≡ in_word_at width (in_word_after width in_word (chars before)) c
after_last width in_word rest before c split utf8 scalar =
    ap (in_word_after width in_word)
    (ap chars split ∙ chars-append before (encode_utf8 c) utf8 ∙ ap (λ l. chars before ++ l) (chars_of_one c scalar))
    ∙ fold-append (in_word_at width) in_word (chars before) (c ∷ [])

pub at_break : (width : ℕ) (b : Bool) (c : ℕ) → is_break_point c ≡ true → in_word_at width b c ≡ false
at_break width b c breaks = ap (λ t. if t then false
    else (if is_some (columns_of c) then nat_le (width_of c) width else b))
    breaks

pub at_shown : (width : ℕ) (b : Bool) (c n : ℕ) → is_break_point c ≡ false → columns_of c ≡ Some n
    → in_word_at width b c ≡ nat_le n width
at_shown width b c n solid columns =
    ap (λ t. if t then false else (if is_some (columns_of c) then nat_le (width_of c) width else b)) solid
    ∙ ap (λ o. if is_some o then nat_le (width_of c) width else b) columns
    ∙ ap (λ m. nat_le m width) (width_read c n columns)

pub at_nothing : (width : ℕ) (b : Bool) (c : ℕ) → is_break_point c ≡ false → columns_of c ≡ None
    → in_word_at width b c ≡ b
at_nothing width b c solid none =
    ap (λ t. if t then false else (if is_some (columns_of c) then nat_le (width_of c) width else b)) solid
    ∙ ap (λ o. if is_some o then nat_le (width_of c) width else b) none

-- ---- empty texts

test_zero : (n : ℕ) → (n == 0) ≡ true → n ≡ 0
test_zero n h = grind (arith, nat_tests)

test_some : (n : ℕ) → (n == 0) ≡ false → n ≡ 0 → ⊥
test_some n h e = grind (arith, nat_tests)

no_length : (bs : List ℕ) → length bs ≡ 0 → bs ≡ []
no_length [] h = refl
no_length (b ∷ bs) h = absurd (omega (arith, h))

pub empty_text : (bs : List ℕ) → (length bs == 0) ≡ true → chars bs ≡ []
empty_text bs h = ap chars (no_length bs (test_zero (length bs) h)) ∙ chars-nil

pub some_text : (bs : List ℕ) → IsUtf8 bs → (length bs == 0) ≡ false → chars bs ≡ [] → ⊥
some_text bs utf8 h none = test_some (length bs) h (ap length (chars_nil bs utf8 none))

-- ---- the front cut off

pub word_bare : (text rest run : List ℕ) → LeavesWord text rest
    → ((front : List ℕ) → text ≡ front ++ rest → run ≡ front) → All (λ c. is_carrier c ≡ false) (chars run)
word_bare text rest run r only = All-same (λ c. is_carrier c ≡ false) (chars run) (chars r.parts.front)
    (ap chars (only r.parts.front r.parts.whole)) r.bare

pub word_begins : (rest back : List ℕ) → back ≡ rest → BeginsWord (chars rest) → BeginsWord (chars back)
word_begins rest back same begins = let P : List ℕ → Type 0 = BeginsWord in subst P (ap chars (sym same)) begins
