-- Printable targets, and what is had back from them.
use Rattle.std.proofs.Common.{◌≡◌, ◌<◌, ◌≤◌, ◌==◌, ◌||◌, [], ◌∷◌, ◌++◌, ◌∙◌, ◌/◌, ◌%◌, All, Bool, IsAscii, List, ap}
use Rattle.std.proofs.Common.{append-nil}
use Rattle.std.proofs.Common.{append_assoc, arith, cond, false, flat_map, inl, inr, ltb, refl, sym, true, ℕ}
use Rattle.std.proofs.Common.{◌+◌, ⊎_elim, IsUtf8, String, chars, get_or, length, length-append, map, string_bytes}
use Rattle.std.proofs.Common.{subst, take}
use Rattle.std.specs.List.{list_any}
use Rattle.std.specs.Char.{encode_utf8}
use Rattle.std.specs.Global.{Global}
use Rattle.std.specs.Prelude.{encode_utf8_all}
use Rattle.std.proofs.lemmas.Bool.{cases_Bool, cond-false, cond-true, cond_both}
use Rattle.std.proofs.lemmas.Bool.Decides.{nat_tests}
use Rattle.std.proofs.lemmas.Grind.{flat_map-append}
use Rattle.std.proofs.lemmas.List.{map-append, take_more}
use Rattle.std.proofs.lemmas.List.Elements.{All-append, All-cons, All-head, All-nil, All-tail, All-weaker}
use Rattle.std.proofs.lemmas.List.Folds.{list_any-append, list_any_none}
use Rattle.std.proofs.lemmas.Str.{chars-IsAscii, chars-append, encodes-IsAscii, encodes-append, encodes_same}
use Rattle.std.proofs.lemmas.Str.Ascii.{IsAscii-from_all}
use Rattle.percent_encoding.specs.Percent.{percent_decode, percent_encode_byte, percent_sign}
use Rattle.percent_encoding.proofs.PercentLemmas.{All-percent_encode_byte, IsByte, IsEscapeByte, percent_decode-nil}
use Rattle.percent_encoding.proofs.PercentLemmas.{percent_decode-percent_encode_byte, percent_decode_not_percent}
use Rattle.text_pieces.proofs.ElementLemmas.{all_taken}
use Rattle.text_pieces.specs.Sources.{is_filled, names}
use Rattle.text_footnotes.specs.Printable.{is_unprintable, printable, printable_character, shown_targets}

abbrev pub escapes : List ℕ → List ℕ
escapes bytes = flat_map percent_encode_byte bytes

-- ---- what escapes are made of

pub all_escapes : (bytes : List ℕ) → All IsEscapeByte (escapes bytes)
all_escapes [] = All-nil IsEscapeByte
all_escapes (b ∷ bytes) = All-append IsEscapeByte (percent_encode_byte b) (escapes bytes) (All-percent_encode_byte b)
    (all_escapes bytes)

is_ascii_escape : (b : ℕ) → IsEscapeByte b → b < 128
is_ascii_escape b h = grind arith

pub ascii_escapes : (bytes : List ℕ) → IsAscii (escapes bytes)
ascii_escapes bytes = IsAscii-from_all _ (All-weaker IsEscapeByte (λ b. b < 128) is_ascii_escape (escapes bytes)
    (all_escapes bytes))

is_printable_escape : (b : ℕ) → IsEscapeByte b → is_unprintable b ≡ false
is_printable_escape b h = grind (arith, nat_tests)

escapes_print : (bytes : List ℕ) → list_any is_unprintable (escapes bytes) ≡ false
escapes_print bytes = list_any_none is_unprintable (escapes bytes) (All-weaker IsEscapeByte
    (λ b. is_unprintable b ≡ false) is_printable_escape (escapes bytes) (all_escapes bytes))

-- ---- a character

pub escaped_character : (c : ℕ) → is_unprintable c ≡ true → printable_character c ≡ escapes (encode_utf8 c)
escaped_character c e = cond-true (is_unprintable c) _ _ e

pub kept_character : (c : ℕ) → is_unprintable c ≡ false → printable_character c ≡ c ∷ []
kept_character c e = cond-false (is_unprintable c) _ _ e

neither : (a b : Bool) → a ≡ false → b ≡ false → (a || b) ≡ false
neither a b e f = ap (λ x. x || b) e ∙ f

first_of : (a b : Bool) → (a || b) ≡ false → a ≡ false
first_of false b e = refl
first_of true b e = e

second_of : (a b : Bool) → (a || b) ≡ false → b ≡ false
second_of false b e = e
second_of true b e = absurd (cc e)

character_prints : (c : ℕ) → list_any is_unprintable (printable_character c) ≡ false
character_prints c = ⊎_elim
    (λ e. ap (list_any is_unprintable) (escaped_character c e) ∙ escapes_print (encode_utf8 c))
    (λ e. ap (list_any is_unprintable) (kept_character c e) ∙ neither (is_unprintable c) false e refl)
    (cases_Bool (is_unprintable c))

pub printable_prints : (target : List ℕ) → list_any is_unprintable (printable target) ≡ false
printable_prints [] = refl
printable_prints (c ∷ target) = list_any-append is_unprintable (printable_character c) (printable target)
    ∙ neither _ _ (character_prints c) (printable_prints target)

pub printable_same : (target : List ℕ) → list_any is_unprintable target ≡ false → printable target ≡ target
printable_same [] e = refl
printable_same (c ∷ target) e =
    ap (λ l. l ++ printable target) (kept_character c (first_of (is_unprintable c) _ e))
    ∙ ap (λ l. c ∷ l) (printable_same target (second_of (is_unprintable c) _ e))

-- ---- decoded

decode_escapes : (bytes rest : List ℕ) → All IsByte bytes
    → percent_decode (escapes bytes ++ rest) ≡ bytes ++ percent_decode rest
decode_escapes [] rest small = refl
decode_escapes (b ∷ bytes) rest small =
    ap percent_decode (append_assoc (percent_encode_byte b) (escapes bytes) rest)
    ∙ percent_decode-percent_encode_byte b (escapes bytes ++ rest) (All-head IsByte b bytes small)
    ∙ ap (λ l. b ∷ l) (decode_escapes bytes rest (All-tail IsByte b bytes small))

small_unprintable : (c : ℕ) → is_unprintable c ≡ true → c ≤ 0x2069
small_unprintable c e = grind (arith, nat_tests)

one_byte : (n : ℕ) (bytes : List ℕ) → n < 256 → All IsByte bytes → All IsByte (n ∷ bytes)
one_byte n bytes small h = All-cons IsByte n bytes small h

abbrev last : ℕ → List ℕ
last c = (128 + c % 64) ∷ []

abbrev last_two : ℕ → List ℕ
last_two c = (128 + c / 64 % 64) ∷ last c

abbrev last_three : ℕ → List ℕ
last_three c = (128 + c / 4096 % 64) ∷ last_two c

small_bytes : (c : ℕ) → c ≤ 0x2069 → All IsByte (encode_utf8 c)
unfolding encode_utf8
small_bytes c small =
    let one : All IsByte (last c) = one_byte (128 + c % 64) [] (omega arith) (All-nil IsByte) in
    let two : All IsByte (last_two c) = one_byte (128 + c / 64 % 64) (last c) (omega arith) one in
    let three : All IsByte (last_three c) = one_byte (128 + c / 4096 % 64) (last_two c) (omega arith) two in
    cond_both (ltb c 128) _ _ (All IsByte) (λ e. one_byte c [] (grind (arith, nat_tests)) (All-nil IsByte))
    (λ _. cond_both (ltb c 2048) _ _ (All IsByte)
    (λ e. one_byte (192 + c / 64) (last c) (grind (arith, nat_tests)) one)
    (λ _. cond_both (ltb c 65536) _ _ (All IsByte) (λ _. one_byte (224 + c / 4096) (last_two c) (omega arith) two)
    (λ _. one_byte (240 + c / 262144) (last_three c) (omega arith) three)))

-- bytes of which none is `%` stay
abbrev IsOther : ℕ → Type 0
IsOther b = b ≡ 37 → ⊥

decode_kept : (bytes rest : List ℕ) → All IsOther bytes
    → percent_decode (bytes ++ rest) ≡ bytes ++ percent_decode rest
decode_kept [] rest h = refl
decode_kept (b ∷ bytes) rest h =
    percent_decode_not_percent b (bytes ++ rest) (All-head IsOther b bytes h)
    ∙ ap (λ l. b ∷ l) (decode_kept bytes rest (All-tail IsOther b bytes h))

one_other : (n : ℕ) (bytes : List ℕ) → 37 < n → All IsOther bytes → All IsOther (n ∷ bytes)
one_other n bytes large h = All-cons IsOther n bytes (λ e. omega (arith, e)) h

other_bytes : (c : ℕ) → IsOther c → All IsOther (encode_utf8 c)
unfolding encode_utf8
other_bytes c other =
    let one : All IsOther (last c) = one_other (128 + c % 64) [] (omega arith) (All-nil IsOther) in
    let two : All IsOther (last_two c) = one_other (128 + c / 64 % 64) (last c) (omega arith) one in
    let three : All IsOther (last_three c) = one_other (128 + c / 4096 % 64) (last_two c) (omega arith) two in
    cond_both (ltb c 128) _ _ (All IsOther) (λ _. All-cons IsOther c [] other (All-nil IsOther))
    (λ _. cond_both (ltb c 2048) _ _ (All IsOther) (λ _. one_other (192 + c / 64) (last c) (omega arith) one)
    (λ _. cond_both (ltb c 65536) _ _ (All IsOther) (λ _. one_other (224 + c / 4096) (last_two c) (omega arith) two)
    (λ _. one_other (240 + c / 262144) (last_three c) (omega arith) three)))

not_percent : (c : ℕ) → (c == percent_sign) ≡ false → c ≡ 37 → ⊥
not_percent c e same = cc (sym (ap (λ n. n == percent_sign) same) ∙ e)

character_decoded : (c : ℕ) (rest : List ℕ) → (c == percent_sign) ≡ false
    → percent_decode (encode_utf8_all (printable_character c) ++ rest) ≡ encode_utf8 c ++ percent_decode rest
character_decoded c rest other = ⊎_elim
    (λ e. ap (λ l. percent_decode (encode_utf8_all l ++ rest)) (escaped_character c e)
    ∙ ap (λ l. percent_decode (l ++ rest)) (encodes-IsAscii (escapes (encode_utf8 c)) (ascii_escapes (encode_utf8 c)))
    ∙ decode_escapes (encode_utf8 c) rest (small_bytes c (small_unprintable c e)))
    (λ e. ap (λ l. percent_decode (encode_utf8_all l ++ rest)) (kept_character c e)
    ∙ ap (λ l. percent_decode (l ++ rest)) (append-nil (encode_utf8 c))
    ∙ decode_kept (encode_utf8 c) rest (other_bytes c (not_percent c other)))
    (cases_Bool (is_unprintable c))

pub printable_decoded : (target : List ℕ) → list_any (λ c. c == percent_sign) target ≡ false
    → percent_decode (encode_utf8_all (printable target)) ≡ encode_utf8_all target
printable_decoded [] e = percent_decode-nil
printable_decoded (c ∷ target) e =
    ap percent_decode (encodes-append (printable_character c) (printable target))
    ∙ character_decoded c (encode_utf8_all (printable target)) (first_of (c == percent_sign) _ e)
    ∙ ap (λ l. encode_utf8 c ++ l) (printable_decoded target (second_of (c == percent_sign) _ e))

pub printable_injective : (one other : List ℕ) → list_any (λ c. c == percent_sign) one ≡ false
    → list_any (λ c. c == percent_sign) other ≡ false → printable one ≡ printable other → one ≡ other
printable_injective one other e f same = encodes_same one other (sym (printable_decoded one e)
    ∙ ap (λ l. percent_decode (encode_utf8_all l)) same ∙ printable_decoded other f)

-- ---- escapes pushed one after another

next_escape : (bytes : List ℕ) (i : ℕ) → i < length bytes
    → escapes (take (i + 1) bytes) ≡ escapes (take i bytes) ++ percent_encode_byte (get_or bytes i 0)
next_escape bytes i inside = ap escapes (take_more bytes i 0 inside)
    ∙ flat_map-append percent_encode_byte (take i bytes) (get_or bytes i 0 ∷ [])
    ∙ ap (λ l. escapes (take i bytes) ++ l) (append-nil (percent_encode_byte (get_or bytes i 0)))

escape_ascii : (b : ℕ) → IsAscii (percent_encode_byte b)
escape_ascii b = IsAscii-from_all _ (All-weaker IsEscapeByte (λ b. b < 128) is_ascii_escape (percent_encode_byte b)
    (All-percent_encode_byte b))

pub pushed_escape : (front old new bytes : List ℕ) (i : ℕ) → i < length bytes → IsUtf8 old
    → new ≡ old ++ percent_encode_byte (get_or bytes i 0) → chars old ≡ front ++ escapes (take i bytes)
    → chars new ≡ front ++ escapes (take (i + 1) bytes)
pushed_escape front old new bytes i inside utf8 pushed so_far =
    let one = percent_encode_byte (get_or bytes i 0) in
    ap chars pushed ∙ chars-append old one utf8
    ∙ ap (λ l. chars old ++ l) (chars-IsAscii one (escape_ascii (get_or bytes i 0)))
    ∙ ap (λ l. l ++ one) so_far ∙ append_assoc front (escapes (take i bytes)) one
    ∙ ap (λ l. front ++ l) (sym (next_escape bytes i inside))

-- ---- characters pushed one after another

pub next_printable : (cs ys old new : List ℕ) (y c : ℕ) → (length ys < length cs) × (c ≡ get_or cs (length ys) c)
    → new ≡ old ++ printable_character c → old ≡ printable (take (length ys) cs)
    → new ≡ printable (take (length (ys ++ y ∷ [])) cs)
next_printable cs ys old new y c turn pushed so_far =
    let front = take (length ys) cs in
    let more : take (length (ys ++ y ∷ [])) cs ≡ front ++ c ∷ [] = ap (λ n. take n cs) (length-append ys (y ∷ []))
    ∙ take_more cs (length ys) c turn.0 ∙ ap (λ x. front ++ x ∷ []) (sym turn.1) in
    pushed ∙ ap (λ l. l ++ printable_character c) so_far
    ∙ ap (λ l. printable front ++ l) (sym (append-nil (printable_character c)))
    ∙ sym (flat_map-append printable_character front (c ∷ [])) ∙ ap printable (sym more)

pub all_printable : (cs ys new : List ℕ) → length ys ≡ length cs → new ≡ printable (take (length ys) cs)
    → new ≡ printable cs
all_printable cs ys new whole so_far = so_far ∙ ap printable (all_taken cs ys whole)

-- ---- targets one after another

pub shown_next : (old new its rest : List (String Global)) (target text : String Global) (all : List (List ℕ))
    → new ≡ old ++ text ∷ [] → its ≡ target ∷ rest
    → chars (string_bytes text) ≡ printable (chars (string_bytes target))
    → names old ++ map printable (names its) ≡ all → names new ++ map printable (names rest) ≡ all
shown_next old new its rest target text all pushed here is so_far =
    let later = map printable (names rest) in
    ap (λ l. names l ++ later) pushed
    ∙ ap (λ l. l ++ later) (map-append (λ (s : String Global). chars (string_bytes s)) old (text ∷ []))
    ∙ append_assoc (names old) (chars (string_bytes text) ∷ []) later
    ∙ ap (λ x. names old ++ x ∷ later) is ∙ ap (λ l. names old ++ map printable (names l)) (sym here) ∙ so_far

pub shown_all : (front all : List (List ℕ)) (its : List (String Global)) → length its ≡ 0
    → front ++ map printable (names its) ≡ all → front ≡ all
shown_all front all [] none h = sym (append-nil front) ∙ h
shown_all front all (x ∷ its) none h = absurd (omega (arith, none))

-- there are some where there are targets
pub shown_filled : (prints : Bool) (targets : List (List ℕ)) → is_filled (shown_targets prints targets) ≡ is_filled
    targets
shown_filled false targets = refl
shown_filled true [] = refl
shown_filled true (target ∷ targets) = refl
