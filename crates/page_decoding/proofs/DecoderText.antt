-- The replaced text of bytes, part by part, and what more bytes after them change.
use Rattle.std.proofs.Common.{◌≡◌, ◌+◌, ◌<◌, ◌≤◌, [], ◌∷◌, ◌++◌, ◌⊎◌, ⊎_elim, ◌∙◌, Bool, IsTrue, IsUtf8, List, None}
use Rattle.std.proofs.Common.{Some, ap, arith, chars, drop, false, length, length-append, map, refl, slice_index, suc}
use Rattle.std.proofs.Common.{sym, true, zero, ℕ}
use Rattle.std.specs.Prelude.{◌==◌, if◌then◌else◌}
use Rattle.std.specs.Option.{unwrap_or}
use Rattle.std.specs.Str.Lossy.{utf8_error_len}
use Rattle.std.proofs.lemmas.Bool.{and_from, and_left, and_parts, cases_lt, cond_both, eq-eqb, eqb-false, eqb-true}
use Rattle.std.proofs.lemmas.Bool.{le-leb, leb-true, ne_eqb, true≢false}
use Rattle.std.proofs.lemmas.Bool.Decides.{nat_tests}
use Rattle.std.proofs.lemmas.List.{get_or_append_left, drop-append-le, drop_all}
use Rattle.std.proofs.lemmas.Str.{chars-encodes}
use Rattle.bstr.specs.Utf8.{Decoded, bad, continues, decoded, decoded_by, lossy_chars, or_replacement, pieces_from}
use Rattle.bstr.specs.Utf8.{second}
use Rattle.bstr.proofs.lemmas.PieceLemmas.{by-shape, lossy_chars-nil, lossy_chars-step, piece-bounds, value-11, value-2}
use Rattle.bstr.proofs.lemmas.PieceLemmas.{value-3, value-5, value-8}
use Rattle.bstr.proofs.lemmas.LossyLemmas.{lossy_chars-front, utf8_invalid_len-decoded}
use Rattle.page_decoding.specs.ReplacedText.{ByteRange, fitting, is_beginning, is_in, is_unfinished, part_length}
use Rattle.page_decoding.specs.ReplacedText.{replaced_text, replacement, table, text_of_parts}
use Rattle.page_decoding.proofs.DecoderTable.{Misses, PartIs, PartIs-decoded, RowOf, any-misses, beginning-row, begins}
use Rattle.page_decoding.proofs.DecoderTable.{begins-row, class_of, four_bytes, ill, no_row, one_byte}
use Rattle.page_decoding.proofs.DecoderTable.{part_character-PartIs, part_length-row, three_bytes, two_bytes}

-- a term of the type given
abbrev by : (A : Type 0) → A → A
by A a = a

-- ---- it is what `lossy_chars` reads

text_of_parts-pieces : (most : ℕ) (bs : List ℕ) → text_of_parts most bs
    ≡ map (λ (p : Decoded). or_replacement p.char) (pieces_from most bs)
unfolding text_of_parts pieces_from
text_of_parts-pieces zero bs = refl
text_of_parts-pieces (suc most) [] = refl
text_of_parts-pieces (suc most) (b ∷ rest) =
    let bs = b ∷ rest in
    let part = PartIs-decoded b rest in
    ap (λ c. c ∷ text_of_parts most (drop (part_length bs) bs)) (part_character-PartIs bs (decoded bs) part)
    ∙ ap (λ n. or_replacement (decoded bs).char ∷ text_of_parts most (drop n bs)) part.0
    ∙ ap (λ t. or_replacement (decoded bs).char ∷ t) (text_of_parts-pieces most (drop (decoded bs).size bs))

pub replaced_text-lossy_chars : (bs : List ℕ) → replaced_text bs ≡ lossy_chars bs
unfolding replaced_text
replaced_text-lossy_chars bs = text_of_parts-pieces (length bs) bs

pub replaced_text-nil : replaced_text [] ≡ []
replaced_text-nil = replaced_text-lossy_chars [] ∙ lossy_chars-nil

text_of_parts-nil : (most : ℕ) → text_of_parts most [] ≡ []
unfolding text_of_parts
text_of_parts-nil zero = refl
text_of_parts-nil (suc most) = refl

-- ---- text in front

pub replaced_text-front : (run more : List ℕ) → IsUtf8 run → replaced_text (run ++ more)
    ≡ chars run ++ replaced_text more
replaced_text-front run more h =
    let cs = h.0 in
    let spelled = h.1.1 in
    replaced_text-lossy_chars (run ++ more) ∙ ap (λ t. lossy_chars (t ++ more)) (sym spelled) ∙
    lossy_chars-front cs more h.1.0
    ∙ ap (λ t. t ++ lossy_chars more) (sym (chars-encodes cs h.1.0) ∙ ap chars spelled) ∙
    ap (λ t. chars run ++ t) (sym (replaced_text-lossy_chars more))

-- ---- a fault in front

-- a fault that ends before the bytes do stays when more bytes come
module _ (n m b c d e c' d' e' : ℕ) (longer : n ≤ m) (second_c : 1 < n → c' ≡ c) (third_d : 2 < n →
    d' ≡ d) (fourth_e : 3 < n → e' ≡ e) where
  fault_stays : (decoded_by n b c d e).char ≡ None
      → ((0 < n) × ((n < 2 → 0xC2 ≤ b → b ≤ 0xF4 → ⊥) × (n < 3 → 2 ≤ n → 0xE0 ≤ b → b ≤ 0xF4 → second b c ≡ true → ⊥)
      × (n < 4 → 3 ≤ n → 0xF0 ≤ b → b ≤ 0xF4 → second b c ≡ true → continues d ≡ true → ⊥)))
      → decoded_by m b c' d' e' ≡ decoded_by n b c d e
  fault_stays none ends = by-shape n b c d e
      (λ h. absurd (omega (arith, ends.0)))
      (λ h. let k = ap (λ (q : Decoded). q.char) h.2 in absurd cc)
      (λ h. value-2 m b c' d' e' (omega arith, h.1, h.2) ∙ sym h.3)
      (λ h. value-3 m b c' d' e' (omega arith, h.1) ∙ sym h.2)
      (λ h. absurd (ends.1.0 h.3 h.1 h.2))
      (λ h. value-5 m b c' d' e' (omega arith, h.1, h.2, ap (second b) (second_c (omega arith)) ∙ h.3) ∙ sym h.4)
      (λ h. let k = ap (λ (q : Decoded). q.char) h.4 in absurd cc)
      (λ h. absurd (ends.1.1 h.4 h.0 h.1 h.2 h.3))
      (λ h. value-8 m b c' d' e' (
        omega arith,
        h.1,
        h.2,
        ap (second b) (second_c (omega arith)) ∙ h.3,
        ap continues (third_d (omega arith)) ∙ h.4,
      ) ∙ sym h.5)
      (λ h. let k = ap (λ (q : Decoded). q.char) h.5 in absurd cc)
      (λ h. absurd (ends.1.2 h.5 h.0 h.1 h.2 h.3 h.4))
      (λ h. value-11 m b c' d' e' (
        omega arith,
        h.1,
        h.2,
        ap (second b) (second_c (omega arith)) ∙ h.3,
        ap continues (third_d (omega arith)) ∙ h.4,
        ap continues (fourth_e (omega arith)) ∙ h.5,
      ) ∙ sym h.6)
      (λ h. let k = ap (λ (q : Decoded). q.char) h.6 in absurd cc)

-- the bytes end within a character
ends_empty : (bs : List ℕ) → length bs ≡ 0 → utf8_error_len bs ≡ None
unfolding utf8_error_len
ends_empty bs none = grind (arith, nat_tests)

ends_one : (bs : List ℕ) → length bs < 2 → 0xC2 ≤ slice_index bs 0 → slice_index bs 0 ≤ 0xF4 → utf8_error_len bs ≡ None
unfolding utf8_error_len
ends_one bs short low high = grind (arith, nat_tests)

ends_two : (bs : List ℕ) → length bs < 3 → 2 ≤ length bs → 0xE0 ≤ slice_index bs 0 → slice_index bs 0 ≤ 0xF4
    → second (slice_index bs 0) (slice_index bs 1) ≡ true → utf8_error_len bs ≡ None
unfolding utf8_error_len
ends_two bs short some low high sec = grind (arith, nat_tests)

ends_three : (bs : List ℕ) → length bs < 4 → 3 ≤ length bs → 0xF0 ≤ slice_index bs 0 → slice_index bs 0 ≤ 0xF4
    → second (slice_index bs 0) (slice_index bs 1) ≡ true → continues (slice_index bs 2) ≡ true →
    utf8_error_len bs ≡ None
unfolding utf8_error_len
ends_three bs short some low high sec third = grind (arith, nat_tests)

decoded-more : (bs more : List ℕ) (n : ℕ) → (decoded bs).char ≡ None → utf8_error_len bs ≡ Some n →
    decoded (bs ++ more) ≡ decoded bs
decoded-more bs more n none fault =
    let goes_on : (utf8_error_len bs ≡ None) → ⊥ = λ e. cc in
    let some : 0 < length bs =
    ⊎_elim (λ (p : 0 < length bs). p) (λ (z : length bs ≤ 0). absurd (goes_on (ends_empty bs (omega arith))))
    (cases_lt 0 (length bs)) in
    let byte : (k : ℕ) → k < length bs → slice_index (bs ++ more) k ≡ slice_index bs k =
    λ k below. get_or_append_left bs more 0 k below in
    let c' = slice_index (bs ++ more) 1 in
    let d' = slice_index (bs ++ more) 2 in
    let e' = slice_index (bs ++ more) 3 in
    ap (λ b. decoded_by (length (bs ++ more)) b c' d' e') (byte 0 some)
    ∙ fault_stays (length bs) (length (bs ++ more)) (slice_index bs 0) (slice_index bs 1) (slice_index bs 2)
    (slice_index bs 3) c' d' e'
    (omega (arith, length-append bs more)) (byte 1) (byte 2) (byte 3) none (
      some,
      (
        λ short low high. goes_on (ends_one bs short low high),
        λ short two low high sec. goes_on (ends_two bs short two low high sec),
        λ short three low high sec third. goes_on (ends_three bs short three low high sec third),
      ),
    )

pub replaced_text-fault : (bs more : List ℕ) (n : ℕ) → (decoded bs).char ≡ None → utf8_error_len bs ≡ Some n
    → replaced_text (bs ++ more) ≡ replacement ∷ replaced_text (drop n bs ++ more)
replaced_text-fault bs more n none fault =
    let some : 0 < length bs = ⊎_elim (λ (p : 0 < length bs). p)
    (λ (z : length bs ≤ 0). let e = ends_empty bs (omega arith) in absurd cc) (cases_lt 0 (length bs)) in
    let same = decoded-more bs more n none fault in
    let size : n ≡ (decoded bs).size =
    sym (ap (λ o. unwrap_or o (length bs)) fault) ∙ utf8_invalid_len-decoded bs none in
    let within : n ≤ length bs = omega (arith, (piece-bounds bs some).2) in
    replaced_text-lossy_chars (bs ++ more) ∙ lossy_chars-step (bs ++ more) (omega (arith, length-append bs more))
    ∙ ap (λ (p : Decoded). or_replacement p.char ∷ lossy_chars (drop p.size (bs ++ more))) same
    ∙ ap (λ o. or_replacement o ∷ lossy_chars (drop (decoded bs).size (bs ++ more))) none
    ∙ ap (λ k. replacement ∷ lossy_chars (drop k (bs ++ more))) (sym size)
    ∙ ap (λ t. replacement ∷ lossy_chars t) (drop-append-le n bs more within)
    ∙ ap (λ t. replacement ∷ t) (sym (replaced_text-lossy_chars (drop n bs ++ more)))

-- ---- an unfinished character

fitting-le : (row : List ByteRange) (bs : List ℕ) → fitting row bs ≤ length row
fitting-le [] bs = omega arith
fitting-le (range ∷ row) [] = omega arith
fitting-le (range ∷ row) (b ∷ bs) =
    let later =
    fitting-le row bs in cond_both (is_in range b) _ _ (λ n. n ≤ suc (length row)) (λ hit. omega arith)
    (λ miss. omega arith)

begins-none : (t : Bool) (c : ℕ) → (if t then Some c else None) ≡ None → t ≡ false
begins-none true c is = absurd cc
begins-none false c is = refl

-- bytes that end within a character are less than one that more can make whole
module _ (b : ℕ) (rest : List ℕ) (none : (decoded (b ∷ rest)).char ≡ None)
    (ends : utf8_error_len (b ∷ rest) ≡ None) where
  unfinished_row : (tail : List ByteRange) → RowOf b tail → IsTrue (is_unfinished (b ∷ rest))
  unfinished_row tail r =
      let part = PartIs-decoded b rest in
      let whole : length (b ∷ rest) ≡ (decoded (b ∷ rest)).size =
      sym (ap (λ o. unwrap_or o (length (b ∷ rest))) ends) ∙ utf8_invalid_len-decoded (b ∷ rest) none in
      let size = part_length-row b rest tail r in
      let all : fitting tail rest ≡ length rest = omega (arith, part.0, whole, size) in
      let short : begins (b ∷ rest) ≡ false = begins-none (begins (b ∷ rest)) _ (part.1 ∙ none) in
      let differs : fitting tail rest ≡ length tail → ⊥ = eqb-false _ _ (sym (begins-row b rest tail r) ∙ short) in
      let below : length rest + 1 ≤ length tail = omega (arith, fitting-le tail rest, differs, all) in
      beginning-row b rest tail r ∙ and_from _ _ (eq-eqb _ _ all) (le-leb _ _ below)

  unfinished_none : Misses b table → (b < 0xC2) ⊎ (0xF4 < b) → ⊥
  unfolding utf8_error_len
  unfinished_none misses apart =
      let one : utf8_error_len (b ∷ rest) ≡ Some 1 =
      ⊎_elim (λ low. grind (arith, nat_tests)) (λ high. grind (arith, nat_tests)) apart in
      cc

pub unfinished-ends : (bs : List ℕ) → (decoded bs).char ≡ None → utf8_error_len bs ≡ None → IsTrue (is_unfinished bs)
unfinished-ends [] none ends = refl
unfinished-ends (b ∷ rest) none ends = elim (class_of b) [
  | no_row misses past apart ↦ absurd (unfinished_none b rest none ends misses apart)
  | one_byte r ascii ↦ unfinished_row b rest none ends _ r
  | two_bytes r low high sec ↦ unfinished_row b rest none ends _ r
  | three_bytes range r low high sec ↦ unfinished_row b rest none ends _ r
  | four_bytes range r low high sec ↦ unfinished_row b rest none ends _ r
]

-- such bytes stand for one U+FFFD where nothing follows
module _ (b : ℕ) (rest : List ℕ) (ends : IsTrue (is_unfinished (b ∷ rest))) where
  ends_row : (tail : List ByteRange) → RowOf b tail → PartIs (b ∷ rest) (bad (1 + length rest))
  ends_row tail r =
      let both = and_parts _ _ (sym (beginning-row b rest tail r) ∙ ends) in
      let all : fitting tail rest ≡ length rest = eqb-true _ _ both.0 in
      let below : length rest + 1 ≤ length tail = leb-true _ _ both.1 in
      ill b rest tail (length rest) r all (ne_eqb _ _ (λ e. omega arith))

  ends_none : Misses b table → ⊥
  ends_none misses =
      true≢false (sym ends ∙ any-misses (is_beginning (b ∷ rest)) b rest table
      (λ lead row none.
      and_left _ _ (ap (λ n. n == suc (length rest)) none ∙ by ((0 == suc (length rest)) ≡ false)
      (grind (arith, nat_tests)))) misses)

  ends_part : PartIs (b ∷ rest) (bad (1 + length rest))
  ends_part = elim (class_of b) [
    | no_row misses past apart ↦ absurd (ends_none misses)
    | one_byte r ascii ↦ ends_row _ r
    | two_bytes r low high sec ↦ ends_row _ r
    | three_bytes range r low high sec ↦ ends_row _ r
    | four_bytes range r low high sec ↦ ends_row _ r
  ]

pub replaced_text-unfinished : (bs : List ℕ) → IsTrue (is_unfinished bs) → 0 < length bs →
    replaced_text bs ≡ replacement ∷ []
unfolding replaced_text text_of_parts
replaced_text-unfinished [] ends some = absurd (omega arith)
replaced_text-unfinished (b ∷ rest) ends some =
    let part = ends_part b rest ends in
    ap (λ c. c ∷ text_of_parts (length rest) (drop (part_length (b ∷ rest)) (b ∷ rest)))
    (part_character-PartIs (b ∷ rest) (bad (1 + length rest)) part)
    ∙ ap (λ n. replacement ∷ text_of_parts (length rest) (drop n (b ∷ rest))) part.0
    ∙ ap (λ t. replacement ∷ text_of_parts (length rest) t) (drop_all (1 + length rest) (b ∷ rest) (omega arith))
    ∙ ap (λ t. replacement ∷ t) (text_of_parts-nil (length rest))
