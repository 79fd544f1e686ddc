-- The table of well-formed sequences beside `decoded`: which row a first byte leads, and what the first part of
-- some bytes is.
use Rattle.std.proofs.Common.{◌≡◌, ◌+◌, ◌<◌, ◌≤◌, ◌&&◌, ◌||◌, [], ◌∷◌, ◌++◌, ◌⊎◌, ⊎_elim, ◌∙◌, Bool, List, None, Some}
use Rattle.std.proofs.Common.{ap, arith, drop, false, inl, inr, length, map, max, nat_le, nat_lt, refl, slice_index}
use Rattle.std.proofs.Common.{subst, suc, sym, take, true, ℕ}
use Rattle.std.specs.Prelude.{◌==◌, if◌then◌else◌}
use Rattle.std.specs.List.{list_any}
use Rattle.std.proofs.lemmas.Bool.{and_from, and_left, and_parts, and_right, cases_Bool, cases_eq, cases_lt, cond-false}
use Rattle.std.proofs.lemmas.Bool.{cond-true, le-leb, lt-leb}
use Rattle.std.proofs.lemmas.Bool.Decides.{nat_tests}
use Rattle.std.proofs.lemmas.List.Folds.{list_any-append}
use Rattle.bstr.specs.Utf8.{Decoded, decoded, good, bad, or_replacement, second, continues}
use Rattle.bstr.proofs.lemmas.PieceLemmas.{value-1, value-10, value-11, value-12, value-2, value-3, value-4, value-5}
use Rattle.bstr.proofs.lemmas.PieceLemmas.{value-6, value-7, value-8, value-9}
use Rattle.page_decoding.specs.ReplacedText.{ByteRange, begins_with_row, code_point, continuation, fitting, greatest}
use Rattle.page_decoding.specs.ReplacedText.{is_beginning, is_in, part_character, part_length, replacement, table, to}

-- ---- the row that a byte leads

-- the byte leads none of these rows
abbrev pub Misses : ℕ → List (List ByteRange) → Type 0
Misses b [] = Unit {0}
Misses b ([] ∷ rows) = ⊥
Misses b ((lead ∷ row) ∷ rows) = (is_in lead b ≡ false) × Misses b rows

-- the rows are led by bytes below a number, and by bytes above it
abbrev pub ends_below : ℕ → List (List ByteRange) → Bool
ends_below n [] = true
ends_below n ([] ∷ rows) = false
ends_below n ((lead ∷ row) ∷ rows) = nat_lt lead.high n && ends_below n rows

abbrev pub starts_above : ℕ → List (List ByteRange) → Bool
starts_above n [] = true
starts_above n ([] ∷ rows) = false
starts_above n ((lead ∷ row) ∷ rows) = nat_lt n lead.low && starts_above n rows

misses-below : (b n : ℕ) (rows : List (List ByteRange)) → n ≤ b → ends_below n rows ≡ true → Misses b rows
misses-below b n [] le is = tt
misses-below b n ([] ∷ rows) le is = absurd cc
misses-below b n ((lead ∷ row) ∷ rows) le is =
    let both = and_parts (nat_lt lead.high n) (ends_below n rows) is in
    let under : lead.high < n = grind (arith, nat_tests, both.0) in (
      and_right (nat_le lead.low b) (nat_le b lead.high) (lt-leb b lead.high (omega arith)),
      misses-below b n rows le both.1,
    )

misses-above : (b n : ℕ) (rows : List (List ByteRange)) → b ≤ n → starts_above n rows ≡ true → Misses b rows
misses-above b n [] le is = tt
misses-above b n ([] ∷ rows) le is = absurd cc
misses-above b n ((lead ∷ row) ∷ rows) le is =
    let both = and_parts (nat_lt n lead.low) (starts_above n rows) is in
    let over : n < lead.low = grind (arith, nat_tests, both.0) in (
      and_left (nat_le lead.low b) (nat_le b lead.high) (lt-leb lead.low b (omega arith)),
      misses-above b n rows le both.1,
    )

misses-append : (b : ℕ) (xs ys : List (List ByteRange)) → Misses b xs → Misses b ys → Misses b (xs ++ ys)
misses-append b [] ys hx hy = hy
misses-append b ([] ∷ xs) ys hx hy = absurd hx
misses-append b ((lead ∷ row) ∷ xs) ys hx hy = (hx.0, misses-append b xs ys hx.1 hy)

-- the byte leads one row, with these ranges after the first, and no other
pub record RowOf (b : ℕ) (tail : List ByteRange) : Type 0 where
  pub before : List (List ByteRange)
  pub lead : ByteRange
  pub after : List (List ByteRange)
  pub whole : table ≡ before ++ (lead ∷ tail) ∷ after
  pub hit : is_in lead b ≡ true
  pub misses_before : Misses b before
  pub misses_after : Misses b after

row_at : (k low high : ℕ) (tail : List ByteRange) (b : ℕ) →
    table ≡ take k table ++ (to low high ∷ tail) ∷ drop (suc k) table
    → ends_below low (take k table) ≡ true → starts_above high (drop (suc k) table) ≡ true → low ≤ b → b ≤ high →
    RowOf b tail
row_at k low high tail b whole below above at_least at_most = record {
  before = take k table;
  lead = to low high;
  after = drop (suc k) table;
  whole = whole;
  hit = and_from (nat_le low b) (nat_le b high) (le-leb low b at_least) (le-leb b high at_most);
  misses_before = misses-below b low (take k table) at_least below;
  misses_after = misses-above b high (drop (suc k) table) at_most above;
}

-- each byte by the row that it leads, with what `second` says of the byte after it
pub data Class (b : ℕ) : Type 0 where
  no_row : Misses b table → 0x80 ≤ b → (b < 0xC2) ⊎ (0xF4 < b) → Class b
  one_byte : RowOf b [] → b < 0x80 → Class b
  two_bytes : RowOf b (continuation ∷ []) → 0xC2 ≤ b → b < 0xE0 → ((c : ℕ) → second b c ≡ is_in continuation c) →
      Class b
  three_bytes : (range : ByteRange) → RowOf b (range ∷ continuation ∷ []) → 0xE0 ≤ b → b < 0xF0 →
      ((c : ℕ) → second b c ≡ is_in range c) → Class b
  four_bytes : (range : ByteRange) → RowOf b (range ∷ continuation ∷ continuation ∷ []) → 0xF0 ≤ b → b ≤ 0xF4
      → ((c : ℕ) → second b c ≡ is_in range c) → Class b

-- a term of the type given
abbrev by : (A : Type 0) → A → A
by A a = a

-- a byte from one to another, both included, by a bound that is not
up_to : (low high c : ℕ) → (nat_le low c && nat_lt c (suc high)) ≡ is_in (to low high) c
up_to low high c = ap (λ t. nat_le low c && t) (by (nat_lt c (suc high) ≡ nat_le c high) (grind (arith, nat_tests)))

second-plain : (b c : ℕ) → b == 0xE0 ≡ false → b == 0xED ≡ false → b == 0xF0 ≡ false → b == 0xF4 ≡ false →
    second b c ≡ is_in continuation c
second-plain b c e0 ed f0 f4 =
    cond-false _ _ _ e0 ∙ cond-false _ _ _ ed ∙ cond-false _ _ _ f0 ∙ cond-false _ _ _ f4 ∙ up_to 0x80 0xBF c

plain : (b : ℕ) → (b ≡ 0xE0 → ⊥) → (b ≡ 0xED → ⊥) → (b ≡ 0xF0 → ⊥) → (b ≡ 0xF4 → ⊥) → (c : ℕ) →
    second b c ≡ is_in continuation c
plain b e0 ed f0 f4 c =
    second-plain b c (grind (arith, nat_tests)) (grind (arith, nat_tests)) (grind (arith, nat_tests))
    (grind (arith, nat_tests))

leads_three : (b : ℕ) → 0xE0 ≤ b → b < 0xF0 → Class b
leads_three b low high =
    ⊎_elim
    (λ e. three_bytes (to 0xA0 0xBF) (row_at 2 0xE0 0xE0 _ b refl refl refl (omega arith) (omega arith)) low high
    (λ c. subst (λ x. second x c ≡ is_in (to 0xA0 0xBF) c) (sym e) (up_to 0xA0 0xBF c)))
    (λ not_e0. ⊎_elim
    (λ e. three_bytes (to 0x80 0x9F) (row_at 4 0xED 0xED _ b refl refl refl (omega arith) (omega arith)) low high
    (λ c. subst (λ x. second x c ≡ is_in (to 0x80 0x9F) c) (sym e) (up_to 0x80 0x9F c)))
    (λ not_ed.
    let usual = plain b not_e0 not_ed (λ e. omega arith) (λ e. omega arith) in
    ⊎_elim
    (λ below. three_bytes continuation (row_at 3 0xE1 0xEC _ b refl refl refl (omega arith) (omega arith)) low high
    usual)
    (λ above. three_bytes continuation (row_at 5 0xEE 0xEF _ b refl refl refl (omega arith) (omega arith)) low high
    usual)
    (cases_lt b 0xED))
    (cases_eq b 0xED))
    (cases_eq b 0xE0)

leads_four : (b : ℕ) → 0xF0 ≤ b → b ≤ 0xF4 → Class b
leads_four b low high =
    ⊎_elim
    (λ e. four_bytes (to 0x90 0xBF) (row_at 6 0xF0 0xF0 _ b refl refl refl (omega arith) (omega arith)) low high
    (λ c. subst (λ x. second x c ≡ is_in (to 0x90 0xBF) c) (sym e) (up_to 0x90 0xBF c)))
    (λ not_f0. ⊎_elim
    (λ e. four_bytes (to 0x80 0x8F) (row_at 8 0xF4 0xF4 _ b refl refl refl (omega arith) (omega arith)) low high
    (λ c. subst (λ x. second x c ≡ is_in (to 0x80 0x8F) c) (sym e) (up_to 0x80 0x8F c)))
    (λ not_f4. four_bytes continuation (row_at 7 0xF1 0xF3 _ b refl refl refl (omega arith) (omega arith)) low high
    (plain b (λ e. omega arith) (λ e. omega arith) not_f0 not_f4))
    (cases_eq b 0xF4))
    (cases_eq b 0xF0)

pub class_of : (b : ℕ) → Class b
class_of b =
    ⊎_elim
    (λ ascii. one_byte (row_at 0 0x00 0x7F _ b refl refl refl (omega arith) (omega arith)) ascii)
    (λ past. ⊎_elim
    (λ low. no_row (misses-append b (take 1 table) (drop 1 table) (misses-below b 0x80 (take 1 table) past refl)
    (misses-above b 0xC1 (drop 1 table) (omega arith) refl)) past (inl low))
    (λ lead. ⊎_elim
    (λ two. two_bytes (row_at 1 0xC2 0xDF _ b refl refl refl (omega arith) (omega arith)) lead two
    (plain b (λ e. omega arith) (λ e. omega arith) (λ e. omega arith) (λ e. omega arith)))
    (λ wide. ⊎_elim
    (λ three. leads_three b wide three)
    (λ wider. ⊎_elim
    (λ past_all. no_row (misses-below b 0xF5 table past_all refl) past (inr past_all))
    (λ four. leads_four b wider four)
    (cases_lt 0xF4 b))
    (cases_lt b 0xF0))
    (cases_lt b 0xE0))
    (cases_lt b 0xC2))
    (cases_lt b 0x80)

-- ---- what the table gives by that row

greatest-append : (f : List ByteRange → ℕ) (xs ys : List (List ByteRange)) → greatest (map f (xs ++ ys))
    ≡ max (greatest (map f xs)) (greatest (map f ys))
greatest-append f [] ys = omega arith
greatest-append f (x ∷ xs) ys = let later = greatest-append f xs ys in omega arith

greatest-misses : (b : ℕ) (rest : List ℕ) (rows : List (List ByteRange)) → Misses b rows →
    greatest (map (λ row. fitting row (b ∷ rest)) rows) ≡ 0
greatest-misses b rest [] h = refl
greatest-misses b rest ([] ∷ rows) h = absurd h
greatest-misses b rest ((lead ∷ row) ∷ rows) h =
    let first : fitting (lead ∷ row) (b ∷ rest) ≡ 0 = cond-false _ _ _ h.0 in
    let later = greatest-misses b rest rows h.1 in
    omega arith

pub any-misses : (f : List ByteRange → Bool) (b : ℕ) (rest : List ℕ) (rows : List (List ByteRange))
    → ((lead : ByteRange) (row : List ByteRange) → fitting (lead ∷ row) (b ∷ rest) ≡ 0 → f (lead ∷ row) ≡ false) →
    Misses b rows → list_any f rows ≡ false
any-misses f b rest [] wrong h = refl
any-misses f b rest ([] ∷ rows) wrong h = absurd h
any-misses f b rest ((lead ∷ row) ∷ rows) wrong h =
    rw (wrong lead row (cond-false _ _ _ h.0)) (any-misses f b rest rows wrong h.1)

or_false : (t : Bool) → (t || false) ≡ t
or_false true = refl
or_false false = refl

any-row : (f : List ByteRange → Bool) (b : ℕ) (rest : List ℕ) (tail : List ByteRange) (r : RowOf b tail)
    → ((lead : ByteRange) (row : List ByteRange) → fitting (lead ∷ row) (b ∷ rest) ≡ 0 → f (lead ∷ row) ≡ false) →
    list_any f table ≡ f (r.lead ∷ tail)
any-row f b rest tail r wrong =
    ap (list_any f) r.whole ∙ list_any-append f r.before ((r.lead ∷ tail) ∷ r.after)
    ∙ ap (λ t. t || (f (r.lead ∷ tail) || list_any f r.after)) (any-misses f b rest r.before wrong r.misses_before)
    ∙ ap (λ t. f (r.lead ∷ tail) || t) (any-misses f b rest r.after wrong r.misses_after)
    ∙ or_false (f (r.lead ∷ tail))

pub part_length-row : (b : ℕ) (rest : List ℕ) (tail : List ByteRange) → RowOf b tail →
    part_length (b ∷ rest) ≡ 1 + fitting tail rest
part_length-row b rest tail r =
    let f : List ByteRange → ℕ = λ row. fitting row (b ∷ rest) in
    let here : f (r.lead ∷ tail) ≡ 1 + fitting tail rest = cond-true _ _ _ r.hit in
    let earlier = greatest-misses b rest r.before r.misses_before in
    let later = greatest-misses b rest r.after r.misses_after in
    let all : greatest (map f table)
    ≡ max (greatest (map f r.before)) (max (f (r.lead ∷ tail)) (greatest (map f r.after))) =
    ap (λ rows. greatest (map f rows)) r.whole ∙ greatest-append f r.before ((r.lead ∷ tail) ∷ r.after) in
    let longest : greatest (map f table) ≡ 1 + fitting tail rest = omega (arith, here, earlier, later, all) in
    ap (max 1) longest ∙ (omega arith)

pub begins-row : (b : ℕ) (rest : List ℕ) (tail : List ByteRange) → RowOf b tail →
    list_any (begins_with_row (b ∷ rest)) table ≡ (fitting tail rest == length tail)
begins-row b rest tail r =
    any-row (begins_with_row (b ∷ rest)) b rest tail r
    (λ lead row none. ap (λ n. n == suc (length row)) none ∙ by ((0 == suc (length row)) ≡ false)
    (grind (arith, nat_tests)))
    ∙ ap (λ n. n == suc (length tail)) (cond-true _ _ _ r.hit)
    ∙ by (((1 + fitting tail rest) == suc (length tail)) ≡ (fitting tail rest == length tail))
    (grind (arith, nat_tests))

pub beginning-row : (b : ℕ) (rest : List ℕ) (tail : List ByteRange) → RowOf b tail
    → list_any (is_beginning (b ∷ rest)) table
    ≡ ((fitting tail rest == length rest) && nat_le (length rest + 1) (length tail))
beginning-row b rest tail r =
    any-row (is_beginning (b ∷ rest)) b rest tail r
    (λ lead row none.
    and_left _ _ (ap (λ n. n == suc (length rest)) none ∙ by ((0 == suc (length rest)) ≡ false)
    (grind (arith, nat_tests))))
    ∙ ap (λ n. (n == suc (length rest)) && nat_le (suc (length rest) + 1) (suc (length tail))) (cond-true _ _ _ r.hit)
    ∙ ap (λ t. t && nat_le (suc (length rest) + 1) (suc (length tail)))
    (by (((1 + fitting tail rest) == suc (length rest)) ≡ (fitting tail rest == length rest))
    (grind (arith, nat_tests)))
    ∙ ap (λ t. (fitting tail rest == length rest) && t)
    (by (nat_le (suc (length rest) + 1) (suc (length tail)) ≡ nat_le (length rest + 1) (length tail))
    (grind (arith, nat_tests)))

-- ---- the first part

-- the bytes begin with a well-formed sequence
abbrev pub begins : List ℕ → Bool
begins bs = list_any (begins_with_row bs) table

-- the first part of the bytes is what `decoded` reads
abbrev pub PartIs : List ℕ → Decoded → Type 0
PartIs bs d = (part_length bs ≡ d.size) × ((if begins bs then Some (code_point (take (part_length bs) bs))
    else None) ≡ d.char)

part_character-or : (t : Bool) (c : ℕ) → (if t then c else replacement) ≡ or_replacement (if t then Some c else None)
part_character-or true c = refl
part_character-or false c = refl

pub part_character-PartIs : (bs : List ℕ) (d : Decoded) → PartIs bs d → part_character bs ≡ or_replacement d.char
part_character-PartIs bs d h =
    part_character-or (begins bs) (code_point (take (part_length bs) bs)) ∙ ap or_replacement h.1

pub ill : (b : ℕ) (rest : List ℕ) (tail : List ByteRange) (n : ℕ) → RowOf b tail → fitting tail rest ≡ n →
    (n == length tail) ≡ false → PartIs (b ∷ rest) (bad (1 + n))
ill b rest tail n r fits short = (
  part_length-row b rest tail r ∙ ap (λ k. 1 + k) fits,
  cond-false _ _ _ (begins-row b rest tail r ∙ ap (λ k. k == length tail) fits ∙ short),
)

well : (b : ℕ) (rest : List ℕ) (tail : List ByteRange) (n c : ℕ) → RowOf b tail → fitting tail rest ≡ n →
    (n == length tail) ≡ true
    → code_point (take (1 + n) (b ∷ rest)) ≡ c → PartIs (b ∷ rest) (good c (1 + n))
well b rest tail n c r fits all code =
    let size = part_length-row b rest tail r ∙ ap (λ k. 1 + k) fits in (
      size,
      cond-true _ _ _ (begins-row b rest tail r ∙ ap (λ k. k == length tail) fits ∙ all) ∙
          ap (λ k. Some (code_point (take k (b ∷ rest)))) size ∙ ap Some code,
    )

fitting-hit : (range : ByteRange) (row : List ByteRange) (c : ℕ) (rest : List ℕ) (n : ℕ) → is_in range c ≡ true →
    fitting row rest ≡ n
    → fitting (range ∷ row) (c ∷ rest) ≡ 1 + n
fitting-hit range row c rest n hit fits = cond-true _ _ _ hit ∙ ap (λ k. 1 + k) fits

fitting-miss : (range : ByteRange) (row : List ByteRange) (c : ℕ) (rest : List ℕ) → is_in range c ≡ false →
    fitting (range ∷ row) (c ∷ rest) ≡ 0
fitting-miss range row c rest miss = cond-false _ _ _ miss

-- a further byte, by the two words for it
continues-is : (c : ℕ) → continues c ≡ is_in continuation c
continues-is c = up_to 0x80 0xBF c

part-two : (b : ℕ) (rest : List ℕ) → RowOf b (continuation ∷ []) → 0xC2 ≤ b → b < 0xE0 →
    ((c : ℕ) → second b c ≡ is_in continuation c)
    → PartIs (b ∷ rest) (decoded (b ∷ rest))
part-two b [] r low high sec =
    subst (PartIs (b ∷ [])) (sym (value-4 1 b 0 0 0 (omega arith, low, omega arith, omega arith)))
    (ill b [] _ 0 r refl refl)
part-two b (c ∷ rest) r low high sec =
    let bs = b ∷ c ∷ rest in
    ⊎_elim
    (λ hit. subst (PartIs bs)
    (sym (value-6 (length bs) b c (slice_index bs 2) (slice_index bs 3) (omega arith, low, high, sec c ∙ hit)))
    (well b (c ∷ rest) _ 1 _ r (fitting-hit continuation [] c rest 0 hit refl) refl refl))
    (λ miss. subst (PartIs bs)
    (sym (value-5 (length bs) b c (slice_index bs 2) (slice_index bs 3) (
      omega arith,
      low,
      omega arith,
      sec c ∙ miss,
    )))
    (ill b (c ∷ rest) _ 0 r (fitting-miss continuation [] c rest miss) refl))
    (cases_Bool (is_in continuation c))

part-three : (b : ℕ) (rest : List ℕ) (range : ByteRange) → RowOf b (range ∷ continuation ∷ []) → 0xE0 ≤ b → b < 0xF0
    → ((c : ℕ) → second b c ≡ is_in range c) → PartIs (b ∷ rest) (decoded (b ∷ rest))
part-three b [] range r low high sec =
    subst (PartIs (b ∷ [])) (sym (value-4 1 b 0 0 0 (omega arith, omega arith, omega arith, omega arith)))
    (ill b [] _ 0 r refl refl)
part-three b (c ∷ []) range r low high sec =
    ⊎_elim
    (λ hit. subst (PartIs (b ∷ c ∷ []))
    (sym (value-7 2 b c 0 0 (omega arith, low, omega arith, sec c ∙ hit, omega arith)))
    (ill b (c ∷ []) _ 1 r (fitting-hit range (continuation ∷ []) c [] 0 hit refl) refl))
    (λ miss. subst (PartIs (b ∷ c ∷ [])) (sym (value-5 2 b c 0 0 (omega arith, omega arith, omega arith, sec c ∙ miss)))
    (ill b (c ∷ []) _ 0 r (fitting-miss range (continuation ∷ []) c [] miss) refl))
    (cases_Bool (is_in range c))
part-three b (c ∷ d ∷ rest) range r low high sec =
    let bs = b ∷ c ∷ d ∷ rest in
    ⊎_elim
    (λ hit. ⊎_elim
    (λ third.
    subst (PartIs bs)
    (sym (value-9 (length bs) b c d (slice_index bs 3) (
      omega arith,
      low,
      high,
      sec c ∙ hit,
      continues-is d ∙ third,
    )))
    (well b (c ∷ d ∷ rest) _ 2 _ r (fitting-hit range (continuation ∷ []) c (d ∷ rest) 1 hit
    (fitting-hit continuation [] d rest 0 third refl)) refl refl))
    (λ wrong.
    subst (PartIs bs)
    (sym (value-8 (length bs) b c d (slice_index bs 3) (
      omega arith,
      low,
      omega arith,
      sec c ∙ hit,
      continues-is d ∙ wrong,
    )))
    (ill b (c ∷ d ∷ rest) _ 1 r (fitting-hit range (continuation ∷ []) c (d ∷ rest) 0 hit
    (fitting-miss continuation [] d rest wrong)) refl))
    (cases_Bool (is_in continuation d)))
    (λ miss. subst (PartIs bs)
    (sym (value-5 (length bs) b c d (slice_index bs 3) (omega arith, omega arith, omega arith, sec c ∙ miss)))
    (ill b (c ∷ d ∷ rest) _ 0 r (fitting-miss range (continuation ∷ []) c (d ∷ rest) miss) refl))
    (cases_Bool (is_in range c))

-- after a second byte that fits, of four
part-four-more : (b c : ℕ) (rest : List ℕ) (range : ByteRange) → RowOf b (range ∷ continuation ∷ continuation ∷ []) →
    0xF0 ≤ b → b ≤ 0xF4
    → second b c ≡ true → is_in range c ≡ true → PartIs (b ∷ c ∷ rest) (decoded (b ∷ c ∷ rest))
part-four-more b c [] range r low high sec hit =
    subst (PartIs (b ∷ c ∷ [])) (sym (value-7 2 b c 0 0 (omega arith, omega arith, high, sec, omega arith)))
    (ill b (c ∷ []) _ 1 r (fitting-hit range (continuation ∷ continuation ∷ []) c [] 0 hit refl) refl)
part-four-more b c (d ∷ []) range r low high sec hit =
    let bs = b ∷ c ∷ d ∷ [] in
    ⊎_elim
    (λ third.
    subst (PartIs bs) (sym (value-10 3 b c d 0 (omega arith, low, high, sec, continues-is d ∙ third, omega arith)))
    (ill b (c ∷ d ∷ []) _ 2 r (fitting-hit range (continuation ∷ continuation ∷ []) c (d ∷ []) 1 hit
    (fitting-hit continuation (continuation ∷ []) d [] 0 third refl)) refl))
    (λ wrong. subst (PartIs bs) (sym (value-8 3 b c d 0 (omega arith, omega arith, high, sec, continues-is d ∙ wrong)))
    (ill b (c ∷ d ∷ []) _ 1 r (fitting-hit range (continuation ∷ continuation ∷ []) c (d ∷ []) 0 hit
    (fitting-miss continuation (continuation ∷ []) d [] wrong)) refl))
    (cases_Bool (is_in continuation d))
part-four-more b c (d ∷ e ∷ rest) range r low high sec hit =
    let bs = b ∷ c ∷ d ∷ e ∷ rest in
    ⊎_elim
    (λ third. ⊎_elim
    (λ fourth.
    subst (PartIs bs)
    (sym (value-12 (length bs) b c d e (
      omega arith,
      low,
      high,
      sec,
      continues-is d ∙ third,
      continues-is e ∙ fourth,
    )))
    (well b (c ∷ d ∷ e ∷ rest) _ 3 _ r (fitting-hit range (continuation ∷ continuation ∷ []) c (d ∷ e ∷ rest) 2 hit
    (fitting-hit continuation (continuation ∷ []) d (e ∷ rest) 1 third
    (fitting-hit continuation [] e rest 0 fourth refl))) refl refl))
    (λ wrong.
    subst (PartIs bs)
    (sym (value-11 (length bs) b c d e (
      omega arith,
      low,
      high,
      sec,
      continues-is d ∙ third,
      continues-is e ∙ wrong,
    )))
    (ill b (c ∷ d ∷ e ∷ rest) _ 2 r (fitting-hit range (continuation ∷ continuation ∷ []) c (d ∷ e ∷ rest) 1 hit
    (fitting-hit continuation (continuation ∷ []) d (e ∷ rest) 0 third (fitting-miss continuation [] e rest wrong)))
    refl))
    (cases_Bool (is_in continuation e)))
    (λ wrong.
    subst (PartIs bs)
    (sym (value-8 (length bs) b c d e (omega arith, omega arith, high, sec, continues-is d ∙ wrong)))
    (ill b (c ∷ d ∷ e ∷ rest) _ 1 r (fitting-hit range (continuation ∷ continuation ∷ []) c (d ∷ e ∷ rest) 0 hit
    (fitting-miss continuation (continuation ∷ []) d (e ∷ rest) wrong)) refl))
    (cases_Bool (is_in continuation d))

part-four : (b : ℕ) (rest : List ℕ) (range : ByteRange) → RowOf b (range ∷ continuation ∷ continuation ∷ []) →
    0xF0 ≤ b → b ≤ 0xF4
    → ((c : ℕ) → second b c ≡ is_in range c) → PartIs (b ∷ rest) (decoded (b ∷ rest))
part-four b [] range r low high sec =
    subst (PartIs (b ∷ [])) (sym (value-4 1 b 0 0 0 (omega arith, omega arith, omega arith, omega arith)))
    (ill b [] _ 0 r refl refl)
part-four b (c ∷ rest) range r low high sec =
    let bs = b ∷ c ∷ rest in
    ⊎_elim
    (λ hit. part-four-more b c rest range r low high (sec c ∙ hit) hit)
    (λ miss. subst (PartIs bs)
    (sym (value-5 (length bs) b c (slice_index bs 2) (slice_index bs 3) (
      omega arith,
      omega arith,
      high,
      sec c ∙ miss,
    )))
    (ill b (c ∷ rest) _ 0 r (fitting-miss range (continuation ∷ continuation ∷ []) c rest miss) refl))
    (cases_Bool (is_in range c))

part-one : (b : ℕ) (rest : List ℕ) → RowOf b [] → b < 0x80 → PartIs (b ∷ rest) (decoded (b ∷ rest))
part-one b rest r ascii =
    let bs = b ∷ rest in
    subst (PartIs bs)
    (sym (value-1 (length bs) b (slice_index bs 1) (slice_index bs 2) (slice_index bs 3) (omega arith, ascii)))
    (well b rest _ 0 _ r refl refl refl)

part-none : (b : ℕ) (rest : List ℕ) → Misses b table → 0x80 ≤ b → (b < 0xC2) ⊎ (0xF4 < b) →
    PartIs (b ∷ rest) (decoded (b ∷ rest))
part-none b rest misses past apart =
    let bs = b ∷ rest in
    let longest = greatest-misses b rest table misses in
    let ill_formed : PartIs bs (bad 1) = (
      ap (max 1) longest,
      cond-false _ _ _ (any-misses (begins_with_row bs) b rest table
          (λ lead row none. ap (λ n. n == suc (length row)) none ∙ by ((0 == suc (length row)) ≡ false)
          (grind (arith, nat_tests))) misses),
    ) in
    ⊎_elim
    (λ low. subst (PartIs bs)
    (sym (value-2 (length bs) b (slice_index bs 1) (slice_index bs 2) (slice_index bs 3) (omega arith, past, low)))
    ill_formed)
    (λ high. subst (PartIs bs)
    (sym (value-3 (length bs) b (slice_index bs 1) (slice_index bs 2) (slice_index bs 3) (omega arith, high)))
    ill_formed)
    apart

pub PartIs-decoded : (b : ℕ) (rest : List ℕ) → PartIs (b ∷ rest) (decoded (b ∷ rest))
PartIs-decoded b rest = elim (class_of b) [
  | no_row misses past apart ↦ part-none b rest misses past apart
  | one_byte r ascii ↦ part-one b rest r ascii
  | two_bytes r low high sec ↦ part-two b rest r low high sec
  | three_bytes range r low high sec ↦ part-three b rest range r low high sec
  | four_bytes range r low high sec ↦ part-four b rest range r low high sec
]
