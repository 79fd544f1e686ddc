-- The segments of borders that change, and the columns of what is shown.
use Rattle.std.proofs.Common.{◌≡◌, ◌+◌, ◌-◌, ◌<◌, ◌≤◌, [], ◌∷◌, ◌++◌, if◌then◌else◌, ◌∙◌, Bool, List, ap, arith, drop}
use Rattle.std.proofs.Common.{false, inl, inr, length, map, refl, replicate, suc, sym, take, true, zero, ℕ}
use Rattle.std.specs.Prelude.{◌==◌, ◌||◌, ◌&&◌, nat_le, fold, max, unwrap_or, Some, None}
use Rattle.std.specs.Option.{option_map}
use Rattle.std.proofs.lemmas.Bool.Decides.{nat_tests}
use Rattle.std.proofs.lemmas.List.{length-append, length-replicate, length-take, length-drop}
use Rattle.std.proofs.lemmas.List.Sums.{sum_by-cons}
use Rattle.text_lines.specs.Columns.{width_of, columns_of-one, text_columns, IsOfOneColumn}
use Rattle.text_lines.specs.Tagged.{Item, character, line_columns}
use Rattle.text_pieces.proofs.ItemColumns.{line_columns-append, line_columns-cons}
use Rattle.text_borders.specs.Segments.{Segment, glyph, glyph_of, with_up, with_down, without_left, without_right}
use Rattle.text_borders.specs.Borders.{Border, Hole, change_at, change_to, chop_before, columns_where, glyphs}
use Rattle.text_borders.specs.Borders.{holes_end, horizontal, punched, punched_at, shown, shown_from, stretched}
use Rattle.text_borders.specs.BorderLaws.{segment_at, asks_at, IsChangedWhereAsked, AreInOrder, IsSound}

-- ---- one column

plain_at : (k m : ℕ) → segment_at k (replicate m horizontal) ≡ horizontal
plain_at k zero = refl
plain_at zero (suc m) = refl
plain_at (suc k) (suc m) = plain_at k m

after_at : (k m : ℕ) (ss : List Segment) → segment_at k (ss ++ replicate m horizontal) ≡ segment_at k ss
after_at k m [] = plain_at k m
after_at zero m (s ∷ ss) = refl
after_at (suc k) m (s ∷ ss) = after_at k m ss

here : (f : Segment → Segment) (k : ℕ) (ss : List Segment) → k < length ss
    → segment_at k (change_at f k ss) ≡ f (segment_at k ss)
here f k [] h = absurd (omega (arith, h))
here f zero (s ∷ ss) h = refl
here f (suc k) (s ∷ ss) h = here f k ss (omega (arith, h))

elsewhere : (f : Segment → Segment) (j k : ℕ) (ss : List Segment) → (j ≡ k → ⊥)
    → segment_at j (change_at f k ss) ≡ segment_at j ss
elsewhere f j k [] h = refl
elsewhere f zero zero (s ∷ ss) h = absurd (h refl)
elsewhere f zero (suc k) (s ∷ ss) h = refl
elsewhere f (suc j) zero (s ∷ ss) h = refl
elsewhere f (suc j) (suc k) (s ∷ ss) h = elsewhere f j k ss (λ e. h (ap suc e))

length-change_at : (f : Segment → Segment) (k : ℕ) (ss : List Segment) → length (change_at f k ss) ≡ length ss
length-change_at f k [] = refl
length-change_at f zero (s ∷ ss) = omega arith
length-change_at f (suc k) (s ∷ ss) = let rest = length-change_at f k ss in omega (arith, rest)

pub length-stretched : (n : ℕ) (ss : List Segment) → length (stretched n ss) ≡ max (length ss) n
length-stretched n ss =
    omega (arith, length-append ss (replicate (n - length ss) horizontal), length-replicate (n - length ss) horizontal)

changed_to : (f : Segment → Segment) (ss : List Segment) (j k : ℕ) (same : Bool) → (j == k) ≡ same
    → segment_at j (change_to f ss k) ≡ (if same then f (segment_at j ss) else segment_at j ss)
changed_to f ss j k true e =
    let is : j ≡ k = grind (arith, nat_tests) in
    ap (λ n. segment_at n (change_to f ss k)) is
    ∙ here f k (stretched (k + 1) ss) (omega (arith, length-stretched (k + 1) ss))
    ∙ ap f (after_at k (k + 1 - length ss) ss) ∙ ap (λ n. f (segment_at n ss)) (sym is)
changed_to f ss j k false e =
    elsewhere f j k (stretched (k + 1) ss) (λ is. grind (arith, nat_tests)) ∙ after_at j (k + 1 - length ss) ss

-- ---- many columns

abbrev is_among : ℕ → List ℕ → Bool
is_among j [] = false
is_among j (k ∷ ks) = (j == k) || is_among j ks

changed_among : (f : Segment → Segment) → ((s : Segment) → f (f s) ≡ f s) → (ks : List ℕ) (ss : List Segment) (j : ℕ)
    → segment_at j (fold (change_to f) ss ks) ≡ (if is_among j ks then f (segment_at j ss) else segment_at j ss)
changed_among f once [] ss j = refl
changed_among f once (k ∷ ks) ss j =
    changed_among f once ks (change_to f ss k) j ∙ both (j == k) (is_among j ks) (changed_to f ss j k (j == k) refl)
  where
    both : (same among : Bool)
        → segment_at j (change_to f ss k) ≡ (if same then f (segment_at j ss) else segment_at j ss)
        → (if among then f (segment_at j (change_to f ss k)) else segment_at j (change_to f ss k))
        ≡ (if same || among then f (segment_at j ss) else segment_at j ss)
    both true true e = ap f e ∙ once (segment_at j ss)
    both true false e = e
    both false true e = ap f e
    both false false e = e

is_same : (j k : ℕ) → j ≡ k → (j == k) ≡ true
is_same j k e = grind (arith, nat_tests)

is_after : (j k : ℕ) → k ≤ j → nat_le k j ≡ true
is_after j k h = grind (arith, nat_tests)

is_before : (j k : ℕ) → j < k → nat_le k j ≡ false
is_before j k h = grind (arith, nat_tests)

first_alone : (a x : Bool) → ((a && true) || (false && x)) ≡ a
first_alone true x = refl
first_alone false x = refl

none_here : (a x : Bool) → ((a && false) || x) ≡ x
none_here true x = refl
none_here false x = refl

at_place : (asks : Segment → Bool) (s : Segment) (other : List Segment) (place j : ℕ) → j ≡ place
    → ((asks s && (j == place)) || asks_at asks (place + 1) other j) ≡ asks_at asks place (s ∷ other) j
at_place asks s other place j e =
    let none : j - place ≡ 0 = omega (arith, e) in
    ap (λ b. (asks s && b) || asks_at asks (place + 1) other j) (is_same j place e)
    ∙ ap (λ b. (asks s && true) || (b && asks (segment_at (j - (place + 1)) other)))
    (is_before j (place + 1) (omega (arith, e)))
    ∙ first_alone (asks s) (asks (segment_at (j - (place + 1)) other))
    ∙ sym (ap (λ b. b && asks (segment_at (j - place) (s ∷ other))) (is_after j place (omega (arith, e)))
    ∙ ap (λ n. asks (segment_at n (s ∷ other))) none)

after_place : (asks : Segment → Bool) (s : Segment) (other : List Segment) (place j : ℕ) → place < j
    → (j == place) ≡ false
    → ((asks s && (j == place)) || asks_at asks (place + 1) other j) ≡ asks_at asks place (s ∷ other) j
after_place asks s other place j h e =
    let one : j - place ≡ suc (j - (place + 1)) = omega (arith, h) in
    ap (λ b. (asks s && b) || asks_at asks (place + 1) other j) e
    ∙ none_here (asks s) (asks_at asks (place + 1) other j)
    ∙ ap (λ b. b && asks (segment_at (j - (place + 1)) other)) (is_after j (place + 1) (omega (arith, h)))
    ∙ sym (ap (λ b. b && asks (segment_at (j - place) (s ∷ other))) (is_after j place (omega (arith, h)))
    ∙ ap (λ n. asks (segment_at n (s ∷ other))) one)

before_place : (asks : Segment → Bool) (s : Segment) (other : List Segment) (place j : ℕ) → j < place
    → (j == place) ≡ false
    → ((asks s && (j == place)) || asks_at asks (place + 1) other j) ≡ asks_at asks place (s ∷ other) j
before_place asks s other place j h e =
    ap (λ b. (asks s && b) || asks_at asks (place + 1) other j) e
    ∙ none_here (asks s) (asks_at asks (place + 1) other j)
    ∙ ap (λ b. b && asks (segment_at (j - (place + 1)) other)) (is_before j (place + 1) (omega (arith, h)))
    ∙ sym (ap (λ b. b && asks (segment_at (j - place) (s ∷ other))) (is_before j place h))

asked : (asks : Segment → Bool) → asks horizontal ≡ false → (other : List Segment) (place j : ℕ)
    → is_among j (columns_where asks place other) ≡ asks_at asks place other j
asked asks none [] place j = sym (and_none (nat_le place j) (asks horizontal) none)
  where
    and_none : (a b : Bool) → b ≡ false → (a && b) ≡ false
    and_none true b e = e
    and_none false b e = refl
asked asks none (s ∷ other) place j =
    first (asks s)
    ∙ ap (λ b. (asks s && (j == place)) || b) (asked asks none other (place + 1) j)
    ∙ by_place (j == place) (nat_le place j) refl refl
  where
    first : (t : Bool) → is_among j (if t then place ∷ columns_where asks (place + 1) other
        else columns_where asks (place + 1) other)
        ≡ ((t && (j == place)) || is_among j (columns_where asks (place + 1) other))
    first true = refl
    first false = refl

    by_place : (same trailing : Bool) → (j == place) ≡ same → nat_le place j ≡ trailing
        → ((asks s && (j == place)) || asks_at asks (place + 1) other j) ≡ asks_at asks place (s ∷ other) j
    by_place true trailing e l = at_place asks s other place j (grind (arith, nat_tests))
    by_place false true e l =
        after_place asks s other place j (grind (arith, nat_tests)) e
    by_place false false e l = before_place asks s other place j (grind (arith, nat_tests)) e

pub changed_where_asked : (asks : Segment → Bool) (f : Segment → Segment) → asks horizontal ≡ false
    → ((s : Segment) → f (f s) ≡ f s) → (other : List Segment) (place : ℕ) (old : List Segment)
    → IsChangedWhereAsked asks f place other old (fold (change_to f) old (columns_where asks place other))
changed_where_asked asks f none once other place old k =
    changed_among f once (columns_where asks place other) old k
    ∙ ap (λ b. if b then f (segment_at k old) else segment_at k old) (asked asks none other place k)

pub once_up : (s : Segment) → option_map with_up (option_map with_up s) ≡ option_map with_up s
once_up None = refl
once_up (Some a) = refl

pub once_down : (s : Segment) → option_map with_down (option_map with_down s) ≡ option_map with_down s
once_down None = refl
once_down (Some a) = refl

-- ---- widths

pub length-change_to : (f : Segment → Segment) (ss : List Segment) (k : ℕ) → length (change_to f ss k)
    ≡ max (length ss) (k + 1)
length-change_to f ss k = length-change_at f k (stretched (k + 1) ss) ∙ length-stretched (k + 1) ss

pub merge_keeps : (f : Segment → Segment) (asks : Segment → Bool) (other : List Segment) (place : ℕ)
    (ss : List Segment) → place + length other ≤ length ss
    → length (fold (change_to f) ss (columns_where asks place other)) ≡ length ss
merge_keeps f asks [] place ss h = refl
merge_keeps f asks (s ∷ other) place ss h = by_test (asks s)
    (let n = length-change_to f ss place in
    let wide : place + 1 + length other ≤ length (change_to f ss place) = omega (arith, h, n) in
    merge_keeps f asks other (place + 1) (change_to f ss place) wide ∙ n ∙ omega (arith, h))
    (merge_keeps f asks other (place + 1) ss (omega (arith, h)))
  where
    by_test : (t : Bool)
        → length (fold (change_to f) (change_to f ss place) (columns_where asks (place + 1) other)) ≡ length ss
        → length (fold (change_to f) ss (columns_where asks (place + 1) other)) ≡ length ss
        → length (fold (change_to f) ss (if t then place ∷ columns_where asks (place + 1) other
        else columns_where asks (place + 1) other)) ≡ length ss
    by_test true a b = a
    by_test false a b = b

length-chop_before : (k : ℕ) (ss : List Segment) → length (chop_before k ss) ≡ length ss
length-chop_before k ss = by_first (k == 0)
  where
    by_first : (b : Bool) → length (if b then ss else change_at (option_map without_right) (k - 1) ss) ≡ length ss
    by_first true = refl
    by_first false = length-change_at (option_map without_right) (k - 1) ss

pub length-punched : {S : Type 0} (place : ℕ) (items : List (Item S)) (b : Border S)
    → length (punched_at place items b).segments ≡ max (length b.segments) (place + line_columns items)
length-punched place items b =
    let end = place + line_columns items in
    length-change_at (option_map without_left) end (chop_before place (stretched end b.segments))
    ∙ length-chop_before place (stretched end b.segments) ∙ length-stretched end b.segments

-- ---- the order of texts

in_order_end : {S : Type 0} (at end : ℕ) (holes : List (Hole S)) → AreInOrder at end holes → at ≤ end
in_order_end at end [] h = h
in_order_end at end (x ∷ holes) h =
    let rest = in_order_end (x.place + line_columns x.items) end holes h.1 in omega (arith, h.0, rest)

pub order_wider : {S : Type 0} (at m n : ℕ) (holes : List (Hole S)) → m ≤ n → AreInOrder at m holes
    → AreInOrder at n holes
order_wider at m n [] h o = omega (arith, h, o)
order_wider at m n (x ∷ holes) h o = (o.0, order_wider (x.place + line_columns x.items) m n holes h o.1)

pub order_more : {S : Type 0} (at place : ℕ) (items : List (Item S)) (holes : List (Hole S))
    → AreInOrder at place holes
    → AreInOrder at (place + line_columns items) (holes ++ (record { place = place; items = items }) ∷ [])
order_more at place items [] h = (h, omega arith)
order_more at place items (x ∷ holes) h =
    (h.0, order_more (x.place + line_columns x.items) place items holes h.1)

-- in order, holes end at their last end
order_at_end : {S : Type 0} (at end : ℕ) (holes : List (Hole S)) → AreInOrder at end holes
    → AreInOrder at (holes_end at holes) holes
order_at_end at end [] o = omega arith
order_at_end at end (x ∷ holes) o = (o.0, order_at_end (x.place + line_columns x.items) end holes o.1)

pub ends_within : {S : Type 0} (at end : ℕ) (holes : List (Hole S)) → AreInOrder at end holes
    → holes_end at holes ≤ end
ends_within at end [] o = o
ends_within at end (x ∷ holes) o = ends_within (x.place + line_columns x.items) end holes o.1

pub stands_at : {S : Type 0} (place : ℕ) (items : List (Item S)) (b : Border S) → AreInOrder 0 place b.holes
    → punched place items b ≡ punched_at place items b
stands_at place items b o =
    let ends = ends_within 0 place b.holes o in
    let free : max place (holes_end 0 b.holes) ≡ place = omega (arith, ends) in
    ap (λ k. punched_at k items b) free

pub punched_sound : {S : Type 0} (place : ℕ) (items : List (Item S)) (b : Border S) → IsSound b
    → IsSound (punched place items b)
punched_sound place items b sound =
    let ends = holes_end 0 b.holes in
    let start = max place ends in
    let order = order_wider 0 ends start b.holes (omega arith) (order_at_end 0 (length b.segments) b.holes sound) in
    order_wider 0 (start + line_columns items) (length (punched place items b).segments) (punched place items b).holes
    (omega (arith, length-punched start items b)) (order_more 0 start items b.holes order)

-- ---- what is shown

pub one_column : (c : ℕ) → IsOfOneColumn c → width_of c ≡ 1
unfolding width_of
one_column c h = ap (λ o. unwrap_or o 0) (columns_of-one c h)

glyph_column : (up down left right : Bool) → width_of (glyph up down left right) ≡ 1
glyph_column true true true true = one_column 0x253C (inl refl)
glyph_column true true true false = one_column 0x2524 (inl refl)
glyph_column true true false true = one_column 0x251C (inl refl)
glyph_column true true false false = one_column 0x2502 (inl refl)
glyph_column true false true true = one_column 0x2534 (inl refl)
glyph_column true false true false = one_column 0x2518 (inl refl)
glyph_column true false false true = one_column 0x2514 (inl refl)
glyph_column true false false false = one_column 0x2502 (inl refl)
glyph_column false true true true = one_column 0x252C (inl refl)
glyph_column false true true false = one_column 0x2510 (inl refl)
glyph_column false true false true = one_column 0x250C (inl refl)
glyph_column false true false false = one_column 0x2502 (inl refl)
glyph_column false false true true = one_column 0x2500 (inl refl)
glyph_column false false true false = one_column 0x2500 (inl refl)
glyph_column false false false true = one_column 0x2500 (inl refl)
glyph_column false false false false = one_column 0x20 (inr (omega arith, omega arith))

segment_column : (s : Segment) → width_of (glyph_of s) ≡ 1
segment_column None = one_column 0x2F (inl refl)
segment_column (Some a) = glyph_column a.up a.down a.left a.right

pub glyph_columns : (ss : List Segment) → text_columns (map glyph_of ss) ≡ length ss
glyph_columns [] = refl
glyph_columns (s ∷ ss) = omega (
  arith,
  sum_by-cons width_of (glyph_of s) (map glyph_of ss),
  segment_column s,
  glyph_columns ss,
)

glyphs_columns : {S : Type 0} (tag : S) (ss : List Segment) → line_columns (glyphs tag ss) ≡ length ss
glyphs_columns tag [] = refl
glyphs_columns tag (s ∷ ss) =
    let rest = glyphs_columns tag ss in
    omega (arith, line_columns-cons (character (glyph_of s) tag) (glyphs tag ss), segment_column s, rest)

shown_columns : {S : Type 0} (tag : S) (at end : ℕ) (ss : List Segment) (holes : List (Hole S))
    → AreInOrder at end holes → length ss ≡ end - at → line_columns (shown_from tag at ss holes) ≡ length ss
shown_columns tag at end ss [] o n = glyphs_columns tag ss
shown_columns tag at end ss (h ∷ holes) o n =
    let trailing = h.place + line_columns h.items in
    let within = in_order_end trailing end holes o.1 in
    let rest = drop (trailing - at) ss in
    let left = length-drop (trailing - at) ss in
    let shown_rest = shown_columns tag trailing end rest holes o.1 (omega (arith, left, n, o.0, within)) in
    let front = take (h.place - at) ss in
    omega (
      arith,
      line_columns-append (glyphs tag front) (h.items ++ shown_from tag trailing rest holes),
      line_columns-append h.items (shown_from tag trailing rest holes),
      glyphs_columns tag front,
      length-take (h.place - at) ss,
      left,
      shown_rest,
      n,
      o.0,
      within,
    )

pub border_columns : {S : Type 0} (b : Border S) → IsSound b → line_columns (shown b) ≡ length b.segments
border_columns b sound =
    shown_columns b.tag 0 (length b.segments) b.segments b.holes sound (omega arith)
