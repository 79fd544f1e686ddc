-- Segments of borders, one and many.
use Rattle.std.proofs.Common.{◌≡◌, ◌+◌, ◌-◌, ◌<◌, ◌≤◌, [], ◌∷◌, ◌++◌, ◌∙◌, List, ap, append_assoc, arith, drop, get_or}
use Rattle.std.proofs.Common.{length, map, refl, replicate, suc, sym, take, zero, ℕ}
use Rattle.std.specs.Prelude.{Bool, true, false, ◌==◌, fold, if◌then◌else◌}
use Rattle.std.specs.Str.{chars}
use Rattle.std.specs.Option.{option_map}
use Rattle.std.proofs.lemmas.Bool.Decides.{nat_tests}
use Rattle.std.proofs.Math.ListN.{set}
use Rattle.std.proofs.lemmas.List.{map-append, length-map, length-append, length-replicate}
use Rattle.text_borders.specs.Segments.{Segment, glyph_of, segment_of, without_right}
use Rattle.text_lines.specs.Tagged.{Item, line_columns}
use Rattle.text_borders.specs.Borders.{Border, Hole, change_at, change_to, chop_before, columns_where, glyphs}
use Rattle.text_borders.specs.Borders.{horizontal, shown_from, stretched, with_segments}
use Rattle.text_borders.specs.declared.segment.BorderSegHoriz.{BorderSegHoriz}
use Rattle.text_borders.specs.declared.segment.BorderSegHoriz.TheVariants.{Horiz}

pub map-replicate : (n : ℕ) (s : BorderSegHoriz) → map segment_of (replicate n s) ≡ replicate n (segment_of s)
map-replicate zero s = refl
map-replicate (suc n) s = ap (λ ss. segment_of s ∷ ss) (map-replicate n s)

pub some_alike : (none ss : List BorderSegHoriz) (n : ℕ) (s : BorderSegHoriz) → none ≡ [] → ss ≡ none ++ replicate n s
    → map segment_of ss ≡ replicate n (segment_of s)
some_alike none ss n s empty are =
    ap (map segment_of) (are ∙ ap (λ l. l ++ replicate n s) empty) ∙ map-replicate n s

pub stretched_by : (old new : List BorderSegHoriz) (width missing : ℕ)
    → missing ≡ width - length (map segment_of old) → new ≡ old ++ replicate missing Horiz →
    map segment_of new ≡ stretched width (map segment_of old)
stretched_by old new width missing missing_is new_is =
    ap (map segment_of) new_is ∙ map-append segment_of old (replicate missing Horiz)
    ∙ ap (λ ss. map segment_of old ++ ss) (map-replicate missing Horiz)
    ∙ ap (λ n. map segment_of old ++ replicate n horizontal) missing_is

-- a segment is replaced by what it becomes
pub changed_at : (f : Segment → Segment) (ss : List BorderSegHoriz) (k : ℕ) (old new : BorderSegHoriz)
    → k < length ss → old ≡ get_or ss k old → segment_of new ≡ f (segment_of old)
    → map segment_of (set ss k new) ≡ change_at f k (map segment_of ss)
changed_at f [] k old new within is becomes = absurd (omega (arith, within))
changed_at f (s ∷ ss) zero old new within is becomes =
    ap (λ x. x ∷ map segment_of ss) (becomes ∙ ap (λ x. f (segment_of x)) is)
changed_at f (s ∷ ss) (suc k) old new within is becomes =
    ap (λ xs. segment_of s ∷ xs) (changed_at f ss k old new (omega (arith, within)) is becomes)

length-stretched : (n : ℕ) (ss : List Segment) → n ≤ length (stretched n ss)
length-stretched n ss =
    omega (arith, length-append ss (replicate (n - length ss) horizontal), length-replicate (n - length ss) horizontal)

-- the same of a border that was stretched up to there
pub joined_to : {S : Type 0} (f : Segment → Segment) (b mid : Border S) (ss : List BorderSegHoriz) (k n : ℕ)
    (old new : BorderSegHoriz) → n ≡ k + 1 → mid ≡ with_segments (stretched n b.segments) b
    → map segment_of ss ≡ mid.segments → old ≡ get_or ss k old → segment_of new ≡ f (segment_of old)
    → with_segments (map segment_of (set ss k new)) mid ≡ with_segments (change_to f b.segments k) b
joined_to f b mid ss k n old new n_is mid_is ss_are is becomes =
    let whole : map segment_of ss ≡ stretched n b.segments = ss_are ∙ ap (λ m. m.segments) mid_is in
    let within : k < length ss = omega (
      arith,
      n_is,
      length-stretched n b.segments,
      ap length whole,
      length-map ss segment_of,
    ) in
    ap (λ m. with_segments (map segment_of (set ss k new)) m) mid_is
    ∙ ap (λ x. with_segments x b) (changed_at f ss k old new within is becomes
    ∙ ap (change_at f k) (whole ∙ ap (λ m. stretched m b.segments) n_is))

-- ---- segments that lose an arm

pub change_at-outside : (f : Segment → Segment) (k : ℕ) (ss : List Segment) → length ss ≤ k → change_at f k ss ≡ ss
change_at-outside f k [] h = refl
change_at-outside f zero (s ∷ ss) h = absurd (omega (arith, h))
change_at-outside f (suc k) (s ∷ ss) h = ap (λ x. s ∷ x) (change_at-outside f k ss (omega (arith, h)))

next_is_some : (k : ℕ) → (k + 1 == 0) ≡ false
next_is_some k = grind (arith, nat_tests)

next_less_one : (k : ℕ) → (k + 1) - 1 ≡ k
next_less_one k = omega arith

pub chop_at_next : (k : ℕ) (ss : List Segment) → chop_before (k + 1) ss ≡ change_at (option_map without_right) k ss
chop_at_next k ss =
    ap (λ b. if b then ss else change_at (option_map without_right) ((k + 1) - 1) ss) (next_is_some k)
    ∙ ap (λ n. change_at (option_map without_right) n ss) (next_less_one k)

-- ---- borders that are taken in

-- one segment first, then the others
pub merged_more : {S : Type 0} (f : Segment → Segment) (is : Segment → Bool) (s : Segment) (others : List Segment)
    (k n : ℕ) (b : Border S) → n ≡ k + 1
    → fold (change_to f) (fold (change_to f) b.segments (columns_where is k (s ∷ []))) (columns_where is n others)
    ≡ fold (change_to f) b.segments (columns_where is k (s ∷ others))
merged_more f is s others k n b n_is =
    ap (λ m. fold (change_to f) (fold (change_to f) b.segments (columns_where is k (s ∷ [])))
    (columns_where is m others))
    n_is ∙ by_test (is s)
  where
    by_test : (t : Bool)
        → fold (change_to f) (fold (change_to f) b.segments (if t then k ∷ []
        else [])) (columns_where is (k + 1) others)
        ≡ fold (change_to f) b.segments (if t then k ∷ columns_where is (k + 1) others
        else columns_where is (k + 1) others)
    by_test true = refl
    by_test false = refl

pub nothing_left : {A : Type 0} (xs : List A) → length xs ≡ 0 → xs ≡ []
nothing_left [] h = refl
nothing_left (x ∷ xs) h = absurd (omega (arith, h))

-- ---- loops

pub more_pushed : {X : Type 0} (old mid : List X) (x y : X) (rest : List X) → mid ≡ old ++ x ∷ [] → x ≡ y
    → mid ++ rest ≡ old ++ y ∷ rest
more_pushed old mid x y rest pushed same =
    ap (λ l. l ++ rest) pushed ∙ append_assoc old (x ∷ []) rest ∙ ap (λ z. old ++ z ∷ rest) same

pub more_copied : {X Y : Type 0} (f : X → Y) (old new : List X) (copy x : X) (others : List X) → new ≡ old ++ copy ∷ []
    → f copy ≡ f x → map f new ++ map f others ≡ map f old ++ map f (x ∷ others)
more_copied f old new copy x others pushed same =
    ap (λ l. map f l ++ map f others) pushed ∙ ap (λ l. l ++ map f others) (map-append f old (copy ∷ []))
    ∙ append_assoc (map f old) (f copy ∷ []) (map f others) ∙ ap (λ y. map f old ++ y ∷ map f others) same

-- ---- what is shown

map_take : {X Y : Type 0} (f : X → Y) (n : ℕ) (xs : List X) → map f (take n xs) ≡ take n (map f xs)
map_take f zero xs = refl
map_take f (suc n) [] = refl
map_take f (suc n) (x ∷ xs) = ap (λ l. f x ∷ l) (map_take f n xs)

map_drop : {X Y : Type 0} (f : X → Y) (n : ℕ) (xs : List X) → map f (drop n xs) ≡ drop n (map f xs)
map_drop f zero xs = refl
map_drop f (suc n) [] = refl
map_drop f (suc n) (x ∷ xs) = map_drop f n xs

pub front_is : (n m : ℕ) (here rest : List BorderSegHoriz) → here ≡ take n rest → n ≡ m
    → map segment_of here ≡ take m (map segment_of rest)
front_is n m here rest is n_is =
    ap (map segment_of) is ∙ map_take segment_of n rest ∙ ap (λ k. take k (map segment_of rest)) n_is

pub rest_is : (n m : ℕ) (trailing rest : List BorderSegHoriz) → trailing ≡ drop n rest → n ≡ m
    → map segment_of trailing ≡ drop m (map segment_of rest)
rest_is n m trailing rest is n_is =
    ap (map segment_of) is ∙ map_drop segment_of n rest ∙ ap (λ k. drop k (map segment_of rest)) n_is

-- a hole and the segments before it were shown
pub more_shown : {S : Type 0} (tag : S) (at end : ℕ) (rest here trailing : List Segment) (h : Hole S)
    (holes : List (Hole S))
    (old mid new : List (Item S)) → here ≡ take (h.place - at) rest → end ≡ h.place + line_columns h.items
    → trailing ≡ drop (h.place + line_columns h.items - at) rest → mid ≡ old ++ glyphs tag here → new ≡ mid ++ h.items
    → new ++ shown_from tag end trailing holes ≡ old ++ shown_from tag at rest (h ∷ holes)
more_shown tag at end rest here trailing h holes old mid new here_is end_is after_is first second =
    ap (λ l. l ++ shown_from tag end trailing holes) second
    ∙ append_assoc mid h.items (shown_from tag end trailing holes)
    ∙ ap (λ l. l ++ (h.items ++ shown_from tag end trailing holes)) first
    ∙ append_assoc old (glyphs tag here) (h.items ++ shown_from tag end trailing holes)
    ∙ ap (λ ss. old ++ (glyphs tag ss ++ (h.items ++ shown_from tag end trailing holes))) here_is
    ∙ ap (λ n. old ++ (glyphs tag (take (h.place - at) rest) ++ (h.items ++ shown_from tag n trailing holes))) end_is
    ∙ ap (λ ss. old ++ (glyphs tag (take (h.place - at) rest)
    ++ (h.items ++ shown_from tag (h.place + line_columns h.items) ss holes))) after_is

-- ---- eight segments of a horizontal line at once

abbrev pub rule_bytes : List ℕ
rule_bytes = 0xE2 ∷ 0x94 ∷ 0x80 ∷ 0xE2 ∷ 0x94 ∷ 0x80 ∷ 0xE2 ∷ 0x94 ∷ 0x80 ∷ 0xE2 ∷ 0x94 ∷ 0x80
    ∷ 0xE2 ∷ 0x94 ∷ 0x80 ∷ 0xE2 ∷ 0x94 ∷ 0x80 ∷ 0xE2 ∷ 0x94 ∷ 0x80 ∷ 0xE2 ∷ 0x94 ∷ 0x80 ∷ []

pub rule_spelt : chars rule_bytes ≡ replicate 8 0x2500
unfolding chars
rule_spelt = refl

pub rule_pushed : (old new : List ℕ) (first : BorderSegHoriz) (others left : List BorderSegHoriz)
    → new ≡ old ++ replicate 8 0x2500 → first ∷ others ≡ replicate 8 Horiz ++ left
    → new ++ map glyph_of (map segment_of left) ≡ old ++ map glyph_of (map segment_of (first ∷ others))
rule_pushed old new first others left pushed rule =
    ap (λ cs. cs ++ map glyph_of (map segment_of left)) pushed
    ∙ append_assoc old (replicate 8 0x2500) (map glyph_of (map segment_of left))
    ∙ ap (λ ss. old ++ map glyph_of (map segment_of ss)) (sym rule)

pub glyph_pushed : (old new : List ℕ) (first : BorderSegHoriz) (others : List BorderSegHoriz) (c : ℕ)
    → new ≡ old ++ c ∷ [] → c ≡ glyph_of (segment_of first)
    → new ++ map glyph_of (map segment_of others) ≡ old ++ map glyph_of (map segment_of (first ∷ others))
glyph_pushed old new first others c pushed is =
    ap (λ cs. cs ++ map glyph_of (map segment_of others)) pushed
    ∙ append_assoc old (c ∷ []) (map glyph_of (map segment_of others))
    ∙ ap (λ d. old ++ d ∷ map glyph_of (map segment_of others)) is
