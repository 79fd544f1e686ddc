-- The lines of a row, and the row.
use Rattle.std.proofs.Common.{◌≡◌, ◌+◌, ◌<◌, ◌≤◌, [], ◌∷◌, ◌++◌, if◌then◌else◌, ◌∙◌, List, ap, append-nil, append_assoc}
use Rattle.std.proofs.Common.{arith, drop, get_or, length, map, refl, set, suc, sym, take, true, zero, ℕ}
use Rattle.std.specs.Prelude.{nat_lt}
use Rattle.std.proofs.lemmas.Bool.Decides.{nat_tests}
use Rattle.std.proofs.lemmas.List.{drop-drop, drop_more, get_or-map, get_or_at, length-map, length-take-le, map-set}
use Rattle.std.proofs.lemmas.List.{map_more, set_at}
use Rattle.text_lines.specs.Tagged.{Item, character}
use Rattle.text_borders.specs.Across.{OpenCell, cell_items, row_items, row_lines}
use Rattle.text_cells.specs.OpenCells.{after, sign_before}

-- ---- the text of a line

sign_after : {S : Type 0} (sign : ℕ) (tag : S) (c : OpenCell S) (cells : List (OpenCell S))
    → (cell_items tag 0 c ++ sign_before sign tag (length cells)) ++ row_items sign tag 0 cells
    ≡ row_items sign tag 0 (c ∷ cells)
sign_after sign tag c [] = append-nil (cell_items tag 0 c ++ []) ∙ append-nil (cell_items tag 0 c)
sign_after sign tag c (d ∷ cells) =
    let some : nat_lt 0 (length (d ∷ cells)) ≡ true = grind (arith, nat_tests) in
    ap (λ t. (cell_items tag 0 c ++ (if t then character sign tag ∷ [] else []))
    ++ row_items sign tag 0 (d ∷ cells)) some
    ∙ append_assoc (cell_items tag 0 c) (character sign tag ∷ []) (row_items sign tag 0 (d ∷ cells))

-- a cell's line and the sign were added
pub more_text : {S : Type 0} (sign : ℕ) (tag : S) (cells : List (OpenCell S)) (i left : ℕ) (c : OpenCell S)
    (items old mid new : List (Item S)) → drop i cells ≡ c ∷ drop (i + 1) cells → left ≡ length (drop (i + 1) cells)
    → items ≡ cell_items tag 0 c → mid ≡ old ++ items → new ≡ mid ++ sign_before sign tag left
    → new ++ row_items sign tag 0 (drop (i + 1) cells) ≡ old ++ row_items sign tag 0 (drop i cells)
more_text sign tag cells i left c items old mid new here left_is are first second =
    let rest = row_items sign tag 0 (drop (i + 1) cells) in
    ap (λ l. l ++ rest) second ∙ ap (λ n. (mid ++ sign_before sign tag n) ++ rest) left_is
    ∙ ap (λ l. (l ++ sign_before sign tag (length (drop (i + 1) cells))) ++ rest) first
    ∙ ap (λ l. ((old ++ l) ++ sign_before sign tag (length (drop (i + 1) cells))) ++ rest) are
    ∙ ap (λ l. l ++ rest) (append_assoc old (cell_items tag 0 c) (sign_before sign tag (length (drop (i + 1) cells))))
    ∙ append_assoc old (cell_items tag 0 c ++ sign_before sign tag (length (drop (i + 1) cells))) rest
    ∙ ap (λ l. old ++ l) (sign_after sign tag c (drop (i + 1) cells))
    ∙ ap (λ cs. old ++ row_items sign tag 0 cs) (sym here)

-- ---- the cells, from each of which a line was taken

-- the first i were changed, and the one at i is what it was
same_there : {A X : Type 0} (view : A → X) (change : X → X) (first now : List A) (i : ℕ) (a : A)
    → i < length first → length now ≡ length first
    → map view now ≡ map change (take i (map view first)) ++ drop i (map view first) → a ≡ get_or now i a
    → view a ≡ get_or (map view first) i (view a)
same_there view change first now i a inside same so_far read =
    let start = map view first in
    let within : i < length start = omega (arith, inside, length-map first view) in
    let front = map change (take i start) in
    let here = get_or start i (view a) in
    let long : length front ≡ i = length-map (take i start) change ∙ length-take-le i start (omega (arith, within)) in
    ap view read ∙ sym (get_or-map view now i a (view a) (omega (arith, inside, same)))
    ∙ ap (λ l. get_or l i (view a)) (so_far ∙ ap (λ tail. front ++ tail) (drop_more start i (view a) within))
    ∙ get_or_at front here (drop (i + 1) start) (view a) i long

pub still_there : {A X : Type 0} (view : A → X) (change : X → X) (first now : List A) (i : ℕ) (a : A)
    → i < length first → length now ≡ length first
    → map view now ≡ map change (take i (map view first)) ++ drop i (map view first) → a ≡ get_or now i a
    → drop i (map view first) ≡ view a ∷ drop (i + 1) (map view first)
still_there view change first now i a inside same so_far read =
    drop_more (map view first) i (view a) (omega (arith, inside, length-map first view))
    ∙ ap (λ x. x ∷ drop (i + 1) (map view first)) (sym (same_there view change first now i a inside same so_far read))

pub changed_more : {A X : Type 0} (view : A → X) (change : X → X) (first now : List A) (i : ℕ) (a b : A)
    → i < length first → length now ≡ length first
    → map view now ≡ map change (take i (map view first)) ++ drop i (map view first) → a ≡ get_or now i a
    → view b ≡ change (view a)
    → map view (set now i b) ≡ map change (take (i + 1) (map view first)) ++ drop (i + 1) (map view first)
changed_more view change first now i a b inside same so_far read made =
    let start = map view first in
    let within : i < length start = omega (arith, inside, length-map first view) in
    let front = map change (take i start) in
    let here = get_or start i (view a) in
    let rest = drop (i + 1) start in
    let long : length front ≡ i = length-map (take i start) change ∙ length-take-le i start (omega (arith, within)) in
    map-set view now i b
    ∙ ap (λ l. set l i (view b)) (so_far ∙ ap (λ tail. front ++ tail) (drop_more start i (view a) within))
    ∙ set_at front here rest (view b) i long
    ∙ ap (λ z. front ++ z ∷ rest) (made ∙ ap change (same_there view change first now i a inside same so_far read))
    ∙ sym (append_assoc front (change here ∷ []) rest)
    ∙ ap (λ f. f ++ rest) (sym (map_more change start i (view a) within))

-- ---- lines after those that were taken

items_after : {S : Type 0} (sign : ℕ) (tag : S) (i : ℕ) (cells : List (OpenCell S))
    → row_items sign tag 0 (map (after i) cells) ≡ row_items sign tag i cells
items_after sign tag i [] = refl
items_after sign tag i (c ∷ []) = refl
items_after sign tag i (c ∷ d ∷ cells) =
    ap (λ l. cell_items tag i c ++ (character sign tag ∷ l)) (items_after sign tag i (d ∷ cells))

after_again : {S : Type 0} (i : ℕ) (cells : List (OpenCell S))
    → map (after 1) (map (after i) cells) ≡ map (after (i + 1)) cells
after_again i [] = refl
after_again i (c ∷ cells) =
    ap (λ ls. (record c { lines = ls }) ∷ map (after 1) (map (after i) cells)) (drop-drop 1 i c.lines)
    ∙ ap (λ cs. after (i + 1) c ∷ cs) (after_again i cells)

pub after_more : {S : Type 0} (i : ℕ) (cells now : List (OpenCell S)) → now ≡ map (after i) cells
    → map (after 1) now ≡ map (after (i + 1)) cells
after_more i cells now taken = ap (map (after 1)) taken ∙ after_again i cells

pub after_none : {S : Type 0} (cells : List (OpenCell S)) → cells ≡ map (after 0) cells
after_none [] = refl
after_none (c ∷ cells) = ap (λ cs. c ∷ cs) (after_none cells)

pub one_line_more : {S : Type 0} (sign : ℕ) (tag : S) (cells : List (OpenCell S)) (i n : ℕ)
    → row_lines sign tag cells i n ++ row_items sign tag (i + n) cells ∷ [] ≡ row_lines sign tag cells i (n + 1)
one_line_more sign tag cells i zero =
    let here : i + 0 ≡ i = omega arith in
    ap (λ k. row_items sign tag k cells ∷ []) here
one_line_more sign tag cells i (suc n) =
    let next : i + suc n ≡ i + 1 + n = omega arith in
    let more : suc n + 1 ≡ suc (n + 1) = omega arith in
    ap (λ k. row_lines sign tag cells i (suc n) ++ row_items sign tag k cells ∷ []) next
    ∙ ap (λ ls. row_items sign tag i cells ∷ ls) (one_line_more sign tag cells (i + 1) n)
    ∙ sym (ap (row_lines sign tag cells i) more)

pub lines_more : {S : Type 0} (sign : ℕ) (tag : S) (cells now : List (OpenCell S)) (i : ℕ)
    (lines : List (List (Item S))) (l : List (Item S)) → lines ≡ row_lines sign tag cells 0 i
    → now ≡ map (after i) cells → l ≡ row_items sign tag 0 now → lines ++ l ∷ [] ≡ row_lines sign tag cells 0 (i + 1)
lines_more sign tag cells now i lines l so_far taken is =
    let first : i ≡ 0 + i = omega arith in
    ap (λ ls. ls ++ l ∷ []) so_far
    ∙ ap (λ x. row_lines sign tag cells 0 i ++ x ∷ [])
    (is ∙ ap (row_items sign tag 0) taken ∙ items_after sign tag i cells)
    ∙ ap (λ k. row_lines sign tag cells 0 i ++ row_items sign tag k cells ∷ []) first
    ∙ one_line_more sign tag cells 0 i

-- ---- the end of the cells

none_after : {X : Type 0} (xs : List X) (i : ℕ) → length xs ≤ i → drop i xs ≡ []
none_after [] zero h = refl
none_after [] (suc i) h = refl
none_after (x ∷ xs) zero h = absurd (omega (arith, h))
none_after (x ∷ xs) (suc i) h = none_after xs i (omega (arith, h))

all_before : {X : Type 0} (xs : List X) (i : ℕ) → length xs ≤ i → take i xs ≡ xs
all_before [] zero h = refl
all_before [] (suc i) h = refl
all_before (x ∷ xs) zero h = absurd (omega (arith, h))
all_before (x ∷ xs) (suc i) h = ap (λ l. x ∷ l) (all_before xs i (omega (arith, h)))

pub items_all : {S : Type 0} (sign : ℕ) (tag : S) (cells : List (OpenCell S)) (i : ℕ) (line : List (Item S))
    → length cells ≤ i → line ++ row_items sign tag 0 (drop i cells) ≡ row_items sign tag 0 cells
    → line ≡ row_items sign tag 0 cells
items_all sign tag cells i line h so_far =
    sym (append-nil line) ∙ sym (ap (λ cs. line ++ row_items sign tag 0 cs) (none_after cells i h)) ∙ so_far

pub cells_all : {S : Type 0} (cells now : List (OpenCell S)) (i : ℕ) → length cells ≤ i
    → now ≡ map (after 1) (take i cells) ++ drop i cells → now ≡ map (after 1) cells
cells_all cells now i h so_far =
    so_far ∙ ap (λ cs. map (after 1) (take i cells) ++ cs) (none_after cells i h)
    ∙ append-nil (map (after 1) (take i cells)) ∙ ap (map (after 1)) (all_before cells i h)
