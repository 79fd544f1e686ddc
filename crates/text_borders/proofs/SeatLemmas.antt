-- Where the cells of a row stand.
use Rattle.std.proofs.Common.{◌≡◌, ◌+◌, ◌-◌, ◌<◌, [], ◌∷◌, ◌++◌, if◌then◌else◌, ◌∙◌, Bool, List, ap, arith, false, inl}
use Rattle.std.proofs.Common.{inr, map, refl, true, ℕ}
use Rattle.std.specs.Prelude.{nat_le, nat_lt, Option}
use Rattle.std.proofs.lemmas.Bool.Decides.{nat_tests}
use Rattle.std.proofs.lemmas.List.{map-append}
use Rattle.text_borders.specs.Borders.{Border}
use Rattle.text_borders.specs.Lines.{BlockLine, text, border}
use Rattle.text_borders.specs.Across.{Cell, CellLine, Hanging, OpenCell, across, close_after, close_last, close_line}
use Rattle.text_borders.specs.Across.{further, goes_on, hanging_of, is_given, open_first, open_line, opened, row_cells}
use Rattle.text_borders.specs.Across.{row_height, row_width, seated, whole, width_across}
use Rattle.text_borders.specs.AcrossLaws.{cells_width, AreSeatedIn, seat_of, seats_after}

-- ---- a cell without its borders keeps its columns and its rows

abbrev Keeps : {S : Type 0} → OpenCell S → OpenCell S → Type 0
Keeps c d = (d.width ≡ c.width) × (d.rows ≡ c.rows)

first_keeps : {S : Type 0} (lines : List (CellLine S)) (c : OpenCell S) → Keeps c (open_first lines c)
first_keeps [] c = (refl, refl)
first_keeps (l ∷ rest) c = line_keeps l.line rest c
  where
    line_keeps : {S : Type 0} (x : BlockLine S) (rest : List (CellLine S)) (c : OpenCell S)
        → Keeps c (open_line x rest c)
    line_keeps (text items) rest c = (refl, refl)
    line_keeps (border b) rest c = (refl, refl)

close_keeps : {S : Type 0} (tag : S) (x : BlockLine S) (front : List (CellLine S)) (c : OpenCell S)
    → Keeps c (close_line tag x front c)
close_keeps tag (text items) front c = (refl, refl)
close_keeps tag (border b) front c = (refl, refl)

after_keeps : {S : Type 0} (tag : S) (front : List (CellLine S)) (l : CellLine S) (rest : List (CellLine S))
    (c : OpenCell S) → Keeps c (close_after tag front l rest c)
after_keeps tag front l [] c = close_keeps tag l.line front c
after_keeps tag front l (m ∷ rest) c = after_keeps tag (front ++ l ∷ []) m rest c

last_keeps : {S : Type 0} (tag : S) (lines : List (CellLine S)) (c : OpenCell S) → Keeps c (close_last tag lines c)
last_keeps tag [] c = (refl, refl)
last_keeps tag (l ∷ rest) c = after_keeps tag [] l rest c

both_keep : {S : Type 0} (b c d : OpenCell S) → Keeps b c → Keeps c d → Keeps b d
both_keep b c d first second = (second.0 ∙ first.0, second.1 ∙ first.1)

abbrev IsCell : {S : Type 0} → Cell S → OpenCell S → Type 0
IsCell c o = (o.width ≡ c.width) × (o.rows ≡ c.rows)

opened_is : {S : Type 0} (collapse above : Bool) (tag : S) (c : Cell S) → IsCell c (opened collapse above tag c)
opened_is false above tag c = (refl, refl)
opened_is true false tag c = last_keeps tag c.lines (whole tag c)
opened_is true true tag c =
    both_keep (whole tag c) (open_first c.lines (whole tag c))
    (close_last tag (open_first c.lines (whole tag c)).lines (open_first c.lines (whole tag c)))
    (first_keeps c.lines (whole tag c))
    (last_keeps tag (open_first c.lines (whole tag c)).lines (open_first c.lines (whole tag c)))

-- ---- the columns of a row

opened_row_width : {S : Type 0} (collapse above : Bool) (tag : S) (cells : List (Cell S))
    → row_width (map (opened collapse above tag) cells) ≡ cells_width cells
opened_row_width collapse above tag [] = refl
opened_row_width collapse above tag (c ∷ []) = (opened_is collapse above tag c).0
opened_row_width collapse above tag (c ∷ d ∷ cells) =
    let here = (opened_is collapse above tag c).0 in
    let rest = opened_row_width collapse above tag (d ∷ cells) in
    omega (arith, here, rest)

-- lists of cells of the same columns
abbrev AreAlike : {S : Type 0} → List (Cell S) → List (Cell S) → Type 0
AreAlike [] [] = Unit {0}
AreAlike [] (d ∷ ds) = ⊥
AreAlike (c ∷ cs) [] = ⊥
AreAlike (c ∷ cs) (d ∷ ds) = (c.width ≡ d.width) × AreAlike cs ds

alike_width : {S : Type 0} (cs ds : List (Cell S)) → AreAlike cs ds → cells_width cs ≡ cells_width ds
alike_width [] [] h = refl
alike_width [] (d ∷ ds) h = absurd h
alike_width (c ∷ cs) [] h = absurd h
alike_width (c ∷ []) (d ∷ []) h = h.0
alike_width (c ∷ []) (d ∷ e ∷ ds) h = absurd h.1
alike_width (c ∷ b ∷ cs) (d ∷ []) h = absurd h.1
alike_width (c ∷ b ∷ cs) (d ∷ e ∷ ds) h =
    let rest = alike_width (b ∷ cs) (e ∷ ds) h.1 in omega (arith, h.0, rest)

same_cells : {S : Type 0} (cs : List (Cell S)) → AreAlike cs cs
same_cells [] = tt
same_cells (c ∷ cs) = (refl, same_cells cs)

le_test : (a b : ℕ) → a ≡ b → nat_le a b ≡ true
le_test a b e = grind (arith, nat_tests, e)

not_le_test : (a b : ℕ) → b < a → nat_le a b ≡ false
not_le_test a b e = grind (arith, nat_tests, e)

taken_by : {S : Type 0} (b : Bool) (h : Hanging S) (c : Cell S) (xs ys ds : List (Cell S)) → b ≡ true
    → h.cell.width ≡ c.width → AreAlike xs ds → AreAlike (if b then h.cell ∷ xs else c ∷ ys) (c ∷ ds)
taken_by true h c xs ys ds e same rest = (same, rest)
taken_by false h c xs ys ds e same rest = cc

passed_by : {S : Type 0} (b : Bool) (h : Hanging S) (c : Cell S) (xs ys ds : List (Cell S)) → b ≡ false
    → AreAlike ys ds → AreAlike (if b then h.cell ∷ xs else c ∷ ys) (c ∷ ds)
passed_by true h c xs ys ds e rest = cc
passed_by false h c xs ys ds e rest = (refl, rest)

seated_alike : {S : Type 0} (at : ℕ) (cells : List (Cell S)) (hanging : List (Hanging S)) → AreSeatedIn at cells hanging
    → AreAlike (seated at cells hanging) cells
seated_alike at [] [] are = tt
seated_alike at (c ∷ cells) [] are = same_cells (c ∷ cells)
seated_alike at [] (h ∷ hanging) are = absurd are
seated_alike at (c ∷ cells) (h ∷ hanging) (inl are) =
    taken_by (nat_le h.place at) h c (seated (at + c.width + 1) cells hanging)
    (seated (at + c.width + 1) cells (h ∷ hanging)) cells (le_test h.place at are.0) are.1.0
    (seated_alike (at + c.width + 1) cells hanging are.1.1)
seated_alike at (c ∷ cells) (h ∷ hanging) (inr are) =
    passed_by (nat_le h.place at) h c (seated (at + c.width + 1) cells hanging)
    (seated (at + c.width + 1) cells (h ∷ hanging)) cells (not_le_test h.place at are.0)
    (seated_alike (at + c.width + 1) cells (h ∷ hanging) are.1)

pub seated_row_width : {S : Type 0} (collapse : Bool) (tag : S) (above : Option (Border S)) (cells : List (Cell S))
    (hanging : List (Hanging S)) → AreSeatedIn 0 cells hanging
    → width_across collapse tag above cells hanging ≡ cells_width cells
seated_row_width collapse tag above cells hanging are =
    opened_row_width collapse (is_given above) tag (seated 0 cells hanging)
    ∙ alike_width (seated 0 cells hanging) cells (seated_alike 0 cells hanging are)

-- ---- what goes on

seat_here : {S : Type 0} (height at : ℕ) (o : OpenCell S) (c : Cell S) → IsCell c o
    → map (seat_of {S = S}) (if goes_on o then (record { place = at; cell = further height o }) ∷ [] else [])
    ≡ (if nat_lt 1 c.rows then (record { place = at; width = c.width; rows = c.rows - 1 }) ∷ [] else [])
seat_here height at o c is = by_test (nat_lt 1 o.rows) (nat_lt 1 c.rows) (ap (nat_lt 1) is.1)
  where
    by_test : (a b : Bool) → a ≡ b
        → map seat_of (if a then (record { place = at; cell = further height o }) ∷ [] else [])
        ≡ (if b then (record { place = at; width = c.width; rows = c.rows - 1 }) ∷ [] else [])
    by_test true true e = cc
    by_test true false e = cc
    by_test false true e = cc
    by_test false false e = refl

seats_from : {S : Type 0} (collapse above : Bool) (tag : S) (height at : ℕ) (cells : List (Cell S))
    → map (seat_of {S = S}) (hanging_of height at (map (opened collapse above tag) cells)) ≡ seats_after at cells
seats_from collapse above tag height at [] = refl
seats_from collapse above tag height at (c ∷ cells) =
    let is = opened_is collapse above tag c in
    map-append seat_of
    (if goes_on (opened collapse above tag c)
    then (record { place = at; cell = further height (opened collapse above tag c) }) ∷ [] else [])
    (hanging_of height (at + (opened collapse above tag c).width + 1) (map (opened collapse above tag) cells))
    ∙ ap (λ rest. map seat_of (if goes_on (opened collapse above tag c)
    then (record { place = at; cell = further height (opened collapse above tag c) }) ∷ [] else []) ++ rest)
    (ap (λ w. map seat_of (hanging_of height (at + w + 1) (map (opened collapse above tag) cells))) is.0
    ∙ seats_from collapse above tag height (at + c.width + 1) cells)
    ∙ ap (λ front. front ++ seats_after (at + c.width + 1) cells)
    (seat_here height at (opened collapse above tag c) c is)

pub row_seats : {S : Type 0} (draws collapse : Bool) (tag : S) (above : Option (Border S)) (cells : List (Cell S))
    (hanging : List (Hanging S)) → map (seat_of {S = S}) (across draws collapse tag above cells hanging).hanging
    ≡ seats_after 0 (seated 0 cells hanging)
row_seats draws collapse tag above cells hanging =
    seats_from collapse (is_given above) tag (row_height (row_cells collapse tag above cells hanging)) 0
    (seated 0 cells hanging)
