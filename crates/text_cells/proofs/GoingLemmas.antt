-- Cells that go on into the next row.
use Rattle.std.proofs.Common.{◌≡◌, ◌+◌, ◌-◌, ◌≤◌, ◌<◌, [], ◌∷◌, ◌++◌, if◌then◌else◌, ◌∙◌, List, ap, append-nil, arith}
use Rattle.std.proofs.Common.{drop, false, map, refl, sym, true, ℕ}
use Rattle.std.proofs.lemmas.Bool.Decides.{nat_tests}
use Rattle.std.proofs.lemmas.List.{drop-drop}
use Rattle.text_lines.specs.Tagged.{Item}
use Rattle.text_borders.specs.Borders.{Border, punched}
use Rattle.text_borders.specs.Across.{Hanging, OpenCell, spaces, line_or, goes_on, with_holes, further, hanging_of}
use Rattle.text_cells.specs.OpenCells.{after, left_at, next_cell}

pub ends_here : {S : Type 0} (c : OpenCell S) → c.rows ≤ 1 → goes_on c ≡ false
ends_here c last = grind (arith, nat_tests, last)

pub goes_further : {S : Type 0} (c : OpenCell S) → 1 < c.rows → goes_on c ≡ true
goes_further c more = grind (arith, nat_tests, more)

abbrev pub hole_in : {S : Type 0} → S → ℕ → OpenCell S → Border S → Border S
hole_in tag at c b = if goes_on c then punched at (line_or c.width tag (spaces c.width tag) c.lines) b else b

pub not_holed : {S : Type 0} (tag : S) (at : ℕ) (c : OpenCell S) (b : Border S) → c.rows ≤ 1 → b ≡ hole_in tag at c b
not_holed tag at c b last =
    sym (ap (λ on. if on then punched at (line_or c.width tag (spaces c.width tag) c.lines) b else b)
    (ends_here c last))

pub nothing_left_of : {S : Type 0} (at : ℕ) (c : OpenCell S) (hanging : List (Hanging S)) → c.rows ≤ 1
    → hanging ≡ hanging ++ left_at at c
nothing_left_of at c hanging last =
    sym (ap (λ on. hanging ++ (if on then (record { place = at; cell = further 0 c }) ∷ [] else [])) (ends_here c last)
    ∙ append-nil hanging)

pub holed : {S : Type 0} (tag : S) (at : ℕ) (c : OpenCell S) (b new : Border S) (items : List (Item S)) → 1 < c.rows
    → items ≡ line_or c.width tag (spaces c.width tag) c.lines → new ≡ punched at items b → new ≡ hole_in tag at c b
holed tag at c b new items more are made =
    made ∙ ap (λ l. punched at l b) are
    ∙ sym (ap (λ on. if on then punched at (line_or c.width tag (spaces c.width tag) c.lines) b else b)
    (goes_further c more))

pub left_further : {S : Type 0} (at : ℕ) (c d : OpenCell S) (h : Hanging S) (old new : List (Hanging S)) → 1 < c.rows
    → d ≡ after 1 c → h ≡ record { place = at; cell = next_cell d } → new ≡ old ++ h ∷ [] → new ≡ old ++ left_at at c
left_further at c d h old new more taken left pushed =
    pushed ∙ ap (λ x. old ++ x ∷ []) left
    ∙ ap (λ x. old ++ (record { place = at; cell = next_cell x }) ∷ []) taken
    ∙ sym (ap (λ on. old ++ (if on then (record { place = at; cell = further 0 c }) ∷ [] else []))
    (goes_further c more))

-- ---- after the lines of the row

pub holes_after : {S : Type 0} (tag : S) (height at : ℕ) (cells : List (OpenCell S)) (b : Border S)
    → with_holes tag 0 at (map (after height) cells) b ≡ with_holes tag height at cells b
holes_after tag height at [] b = refl
holes_after tag height at (c ∷ cells) b =
    holes_after tag height (at + c.width + 1) cells
    (if goes_on c then punched at (line_or c.width tag (spaces c.width tag) (drop height c.lines)) b else b)

pub hanging_after : {S : Type 0} (height at : ℕ) (cells : List (OpenCell S))
    → hanging_of 0 at (map (after height) cells) ≡ hanging_of height at cells
hanging_after height at [] = refl
hanging_after height at (c ∷ cells) =
    ap (λ ls. (if goes_on c then (record {
      place = at;
      cell = record { width = c.width; rows = c.rows - 1; lines = ls };
    }) ∷ [] else []) ++ hanging_of 0 (at + c.width + 1) (map (after height) cells)) (drop-drop 1 height c.lines)
    ∙ ap (λ l. (if goes_on c then (record { place = at; cell = further height c }) ∷ [] else []) ++ l)
    (hanging_after height (at + c.width + 1) cells)
