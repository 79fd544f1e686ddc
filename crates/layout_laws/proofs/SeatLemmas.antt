-- Cells that are handed in for the slots of a row: those that go on are seated in their own slots, so the row is within
-- the columns, and what goes on from it is awaited in the next one.
use Rattle.std.proofs.Common.{◌≡◌, ◌+◌, ◌-◌, ◌<◌, ◌≤◌, [], ◌∷◌, ◌++◌, ◌∙◌, Bool, List, ap, arith, false, inl, inr}
use Rattle.std.proofs.Common.{length, map, max, nat_le, refl, subst, sum, sym, true, ℕ}
use Rattle.std.specs.Prelude.{if◌then◌else◌}
use Rattle.std.specs.List.{AllByRecursion}
use Rattle.std.proofs.lemmas.Bool.Decides.{nat_tests}
use Rattle.text_borders.specs.Across.{Cell, Hanging, seated}
use Rattle.text_borders.specs.AcrossLaws.{AreSeatedIn, cells_width, seat_of, seats_after}
use Rattle.table_widths.specs.Slots.{covered_after}
use Rattle.table_widths.specs.declared.slot.Slot.{Slot}
use Rattle.layout_laws.proofs.SlotLemmas.{AreDue, AreShort, StandBy, due_after, due_further, slot_spans, start_of}
use Rattle.layout_laws.proofs.SlotLemmas.{start_within, width_in}

-- ---- what is handed in

-- One is handed in for each of the slots, as wide as it and for no more rows; each says its columns and its rows.
abbrev pub AreFilled : {X : Type 0} → (X → ℕ × ℕ) → List ℕ → List Slot → List X → Type 0
AreFilled size widths [] [] = Unit {0}
AreFilled size widths [] (x ∷ xs) = ⊥
AreFilled size widths (s ∷ slots) [] = ⊥
AreFilled size widths (s ∷ slots) (x ∷ xs) =
    (((size x).0 ≡ width_in widths s) × ((size x).1 ≤ max 1 s.rows)) × AreFilled size widths slots xs

pub filled_after : {X : Type 0} (size : X → ℕ × ℕ) (widths : List ℕ) (slots further : List Slot) (xs ys : List X)
    → AreFilled size widths slots xs → AreFilled size widths further ys
    → AreFilled size widths (slots ++ further) (xs ++ ys)
filled_after size widths [] further [] ys one other = other
filled_after size widths [] further (x ∷ xs) ys one other = absurd one
filled_after size widths (s ∷ slots) further [] ys one other = absurd one
filled_after size widths (s ∷ slots) further (x ∷ xs) ys one other =
    (one.0, filled_after size widths slots further xs ys one.1 other)

abbrev pub cell_size : {S : Type 0} → Cell S → ℕ × ℕ
cell_size c = (c.width, c.rows)

-- ---- the row

-- the slots of a row from a column on, and the column of text at which that begins
pub record IsRowFrom (widths : List ℕ) (from at : ℕ) (slots : List Slot) : Type 0 where
  pub short : AreShort widths
  pub stand : StandBy from slots
  pub within : AllByRecursion (λ s. s.last ≤ length widths) slots
  pub starts : at ≡ start_of widths from

-- after its first slot
row_on : (widths : List ℕ) (from at width : ℕ) (s : Slot) (slots : List Slot) → IsRowFrom widths from at (s ∷ slots)
    → width ≡ width_in widths s → IsRowFrom widths s.last (at + width + 1) slots
row_on widths from at width s slots row is = record {
  short = row.short;
  stand = row.stand.1.1;
  within = row.within.1;
  starts = omega (
    arith,
    is,
    row.starts,
    ap (λ (n : ℕ). start_of widths n) row.stand.0,
    slot_spans widths s row.short row.stand.1.0 row.within.0,
  );
}

pub cells_seated : {S : Type 0} (widths : List ℕ) (from at : ℕ) (slots : List Slot) (cells : List (Cell S))
    (hanging : List (Hanging S)) → IsRowFrom widths from at slots → AreFilled cell_size widths slots cells
    → AreDue widths slots (map seat_of hanging) → AreSeatedIn at cells hanging
cells_seated widths from at slots cells [] row filled due = tt
cells_seated widths from at [] cells (h ∷ hanging) row filled due = absurd due
cells_seated widths from at (s ∷ slots) [] (h ∷ hanging) row filled due = absurd filled
cells_seated widths from at (s ∷ slots) (c ∷ cells) (h ∷ hanging) row filled (inl due) = inl (
  omega (arith, due.0.1.0, row.starts, ap (λ (n : ℕ). start_of widths n) row.stand.0),
  (
    due.0.1.1.0 ∙ sym filled.0.0,
    cells_seated widths s.last (at + c.width + 1) slots cells hanging
        (row_on widths from at c.width s slots row filled.0.0) filled.1 due.1,
  ),
)
cells_seated widths from at (s ∷ slots) (c ∷ cells) (h ∷ hanging) row filled (inr due) =
    let on : IsRowFrom widths s.last (at + c.width + 1) slots =
    row_on widths from at c.width s slots row filled.0.0 in inr (
      omega (arith, on.starts, due_after widths s.last slots (seat_of h) (map seat_of hanging) on.stand due),
      cells_seated widths s.last (at + c.width + 1) slots cells (h ∷ hanging) on filled.1 due,
    )

wide : {S : Type 0} (widths : List ℕ) (from at : ℕ) (s : Slot) (slots : List Slot) (c : Cell S)
    (cells : List (Cell S)) → IsRowFrom widths from at (s ∷ slots) → AreFilled cell_size widths (s ∷ slots) (c ∷ cells)
    → at + cells_width (c ∷ cells) + 1 ≤ sum widths + length widths
wide widths from at s [] c [] row filled =
    let on : IsRowFrom widths s.last (at + c.width + 1) [] = row_on widths from at c.width s [] row filled.0.0 in
    omega (arith, on.starts, start_within widths s.last row.within.0)
wide widths from at s [] c (d ∷ cells) row filled = absurd filled.1
wide widths from at s (t ∷ slots) c [] row filled = absurd filled.1
wide widths from at s (t ∷ slots) c (d ∷ cells) row filled = omega (
  arith,
  wide widths s.last (at + c.width + 1) t slots d cells (row_on widths from at c.width s (t ∷ slots) row filled.0.0)
      filled.1,
)

pub cells_within : {S : Type 0} (widths : List ℕ) (slots : List Slot) (cells : List (Cell S))
    → IsRowFrom widths 0 0 slots → AreFilled cell_size widths slots cells
    → cells_width cells ≤ sum widths + (length widths - 1)
cells_within widths [] [] row filled = omega arith
cells_within widths [] (c ∷ cells) row filled = absurd filled
cells_within widths (s ∷ slots) [] row filled = absurd filled
cells_within widths (s ∷ slots) (c ∷ cells) row filled =
    let some : s.first < s.last = row.stand.1.0 in
    let last : s.last ≤ length widths = row.within.0 in
    omega (arith, some, last, wide widths 0 0 s slots c cells row filled)

-- ---- what goes on from it

none_seated : {S : Type 0} (at : ℕ) (cells : List (Cell S)) → cells ≡ seated at cells []
none_seated at [] = refl
none_seated at (c ∷ cells) = refl

here : (n k : ℕ) → n ≡ k → true ≡ nat_le n k
here n k e = grind (arith, nat_tests, e)

not_here : (n k : ℕ) → k < n → false ≡ nat_le n k
not_here n k less = grind (arith, nat_tests, less)

pub seats_due : {S : Type 0} (widths : List ℕ) (from at : ℕ) (slots : List Slot) (cells : List (Cell S))
    (hanging : List (Hanging S)) → IsRowFrom widths from at slots → AreFilled cell_size widths slots cells
    → AreDue widths slots (map seat_of hanging)
    → AreDue widths (covered_after slots) (seats_after at (seated at cells hanging))
seats_due widths from at [] [] [] row filled due = tt
seats_due widths from at [] [] (h ∷ hanging) row filled due = absurd due
seats_due widths from at [] (c ∷ cells) hanging row filled due = absurd filled
seats_due widths from at (s ∷ slots) [] hanging row filled due = absurd filled
seats_due {S = S} widths from at (s ∷ slots) (c ∷ cells) [] row filled due =
    due_further widths s slots at c.width c.rows (seats_after (at + c.width + 1) cells)
    (row.starts ∙ ap (λ (n : ℕ). start_of widths n) (sym row.stand.0)) filled.0.0 filled.0.1 row.stand.1.0
    (subst (λ (cs : List (Cell S)). AreDue widths (covered_after slots) (seats_after (at + c.width + 1) cs))
    (sym (none_seated (at + c.width + 1) cells))
    (seats_due widths s.last (at + c.width + 1) slots cells []
    (row_on widths from at c.width s slots row filled.0.0) filled.1 (none slots)))
  where
    none : (slots : List Slot) → AreDue widths slots []
    none slots = tt
seats_due widths from at (s ∷ slots) (c ∷ cells) (h ∷ hanging) row filled (inl due) =
    subst (λ (t : Bool). AreDue widths (covered_after (s ∷ slots)) (seats_after at
    (if t then h.cell ∷ seated (at + c.width + 1) cells hanging
    else c ∷ seated (at + c.width + 1) cells (h ∷ hanging))))
    (here h.place at (omega (arith, due.0.1.0, row.starts, ap (λ (n : ℕ). start_of widths n) row.stand.0)))
    (due_further widths s slots at h.cell.width h.cell.rows
    (seats_after (at + h.cell.width + 1) (seated (at + c.width + 1) cells hanging))
    (row.starts ∙ ap (λ (n : ℕ). start_of widths n) (sym row.stand.0)) due.0.1.1.0
    (omega (arith, due.0.1.1.1)) row.stand.1.0
    (subst (λ (n : ℕ). AreDue widths (covered_after slots)
    (seats_after (at + n + 1) (seated (at + c.width + 1) cells hanging))) (filled.0.0 ∙ sym due.0.1.1.0)
    (seats_due widths s.last (at + c.width + 1) slots cells hanging
    (row_on widths from at c.width s slots row filled.0.0) filled.1 due.1)))
seats_due widths from at (s ∷ slots) (c ∷ cells) (h ∷ hanging) row filled (inr due) =
    let on : IsRowFrom widths s.last (at + c.width + 1) slots =
    row_on widths from at c.width s slots row filled.0.0 in
    subst (λ (t : Bool). AreDue widths (covered_after (s ∷ slots)) (seats_after at
    (if t then h.cell ∷ seated (at + c.width + 1) cells hanging
    else c ∷ seated (at + c.width + 1) cells (h ∷ hanging))))
    (not_here h.place at
    (omega (arith, on.starts, due_after widths s.last slots (seat_of h) (map seat_of hanging) on.stand due)))
    (due_further widths s slots at c.width c.rows
    (seats_after (at + c.width + 1) (seated (at + c.width + 1) cells (h ∷ hanging)))
    (row.starts ∙ ap (λ (n : ℕ). start_of widths n) (sym row.stand.0)) filled.0.0 filled.0.1 row.stand.1.0
    (seats_due widths s.last (at + c.width + 1) slots cells (h ∷ hanging) on filled.1 due))
