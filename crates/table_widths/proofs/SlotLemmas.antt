-- The slots of a row: of its own cells, of its gaps, and of cells of rows above.
use Rattle.std.proofs.Common.{◌≡◌, ◌<◌, ◌≤◌, ◌&&◌, ◌==◌, ◌∙◌, Bool, Contains, List, arith, false, filter, get_or, inl}
use Rattle.std.proofs.Common.{inr, length, map, nat_lt, refl, subst, sym, true, ℕ}
use Rattle.std.specs.List.{AllByRecursion}
use Rattle.std.proofs.lemmas.Bool.Decides.{nat_tests}
use Rattle.std.proofs.lemmas.List.Elements.{recursion_from_All}
use Rattle.table_grid.specs.declared.cell.PlacedCell.{PlacedCell}
use Rattle.table_grid.specs.declared.gaps.Gap.{Gap}
use Rattle.table_grid.specs.Gaps.{IsGap, BeginsIn, IsBefore, gap_of}
use Rattle.table_grid.specs.PlaceLaws.{placed_at}
use Rattle.table_grid.specs.Places.{right_of, bottom_of}
use Rattle.table_widths.specs.declared.slot.Slot.{Slot}
use Rattle.table_widths.proofs.EachLemmas.{Has, each_at, each_kept, each_weaker, has_at, has_kept, pairs_from}
use Rattle.table_widths.proofs.EachLemmas.{pairs_kept}
use Rattle.table_widths.proofs.StandLemmas.{EndsBefore, AreInOrder}
use Rattle.table_widths.proofs.ReachLemmas.{reach}
use Rattle.table_widths.proofs.PageLemmas.{IsPage, nobody}

abbrev pub begins_in : (row : ℕ) → PlacedCell → Bool
begins_in row p = p.cell.row == row

abbrev pub is_gap_in : (ℕ → ℕ) → (row : ℕ) → Gap → Bool
is_gap_in left row g = (g.row == row) && nat_lt (left g.left) (left g.right)

abbrev pub own_slot : (ℕ → ℕ) → List ℕ → PlacedCell → Slot
own_slot left shown p = record {
  first = left p.left;
  last = left (right_of p);
  rows = reach shown p.cell.row (bottom_of p);
  is_cell = true;
}

abbrev pub empty_slot : (ℕ → ℕ) → Gap → Slot
empty_slot left g = record { first = left g.left; last = left g.right; rows = 1; is_cell = false }

-- those of the cells that begin in the row, and of its gaps that have columns left
abbrev pub own_slots : List PlacedCell → (ℕ → ℕ) → List ℕ → (row : ℕ) → List Slot
own_slots placed left shown row = map (own_slot left shown) (filter (begins_in row) placed)

abbrev pub empty_slots : List Gap → (ℕ → ℕ) → (row : ℕ) → List Slot
empty_slots between left row = map (empty_slot left) (filter (is_gap_in left row) between)

gap_row : (left : ℕ → ℕ) (row : ℕ) (g : Gap) → is_gap_in left row g ≡ true → g.row ≡ row
gap_row left row g e = grind (arith, nat_tests)

gap_some : (left : ℕ → ℕ) (row : ℕ) (g : Gap) → is_gap_in left row g ≡ true → left g.left < left g.right
gap_some left row g e = grind (arith, nat_tests)

gap_passes : (left : ℕ → ℕ) (row : ℕ) (g : Gap) → g.row ≡ row → left g.left < left g.right →
    is_gap_in left row g ≡ true
gap_passes left row g e lt = grind (arith, nat_tests)

pub cell_row : (row : ℕ) (p : PlacedCell) → begins_in row p ≡ true → p.cell.row ≡ row
cell_row row p e = grind (arith, nat_tests)

cell_passes : (row : ℕ) (p : PlacedCell) → p.cell.row ≡ row → begins_in row p ≡ true
cell_passes row p e = grind (arith, nat_tests)

module _ (placed : List PlacedCell) (between : List Gap) (left : ℕ → ℕ) (shown : List ℕ) (total : ℕ)
    (page : IsPage placed between left shown total) where
  pub own_each : (row : ℕ) (P : Slot → Type 0) →
      ((k : ℕ) → k < length placed → (placed_at placed k).cell.row ≡ row →
      P (own_slot left shown (placed_at placed k))) → AllByRecursion P (own_slots placed left shown row)
  own_each row P by = each_kept (own_slot left shown) (begins_in row) P placed
      (each_at (λ p. begins_in row p ≡ true → P (own_slot left shown p)) placed nobody
      (λ k lt e. by k lt (cell_row row (placed_at placed k) e)))

  pub gaps_each : (row : ℕ) (P : Slot → Type 0) →
      ((g : Gap) → IsGap placed row g.left g.right → left g.left < left g.right → P (empty_slot left g)) →
      AllByRecursion P (empty_slots between left row)
  gaps_each row P by = each_kept (empty_slot left) (is_gap_in left row) P between
      (each_weaker (λ g. IsGap placed g.row g.left g.right)
      (λ g. is_gap_in left row g ≡ true → P (empty_slot left g))
      (λ g is e. by g (subst (λ (r : ℕ). IsGap placed r g.left g.right) (gap_row left row g e) is)
      (gap_some left row g e)) between
      (recursion_from_All (λ g. IsGap placed g.row g.left g.right) between page.gaps.each))

  pub own_has : (row : ℕ) (P : Slot → Type 0) (k : ℕ) → k < length placed → (placed_at placed k).cell.row ≡ row →
      P (own_slot left shown (placed_at placed k)) → Has P (own_slots placed left shown row)
  own_has row P k lt e h = has_kept (own_slot left shown) (begins_in row) P placed
      (has_at (λ p. (begins_in row p ≡ true) × P (own_slot left shown p)) placed k nobody lt
      (cell_passes row (placed_at placed k) e, h))

  pub gaps_has : (row from to : ℕ) (P : Slot → Type 0) → BeginsIn placed row → IsGap placed row from to →
      left from < left to → P (empty_slot left (gap_of row from to)) → Has P (empty_slots between left row)
  gaps_has row from to P begins is some h =
      let c : Contains between (gap_of row from to) = page.gaps.all row from to begins is in
      has_kept (empty_slot left) (is_gap_in left row) P between
      (has_at (λ g. (is_gap_in left row g ≡ true) × P (empty_slot left g)) between c.0 (gap_of row from to) c.1
      (subst (λ (g : Gap). (is_gap_in left row g ≡ true) × P (empty_slot left g)) (sym c.2)
      (gap_passes left row (gap_of row from to) refl some, h)))

  pub own_in_order : (row : ℕ) → AreInOrder (own_slots placed left shown row)
  own_in_order row = pairs_kept (own_slot left shown) (begins_in row) EndsBefore placed
      (pairs_from (λ p q. begins_in row p ≡ true → begins_in row q ≡ true → left (right_of p) ≤ left q.left) placed
      (λ i j d lt j_lt e f. page.rises (right_of (get_or placed i d)) (get_or placed j d).left
      (page.in_row i j d lt j_lt (cell_row row (get_or placed i d) e ∙ sym (cell_row row (get_or placed j d) f)))))

  gaps_ordered : (row : ℕ) (g h : Gap) → IsBefore g h → is_gap_in left row g ≡ true → is_gap_in left row h ≡ true →
      left g.right ≤ left h.left
  gaps_ordered row g h (inl lt) e f =
      let a = gap_row left row g e in let b = gap_row left row h f in absurd (omega arith)
  gaps_ordered row g h (inr before) e f = page.rises g.right h.left before.1

  pub gaps_in_order : (row : ℕ) → AreInOrder (empty_slots between left row)
  gaps_in_order row = pairs_kept (empty_slot left) (is_gap_in left row) EndsBefore between
      (pairs_from (λ g h. is_gap_in left row g ≡ true → is_gap_in left row h ≡ true → left g.right ≤ left h.left)
      between
      (λ i j d lt j_lt. gaps_ordered row (get_or between i d) (get_or between j d) (page.gaps.order i j d lt j_lt)))
