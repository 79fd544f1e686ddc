-- A row among places that cells of rows above take: it is whole.
use Rattle.std.proofs.Common.{◌≡◌, ◌<◌, ◌≤◌, ◌⊎◌, ◌∙◌, Bool, List, ap, arith, false, inl, inr, length, nat_lt, refl}
use Rattle.std.proofs.Common.{subst, sym, true, ℕ}
use Rattle.std.specs.List.{AllByRecursion}
use Rattle.std.proofs.lemmas.Bool.Decides.{nat_tests}
use Rattle.std.proofs.lemmas.List.{get_or_default}
use Rattle.table_grid.specs.declared.cell.PlacedCell.{PlacedCell}
use Rattle.table_grid.specs.declared.gaps.Gap.{Gap}
use Rattle.table_grid.specs.Gaps.{IsGap, BeginsIn}
use Rattle.table_grid.specs.PlaceLaws.{StandsIn, placed_at}
use Rattle.table_grid.specs.Places.{right_of, bottom_of}
use Rattle.table_widths.specs.declared.slot.Slot.{Slot}
use Rattle.table_widths.specs.RowLaws.{IsWhole}
use Rattle.table_widths.specs.Slots.{merged}
use Rattle.table_widths.proofs.EachLemmas.{Has, IsAt, each_weaker, has_weaker}
use Rattle.table_widths.proofs.StandLemmas.{EndsAt, AreInOrder, AreApart}
use Rattle.table_widths.proofs.WholeLemmas.{BeginsAmong, AreApartInRow, AreParts, row_is_whole}
use Rattle.table_widths.proofs.ReachLemmas.{reach, reaches, reach_with}
use Rattle.table_widths.proofs.PageLemmas.{IsPage, IsItem, HasItemTo, cells_apart, gap_apart, item_begins, nobody}
use Rattle.table_widths.proofs.SlotLemmas.{empty_slot, empty_slots, gaps_each, gaps_has, gaps_in_order, own_each}
use Rattle.table_widths.proofs.SlotLemmas.{own_has, own_in_order, own_slot, own_slots}

-- the slot is that of a cell of a row above, as far as it is still to be counted
pub record GoesOn (left : ℕ → ℕ) (shown : List ℕ) (row : ℕ) (p : PlacedCell) (s : Slot) : Type 0 where
  pub above : p.cell.row < row
  pub first : s.first ≡ left p.left
  pub last : s.last ≡ left (right_of p)
  pub rows : s.rows ≡ reach shown row (bottom_of p)

pub record ComesDown (placed : List PlacedCell) (left : ℕ → ℕ) (shown : List ℕ) (row : ℕ) (s : Slot) : Type 0 where
  pub place : ℕ
  pub lt : place < length placed
  pub goes : GoesOn left shown row (placed_at placed place) s
  pub some : s.first < s.last
  pub more : 0 < s.rows

-- the places of the cells of rows above that reach this row or a later one that is shown
pub record AreAbove (placed : List PlacedCell) (left : ℕ → ℕ) (shown : List ℕ) (row : ℕ) (above : List Slot) : Type 0
  where
    pub order : AreInOrder above
    pub each : AllByRecursion (ComesDown placed left shown row) above
    pub all : (k : ℕ) → k < length placed → (placed_at placed k).cell.row < row →
        left (placed_at placed k).left < left (right_of (placed_at placed k)) →
        0 < reach shown row (bottom_of (placed_at placed k)) →
        Has (GoesOn left shown row (placed_at placed k)) above

module _ (placed : List PlacedCell) (between : List Gap) (left : ℕ → ℕ) (shown : List ℕ) (total : ℕ)
    (page : IsPage placed between left shown total) (row : ℕ) (above : List Slot)
    (are : AreAbove placed left shown row above) where
  own_stands : (k : ℕ) → k < length placed → (placed_at placed k).cell.row ≡ row → StandsIn row (placed_at placed k)
  own_stands k lt e = record {
    upper = omega arith;
    reach = let t = page.tall k nobody lt in omega arith;
  }

  above_stands : (s : Slot) (h : ComesDown placed left shown row s) → StandsIn row (placed_at placed h.place)
  above_stands s h = record {
    upper = let a = h.goes.above in omega arith;
    reach = reaches shown row (bottom_of (placed_at placed h.place))
        (let m = h.more in let r = h.goes.rows in omega arith);
  }

  own_above_apart : (k : ℕ) → k < length placed → (placed_at placed k).cell.row ≡ row → (s : Slot) →
      ComesDown placed left shown row s → AreApart (own_slot left shown (placed_at placed k)) s
  own_above_apart k lt e s h = by (cells_apart placed between left shown total page row k h.place lt h.lt
      (λ same. other (subst (λ (n : ℕ). (placed_at placed n).cell.row ≡ row) same e)) (own_stands k lt e)
      (above_stands s h))
    where
      other : (placed_at placed h.place).cell.row ≡ row → ⊥
      other f = let a = h.goes.above in omega arith

      by : (right_of (placed_at placed k) ≤ (placed_at placed h.place).left)
          ⊎ (right_of (placed_at placed h.place) ≤ (placed_at placed k).left) →
          AreApart (own_slot left shown (placed_at placed k)) s
      by (inl le) = inl (let r = page.rises (right_of (placed_at placed k)) (placed_at placed h.place).left le in
          let f = h.goes.first in omega arith)
      by (inr le) = inr (let r = page.rises (right_of (placed_at placed h.place)) (placed_at placed k).left le in
          let l = h.goes.last in omega arith)

  gap_above_apart : (g : Gap) → IsGap placed row g.left g.right → (s : Slot) →
      ComesDown placed left shown row s → AreApart (empty_slot left g) s
  gap_above_apart g is s h = by (gap_apart placed between left shown total page row g.left g.right h.place is h.lt
      (above_stands s h))
    where
      by : (g.right ≤ (placed_at placed h.place).left) ⊎ (right_of (placed_at placed h.place) ≤ g.left) →
          AreApart (empty_slot left g) s
      by (inl le) = inl (let r = page.rises g.right (placed_at placed h.place).left le in
          let f = h.goes.first in omega arith)
      by (inr le) = inr (let r = page.rises (right_of (placed_at placed h.place)) g.left le in
          let l = h.goes.last in omega arith)

  own_gap_apart : (k : ℕ) → k < length placed → (placed_at placed k).cell.row ≡ row → (g : Gap) →
      IsGap placed row g.left g.right → AreApart (own_slot left shown (placed_at placed k)) (empty_slot left g)
  own_gap_apart k lt e g is = by (gap_apart placed between left shown total page row g.left g.right k is lt
      (own_stands k lt e))
    where
      by : (g.right ≤ (placed_at placed k).left) ⊎ (right_of (placed_at placed k) ≤ g.left) →
          AreApart (own_slot left shown (placed_at placed k)) (empty_slot left g)
      by (inl le) = inr (page.rises g.right (placed_at placed k).left le)
      by (inr le) = inl (page.rises (right_of (placed_at placed k)) g.left le)

  pub row_apart : AreApartInRow (own_slots placed left shown row) (empty_slots between left row) above
  row_apart = record {
    own_order = own_in_order placed between left shown total page row;
    gaps_order = gaps_in_order placed between left shown total page row;
    above_order = are.order;
    own_some = own_each placed between left shown total page row (λ s. s.first ≤ s.last)
        (λ k lt e. page.rises (placed_at placed k).left (right_of (placed_at placed k)) (omega arith));
    gaps_some = gaps_each placed between left shown total page row (λ s. s.first < s.last) (λ g is some. some);
    above_some = each_weaker (ComesDown placed left shown row) (λ s. s.first < s.last) (λ s h. h.some) above
        are.each;
    own_gaps = own_each placed between left shown total page row
        (λ s. AllByRecursion (AreApart s) (empty_slots between left row))
        (λ k lt e. gaps_each placed between left shown total page row
        (AreApart (own_slot left shown (placed_at placed k))) (λ g is some. own_gap_apart k lt e g is));
    own_above = own_each placed between left shown total page row (λ s. AllByRecursion (AreApart s) above)
        (λ k lt e. each_weaker (ComesDown placed left shown row) (AreApart (own_slot left shown (placed_at placed k)))
        (own_above_apart k lt e) above are.each);
    gaps_above = gaps_each placed between left shown total page row (λ s. AllByRecursion (AreApart s) above)
        (λ g is some. each_weaker (ComesDown placed left shown row) (AreApart (empty_slot left g))
        (gap_above_apart g is) above are.each);
  }

  -- ---- where slots begin
  begins_here : Has (λ r. r ≡ row) shown → BeginsIn placed row
  begins_here here = by (page.shown_some row here)
    where
      by : IsAt (λ p. (p.cell.row ≡ row) × (left p.left < left (right_of p))) placed nobody → BeginsIn placed row
      by a = record {
        place = a.place;
        lt = a.lt;
        at = λ d. ap (λ (p : PlacedCell). p.cell.row) (get_or_default placed a.place d nobody a.lt) ∙ a.holds.0;
      }

  -- a cell or a gap with columns is among the slots of the row
  cell_among : Has (λ r. r ≡ row) shown → (k column : ℕ) → k < length placed → StandsIn row (placed_at placed k) →
      left (placed_at placed k).left < left (right_of (placed_at placed k)) →
      left (right_of (placed_at placed k)) ≡ column →
      Has (EndsAt column) (own_slots placed left shown row) ⊎ Has (EndsAt column) above
  cell_among here k column lt stands some ends = by (nat_lt (placed_at placed k).cell.row row) refl
    where
      by : (b : Bool) → nat_lt (placed_at placed k).cell.row row ≡ b →
          Has (EndsAt column) (own_slots placed left shown row) ⊎ Has (EndsAt column) above
      by true e =
          let more = reach_with shown row (bottom_of (placed_at placed k)) page.rows here stands.reach in
          inr
          (has_weaker (GoesOn left shown row (placed_at placed k)) (EndsAt column)
          (λ s h. (let f = h.first in let l = h.last in omega arith, h.last ∙ ends)) above
          (are.all k lt (grind (arith, nat_tests)) some (omega arith)))
      by false e =
          let upper = stands.upper in
          let same : (placed_at placed k).cell.row ≡ row = grind (arith, nat_tests) in
          inl (own_has placed between left shown total page row (EndsAt column) k lt same (some, ends))

  among : Has (λ r. r ≡ row) shown → (column : ℕ) → HasItemTo placed left row column →
      Has (EndsAt column) (own_slots placed left shown row)
      ⊎ (Has (EndsAt column) (empty_slots between left row) ⊎ Has (EndsAt column) above)
  among here column h = by h.item
    where
      cell : Has (EndsAt column) (own_slots placed left shown row) ⊎ Has (EndsAt column) above →
          Has (EndsAt column) (own_slots placed left shown row)
          ⊎ (Has (EndsAt column) (empty_slots between left row) ⊎ Has (EndsAt column) above)
      cell (inl k) = inl k
      cell (inr k) = inr (inr k)

      by : IsItem placed row h.from h.to → Has (EndsAt column) (own_slots placed left shown row)
          ⊎ (Has (EndsAt column) (empty_slots between left row) ⊎ Has (EndsAt column) above)
      by (inl c) = cell (cell_among here c.place column c.lt c.stands
          (subst (λ (x : ℕ). left x < left (right_of (placed_at placed c.place))) (sym c.begins)
          (subst (λ (x : ℕ). left h.from < left x) (sym c.ends) h.some))
          (ap left c.ends ∙ h.ends))
      by (inr g) = inr (inl (gaps_has placed between left shown total page row h.from h.to (EndsAt column)
          (begins_here here) g h.some (h.some, h.ends)))

  slot_begins : Has (λ r. r ≡ row) shown → (from to : ℕ) (s : Slot) → IsItem placed row from to → s.first ≡ left from →
      BeginsAmong (own_slots placed left shown row) (empty_slots between left row) above s
  slot_begins here from to s item e =
      subst (λ (x : ℕ). (x ≡ 0) ⊎ (Has (EndsAt x) (own_slots placed left shown row)
      ⊎ (Has (EndsAt x) (empty_slots between left row) ⊎ Has (EndsAt x) above))) (sym e)
      (by (item_begins placed between left shown total page from row from to (omega arith) item))
    where
      by : (left from ≡ 0) ⊎ HasItemTo placed left row (left from) →
          (left from ≡ 0) ⊎ (Has (EndsAt (left from)) (own_slots placed left shown row)
          ⊎ (Has (EndsAt (left from)) (empty_slots between left row) ⊎ Has (EndsAt (left from)) above))
      by (inl z) = inl z
      by (inr h) = inr (among here (left from) h)

  pub row_parts : Has (λ r. r ≡ row) shown →
      AreParts total (own_slots placed left shown row) (empty_slots between left row) above
  row_parts here = record {
    apart = row_apart;
    own_begin = own_each placed between left shown total page row
        (BeginsAmong (own_slots placed left shown row) (empty_slots between left row) above)
        (λ k lt e. slot_begins here (placed_at placed k).left (right_of (placed_at placed k))
        (own_slot left shown (placed_at placed k))
        (inl (record { place = k; lt = lt; stands = own_stands k lt e; begins = refl; ends = refl })) refl);
    gaps_begin = gaps_each placed between left shown total page row
        (BeginsAmong (own_slots placed left shown row) (empty_slots between left row) above)
        (λ g is some. slot_begins here g.left g.right (empty_slot left g) (inr is) refl);
    above_begin = each_weaker (ComesDown placed left shown row)
        (BeginsAmong (own_slots placed left shown row) (empty_slots between left row) above)
        (λ s h. slot_begins here (placed_at placed h.place).left (right_of (placed_at placed h.place)) s
        (inl (record { place = h.place; lt = h.lt; stands = above_stands s h; begins = refl; ends = refl }))
        h.goes.first) above are.each;
    own_within = own_each placed between left shown total page row (λ s. s.last ≤ total)
        (λ k lt e. page.within (right_of (placed_at placed k)));
    gaps_within = gaps_each placed between left shown total page row (λ s. s.last ≤ total)
        (λ g is some. page.within g.right);
    above_within = each_weaker (ComesDown placed left shown row) (λ s. s.last ≤ total)
        (λ s h. let w = page.within (right_of (placed_at placed h.place)) in let l = h.goes.last in omega arith) above
        are.each;
  }

  pub whole_here : Has (λ r. r ≡ row) shown →
      IsWhole total (merged (merged (own_slots placed left shown row) (empty_slots between left row)) above)
  whole_here here = row_is_whole total (own_slots placed left shown row) (empty_slots between left row) above
      (row_parts here)
