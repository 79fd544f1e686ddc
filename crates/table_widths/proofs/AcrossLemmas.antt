-- Rows across: what cells of rows above take is carried from row to row.
use Rattle.std.proofs.Common.{◌≡◌, ◌+◌, ◌-◌, ◌<◌, ◌≤◌, ◌⊎◌, ◌&&◌, ◌||◌, [], ◌∷◌, ◌∙◌, Bool, List, ap, arith, cond}
use Rattle.std.proofs.Common.{false, inl, inr, length, map, nat_lt, refl, subst, suc, true, zero, ℕ}
use Rattle.std.specs.List.{AllByRecursion, list_any, range_with_len}
use Rattle.std.proofs.lemmas.Bool.Decides.{nat_tests}
use Rattle.table_grid.specs.declared.cell.PlacedCell.{PlacedCell}
use Rattle.table_grid.specs.declared.gaps.Gap.{Gap}
use Rattle.table_grid.specs.PlaceLaws.{placed_at}
use Rattle.table_grid.specs.Places.{right_of, bottom_of}
use Rattle.table_widths.specs.declared.slot.Slot.{Slot}
use Rattle.table_widths.specs.RowLaws.{IsWhole}
use Rattle.table_widths.specs.Slots.{merged, is_shown, has_columns, goes_on, covered, covered_after, across}
use Rattle.table_widths.proofs.EachLemmas.{Has, IsAt, Pairs, at_has, each_kept, each_weaker, has_each, has_kept}
use Rattle.table_widths.proofs.EachLemmas.{has_weaker, kept_has, pairs_kept}
use Rattle.table_widths.proofs.StandLemmas.{EndsBefore, AreInOrder, merging, merged_has, has_merged}
use Rattle.table_widths.proofs.WholeLemmas.{each_of_row, has_own, has_above, row_in_order}
use Rattle.table_widths.proofs.ReachLemmas.{reach, reaches, reach_with, reach_without}
use Rattle.table_widths.proofs.PageLemmas.{IsPage, nobody}
use Rattle.table_widths.proofs.SlotLemmas.{begins_in, cell_row, empty_slot, empty_slots, gaps_each, own_each, own_has}
use Rattle.table_widths.proofs.SlotLemmas.{own_slot, own_slots}
use Rattle.table_widths.proofs.AboveLemmas.{GoesOn, ComesDown, AreAbove, row_apart, whole_here}

any_has : {X : Type 0} (test : X → Bool) (xs : List X) → list_any test xs ≡ true → Has (λ x. test x ≡ true) xs
any_has test [] e = absurd (cc)
any_has test (x ∷ xs) e = by (test x) refl e (λ f. any_has test xs f)
  where
    by : (b : Bool) → test x ≡ b → (b || list_any test xs) ≡ true →
        (list_any test xs ≡ true → Has (λ x. test x ≡ true) xs) → Has (λ x. test x ≡ true) (x ∷ xs)
    by true t e further = inl t
    by false t e further = inr (further e)

has_any : {X : Type 0} (test : X → Bool) (xs : List X) → Has (λ x. test x ≡ true) xs → list_any test xs ≡ true
has_any test [] h = absurd h
has_any test (x ∷ xs) (inl e) = ap (λ (b : Bool). b || list_any test xs) e
has_any test (x ∷ xs) (inr h) = by (test x) (has_any test xs h)
  where
    by : (b : Bool) → list_any test xs ≡ true → (b || list_any test xs) ≡ true
    by true e = refl
    by false e = e

abbrev is_shown_cell : Slot → Bool
is_shown_cell s = s.is_cell && has_columns s

order_covered : (s : Slot) (slots : List Slot) → AllByRecursion (EndsBefore s) slots →
    AllByRecursion (λ t. goes_on s ≡ true → goes_on t ≡ true → EndsBefore (covered s) (covered t)) slots
order_covered s slots h = each_weaker (EndsBefore s)
    (λ t. goes_on s ≡ true → goes_on t ≡ true → EndsBefore (covered s) (covered t)) (λ t o e f. o) slots h

pairs_covered : (slots : List Slot) → AreInOrder slots →
    Pairs (λ s t. goes_on s ≡ true → goes_on t ≡ true → EndsBefore (covered s) (covered t)) slots
pairs_covered [] h = tt
pairs_covered (s ∷ slots) h = (order_covered s slots h.0, pairs_covered slots h.1)

covered_in_order : (slots : List Slot) → AreInOrder slots → AreInOrder (covered_after slots)
covered_in_order slots h = pairs_kept covered goes_on EndsBefore slots (pairs_covered slots h)

goes_more : (s : Slot) → goes_on s ≡ true → 1 < s.rows
goes_more s e = grind (arith, nat_tests)

goes_some : (s : Slot) → goes_on s ≡ true → s.first < s.last
goes_some s e = grind (arith, nat_tests)

goes_passes : (s : Slot) → 1 < s.rows → s.first < s.last → goes_on s ≡ true
goes_passes s more some = grind (arith, nat_tests)

columns_some : (s : Slot) → is_shown_cell s ≡ true → s.first < s.last
columns_some s e = grind (arith, nat_tests)

columns_pass : (s : Slot) → s.is_cell ≡ true → s.first < s.last → is_shown_cell s ≡ true
columns_pass s e lt = grind (arith, nat_tests)

no_cell : (s : Slot) → s.is_cell ≡ false → is_shown_cell s ≡ true → ⊥
no_cell s e f = grind (arith, nat_tests)

one_row : (s : Slot) → s.rows ≡ 1 → goes_on s ≡ true → ⊥
one_row s e f = let m = goes_more s f in omega arith

false_true : (b : Bool) → b ≡ false → b ≡ true → ⊥
false_true b e f = cc

module _ (placed : List PlacedCell) (between : List Gap) (left : ℕ → ℕ) (shown : List ℕ) (total : ℕ)
    (page : IsPage placed between left shown total) where
  abbrev pub row_slots : (row : ℕ) → List Slot
  row_slots row = merged (own_slots placed left shown row) (empty_slots between left row)

  -- ---- a row that is shown
  shown_own : (row : ℕ) → Has (λ s. is_shown_cell s ≡ true) (own_slots placed left shown row) →
      Has (λ r. r ≡ row) shown
  shown_own row h = by (at_has (λ p. (begins_in row p ≡ true) × (is_shown_cell (own_slot left shown p) ≡ true)) placed
      nobody (kept_has (own_slot left shown) (begins_in row) (λ s. is_shown_cell s ≡ true) placed h))
    where
      by : IsAt (λ p. (begins_in row p ≡ true) × (is_shown_cell (own_slot left shown p) ≡ true)) placed nobody →
          Has (λ r. r ≡ row) shown
      by a = subst (λ (n : ℕ). Has (λ r. r ≡ n) shown) (cell_row row (placed_at placed a.place) a.holds.0)
          (page.shown_all a.place a.lt (columns_some (own_slot left shown (placed_at placed a.place)) a.holds.1))

  shown_gap : (row : ℕ) → Has (λ s. is_shown_cell s ≡ true) (empty_slots between left row) → Has (λ r. r ≡ row) shown
  shown_gap row h = has_each (λ s. s.is_cell ≡ false) (λ s. is_shown_cell s ≡ true) (Has (λ r. r ≡ row) shown)
      (λ s e f. absurd (no_cell s e f)) (empty_slots between left row)
      (gaps_each placed between left shown total page row (λ s. s.is_cell ≡ false) (λ g is some. refl)) h

  pub shown_has : (row : ℕ) → is_shown (row_slots row) ≡ true → Has (λ r. r ≡ row) shown
  shown_has row e = by (merged_has (λ s. is_shown_cell s ≡ true)
      (merging (own_slots placed left shown row) (empty_slots between left row))
      (any_has is_shown_cell (row_slots row) e))
    where
      by : Has (λ s. is_shown_cell s ≡ true) (own_slots placed left shown row)
          ⊎ Has (λ s. is_shown_cell s ≡ true) (empty_slots between left row) → Has (λ r. r ≡ row) shown
      by (inl h) = shown_own row h
      by (inr h) = shown_gap row h

  pub has_shown : (row : ℕ) → Has (λ r. r ≡ row) shown → is_shown (row_slots row) ≡ true
  has_shown row here = by (page.shown_some row here)
    where
      by : IsAt (λ p. (p.cell.row ≡ row) × (left p.left < left (right_of p))) placed nobody →
          is_shown (row_slots row) ≡ true
      by a = has_any is_shown_cell (row_slots row)
          (has_merged (λ s. is_shown_cell s ≡ true)
          (merging (own_slots placed left shown row) (empty_slots between left row))
          (own_has placed between left shown total page row (λ s. is_shown_cell s ≡ true) a.place a.lt a.holds.0
          (columns_pass (own_slot left shown (placed_at placed a.place)) refl a.holds.1)))

  -- ---- from row to row
  stays_one : (row : ℕ) (p : PlacedCell) (s : Slot) → (Has (λ r. r ≡ row) shown → ⊥) → GoesOn left shown row p s →
      GoesOn left shown (row + 1) p s
  stays_one row p s away h = record {
    above = let a = h.above in omega arith;
    first = h.first;
    last = h.last;
    rows = h.rows ∙ reach_without shown row (bottom_of p) away;
  }

  -- a row that is left out changes nothing
  pub above_stays : (row : ℕ) (above : List Slot) → AreAbove placed left shown row above →
      (Has (λ r. r ≡ row) shown → ⊥) → AreAbove placed left shown (row + 1) above
  above_stays row above h away = record {
    order = h.order;
    each = each_weaker (ComesDown placed left shown row) (ComesDown placed left shown (row + 1))
        (λ s c. record {
          place = c.place;
          lt = c.lt;
          goes = stays_one row (placed_at placed c.place) s away c.goes;
          some = c.some;
          more = c.more;
        }) above h.each;
    all = all;
  }
    where
      all : (k : ℕ) → k < length placed → (placed_at placed k).cell.row < row + 1 →
          left (placed_at placed k).left < left (right_of (placed_at placed k)) →
          0 < reach shown (row + 1) (bottom_of (placed_at placed k)) →
          Has (GoesOn left shown (row + 1) (placed_at placed k)) above
      all k lt upper some more = by (nat_lt (placed_at placed k).cell.row row) refl
        where
          by : (b : Bool) → nat_lt (placed_at placed k).cell.row row ≡ b →
              Has (GoesOn left shown (row + 1) (placed_at placed k)) above
          by true e = has_weaker (GoesOn left shown row (placed_at placed k))
              (GoesOn left shown (row + 1) (placed_at placed k)) (λ s g. stays_one row (placed_at placed k) s away g)
              above
              (h.all k lt (grind (arith, nat_tests)) some
              (let r = reach_without shown row (bottom_of (placed_at placed k)) away in omega arith))
          by false e =
              let same : (placed_at placed k).cell.row ≡ row = grind (arith, nat_tests) in
              absurd (away (subst (λ (n : ℕ). Has (λ r. r ≡ n) shown) same (page.shown_all k lt some)))

  -- what goes on below a row that is shown
  abbrev GoesDown : (row : ℕ) → Slot → Type 0
  GoesDown row s = goes_on s ≡ true → ComesDown placed left shown (row + 1) (covered s)

  own_goes : (row : ℕ) → Has (λ r. r ≡ row) shown → (k : ℕ) → k < length placed →
      (placed_at placed k).cell.row ≡ row → GoesDown row (own_slot left shown (placed_at placed k))
  own_goes row here k lt same e = record {
    place = k;
    lt = lt;
    goes = record { above = omega arith; first = refl; last = refl; rows = rows };
    some = goes_some (own_slot left shown (placed_at placed k)) e;
    more = let m = goes_more (own_slot left shown (placed_at placed k)) e in omega arith;
  }
    where
      rows : reach shown (placed_at placed k).cell.row (bottom_of (placed_at placed k)) - 1
          ≡ reach shown (row + 1) (bottom_of (placed_at placed k))
      rows =
          let t = page.tall k nobody lt in
          let r = reach_with shown row (bottom_of (placed_at placed k)) page.rows here (omega arith) in
          ap (λ (n : ℕ). reach shown n (bottom_of (placed_at placed k)) - 1) same ∙ (omega arith)

  above_goes : (row : ℕ) → Has (λ r. r ≡ row) shown → (s : Slot) → ComesDown placed left shown row s → GoesDown row s
  above_goes row here s h e = record {
    place = h.place;
    lt = h.lt;
    goes = record {
      above = let a = h.goes.above in omega arith;
      first = h.goes.first;
      last = h.goes.last;
      rows = rows;
    };
    some = h.some;
    more = let m = goes_more s e in omega arith;
  }
    where
      rows : s.rows - 1 ≡ reach shown (row + 1) (bottom_of (placed_at placed h.place))
      rows =
          let m = h.more in
          let g = h.goes.rows in
          let r = reach_with shown row (bottom_of (placed_at placed h.place)) page.rows here
          (reaches shown row (bottom_of (placed_at placed h.place)) (omega arith)) in
          omega arith

  -- after a row that is shown its cells are above too
  pub above_goes_on : (row : ℕ) (above : List Slot) → AreAbove placed left shown row above →
      Has (λ r. r ≡ row) shown →
      AreAbove placed left shown (row + 1) (covered_after (merged (row_slots row) above))
  above_goes_on row above h here = record {
    order = covered_in_order (merged (row_slots row) above)
        (row_in_order (own_slots placed left shown row) (empty_slots between left row) above
        (row_apart placed between left shown total page row above h));
    each = each_kept covered goes_on (ComesDown placed left shown (row + 1)) (merged (row_slots row) above)
        (each_of_row (GoesDown row) (own_slots placed left shown row) (empty_slots between left row) above
        (own_each placed between left shown total page row (GoesDown row)
        (λ k lt same. own_goes row here k lt same))
        (gaps_each placed between left shown total page row (GoesDown row)
        (λ g is some e. absurd (one_row (empty_slot left g) refl e)))
        (each_weaker (ComesDown placed left shown row) (GoesDown row) (above_goes row here) above h.each));
    all = all;
  }
    where
      below : (k : ℕ) → k < length placed → 0 < reach shown (row + 1) (bottom_of (placed_at placed k)) →
          (s : Slot) → s.first < s.last → s.rows ≡ reach shown row (bottom_of (placed_at placed k)) →
          (goes_on s ≡ true) × (s.rows - 1 ≡ reach shown (row + 1) (bottom_of (placed_at placed k)))
      below k lt more s some rows =
          let down = reaches shown (row + 1) (bottom_of (placed_at placed k)) more in
          let r = reach_with shown row (bottom_of (placed_at placed k)) page.rows here (omega arith) in
          (goes_passes s (omega arith) some, omega arith)

      all : (k : ℕ) → k < length placed → (placed_at placed k).cell.row < row + 1 →
          left (placed_at placed k).left < left (right_of (placed_at placed k)) →
          0 < reach shown (row + 1) (bottom_of (placed_at placed k)) →
          Has (GoesOn left shown (row + 1) (placed_at placed k)) (covered_after (merged (row_slots row) above))
      all k lt upper some more = has_kept covered goes_on (GoesOn left shown (row + 1) (placed_at placed k))
          (merged (row_slots row) above) (by (nat_lt (placed_at placed k).cell.row row) refl)
        where
          by : (b : Bool) → nat_lt (placed_at placed k).cell.row row ≡ b →
              Has (λ s. (goes_on s ≡ true) × GoesOn left shown (row + 1) (placed_at placed k) (covered s))
              (merged (row_slots row) above)
          by true e = has_above
              (λ s. (goes_on s ≡ true) × GoesOn left shown (row + 1) (placed_at placed k) (covered s))
              (own_slots placed left shown row) (empty_slots between left row) above
              (has_weaker (GoesOn left shown row (placed_at placed k))
              (λ s. (goes_on s ≡ true) × GoesOn left shown (row + 1) (placed_at placed k) (covered s))
              (λ s g.
              let f = g.first in let l = g.last in let b = below k lt more s (omega arith) g.rows in
              (b.0, record { above = upper; first = g.first; last = g.last; rows = b.1 }))
              above
              (h.all k lt (grind (arith, nat_tests)) some
              (let down = reaches shown (row + 1) (bottom_of (placed_at placed k)) more in
              let r = reach_with shown row (bottom_of (placed_at placed k)) page.rows here (omega arith) in
              omega arith)))
          by false e =
              let same : (placed_at placed k).cell.row ≡ row = grind (arith, nat_tests) in
              let b = below k lt more (own_slot left shown (placed_at placed k)) some
              (ap (λ (n : ℕ). reach shown n (bottom_of (placed_at placed k))) same) in
              has_own (λ s. (goes_on s ≡ true) × GoesOn left shown (row + 1) (placed_at placed k) (covered s))
              (own_slots placed left shown row) (empty_slots between left row) above
              (own_has placed between left shown total page row
              (λ s. (goes_on s ≡ true) × GoesOn left shown (row + 1) (placed_at placed k) (covered s)) k lt same
              (b.0, record { above = upper; first = refl; last = refl; rows = b.1 }))

  -- ---- all rows
  pub rows_are_whole : (n row : ℕ) (above : List Slot) → AreAbove placed left shown row above →
      AllByRecursion (λ slots. is_shown slots ≡ true → IsWhole total slots)
      (across above (map row_slots (range_with_len row n)))
  rows_are_whole zero row above h = tt
  rows_are_whole (suc n) row above h = by (is_shown (row_slots row)) refl
      (λ above h. rows_are_whole n (row + 1) above h)
    where
      by : (b : Bool) → is_shown (row_slots row) ≡ b →
          ((above : List Slot) → AreAbove placed left shown (row + 1) above →
          AllByRecursion (λ slots. is_shown slots ≡ true → IsWhole total slots)
          (across above (map row_slots (range_with_len (row + 1) n)))) →
          AllByRecursion (λ slots. is_shown slots ≡ true → IsWhole total slots)
          (cond b
          (merged (row_slots row) above
          ∷ across (covered_after (merged (row_slots row) above)) (map row_slots (range_with_len (row + 1) n)))
          (row_slots row ∷ across above (map row_slots (range_with_len (row + 1) n))))
      by true e further =
          let here : Has (λ r. r ≡ row) shown = shown_has row e in (
            λ f. whole_here placed between left shown total page row above h here,
            further (covered_after (merged (row_slots row) above)) (above_goes_on row above h here),
          )
      by false e further = (
        λ f. absurd (false_true (is_shown (row_slots row)) e f),
        further above (above_stays row above h (λ here. false_true (is_shown (row_slots row)) e (has_shown row here))),
      )

  -- no cell stands above the first row
  pub none_above : (row : ℕ) → ((k : ℕ) → k < length placed → row ≤ (placed_at placed k).cell.row) →
      AreAbove placed left shown row []
  none_above row first = record {
    order = tt;
    each = tt;
    all = λ k lt upper some more. absurd (let f = first k lt in omega arith);
  }
