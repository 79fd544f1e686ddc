-- From one row to the next.
use Rattle.std.proofs.Common.{◌≡◌, ◌+◌, ◌^◌, ◌<◌, ◌≤◌, [], ◌∙◌, All, Bool, Contains, List, ap, arith, false, get_or}
use Rattle.std.proofs.Common.{length, nat_le, nat_lt, refl, subst, sym, take, take_all, true, ℕ}
use Rattle.std.proofs.lemmas.Bool.Decides.{nat_tests}
use Rattle.std.proofs.lemmas.List.{get_or-take, get_or_default}
use Rattle.std.proofs.lemmas.List.Elements.{All-contains, All-take}
use Rattle.std.proofs.lemmas.List.Sorted.{IsNonDecreasingBy-take}
use Rattle.std.specs.List.Sorted.{IsNonDecreasingBy}
use Rattle.table_grid.specs.declared.cell.Cell.{Cell}
use Rattle.table_grid.specs.declared.cell.PlacedCell.{PlacedCell}
use Rattle.table_grid.specs.declared.covers.Cover.{Cover}
use Rattle.table_grid.specs.declared.ends.RowEnd.{RowEnd}
use Rattle.table_grid.specs.Places.{right_of, bottom_of, ArePlaced}
use Rattle.table_grid.specs.PlaceLaws.{placed_at}
use Rattle.table_grid.specs.Covers.{AllMiss, AreMerged, AreOrdered, EndBefore, IsAfterRow, IsBetweenRows, Misses}
use Rattle.table_grid.specs.Covers.{MissesOne, cover_of, farthest}
use Rattle.table_grid.specs.Ends.{end_of, end_at, AreEnds, AreAbove, HasEnded, AreEnded, MissFrom, IsUpTo}
use Rattle.table_grid.specs.Without.{IsWithout}
use Rattle.table_grid.proofs.ApartLemmas.{standing_apart}
use Rattle.table_grid.proofs.HoleLemmas.{nobody}
use Rattle.table_grid.proofs.LawLemmas.{one_cell, all_placed, rows_placed}
use Rattle.table_grid.proofs.MergeLemmas.{end_weaker}
use Rattle.table_grid.proofs.RowLemmas.{no_place}

nothing_missed : (column : ℕ) → Misses [] column
nothing_missed column = record { misses = λ k d lt. absurd (omega arith) }

nothing_ordered : AreOrdered []
nothing_ordered = record { held = λ k d lt. absurd (omega arith); rising = λ j k lt k_lt. absurd (omega arith) }

pub up_to_first : (cells : List Cell) (ends : List RowEnd) → IsUpTo cells ends 0 [] [] []
up_to_first cells ends = record {
  from = 0;
  within = omega arith;
  so_far = record { same = refl; each = λ k d lt. absurd (omega arith) };
  bounded = λ k d lt. absurd (omega arith);
  upper = λ k d lt. absurd (omega arith);
  next = λ d lt. omega arith;
  over_within = omega arith;
  over_above = λ k lt. absurd (omega arith);
  over_below = λ k le lt. omega arith;
  covers_ordered = nothing_ordered;
  own_ordered = nothing_ordered;
  covers_end = record { within = λ k d lt. absurd (omega arith) };
  own_end = record { within = λ k d lt. absurd (omega arith) };
  apart = λ k d lt. absurd (omega arith);
  fewer = λ column a. (nothing_missed column, nothing_missed column);
  more = λ column a b. record { all = λ k d lt. absurd (omega arith) };
}

module _ (cells : List Cell) (ends : List RowEnd) (over at row : ℕ) (covers own merged ended kept : List Cover)
    (placed : List PlacedCell)
    (in_order : IsNonDecreasingBy (λ c. c.row) cells) (tall : All (λ c. 0 < c.rowspan) cells)
    (lt : length placed < length cells)
    (is_row : row ≡ (get_or cells (length placed) no_place).row) (are_ends : AreEnds cells ends)
    (h : IsUpTo cells ends over covers own placed) where
  from_row : h.from ≤ row
  from_row = let n = h.next no_place lt in omega arith

  -- a cell that stands in the places so far has its end among the ends
  bottom_is : (k : ℕ) (d : PlacedCell) → k < length placed →
      bottom_of (get_or placed k d) ≡ (get_or cells k d.cell).row + (get_or cells k d.cell).rowspan
  bottom_is k d k_lt =
      ap (λ (c : Cell). c.row + c.rowspan)
      (one_cell (take (length placed) cells) placed h.so_far k d k_lt
      ∙ get_or-take (length placed) cells k d.cell k_lt)

  -- whose row span ends is placed
  pub is_placed : All (λ e. e.bottom ≤ row → e.place < length placed) ends
  is_placed i d i_lt le = by (nat_lt (get_or ends i d).place (length placed)) refl
    where
      by : (b : Bool) → nat_lt (get_or ends i d).place (length placed) ≡ b → (get_or ends i d).place < length placed
      by true e = grind (arith, nat_tests)
      by false e =
          let one = are_ends.each i d i_lt in
          let within = one.within in
          let is = one.is no_place in
          let high = tall (get_or ends i d).place no_place within in
          let rows = in_order (length placed) (get_or ends i d).place no_place (grind (arith, nat_tests)) within in
          let same = is_row in
          absurd (omega arith)

  module _ (are_ended : AreEnded ends over at placed row ended) where
    -- such a cell is one of those so far, and its row span reaches the last row, but not this one
    pub ended_some : All (λ p. 0 < p.cell.colspan) placed → All (λ c. c.left < c.right) ended
    ended_some wide i d i_lt =
        let e = are_ended.each i d i_lt in
        let place : (end_at ends e.place).place < length placed =
        is_placed e.place (record { place = 0; bottom = 0 }) (let t = e.to in let w = are_ended.within in omega arith)
        (are_ended.above e.place e.from e.to) in
        subst (λ (c : Cover). c.left < c.right) (sym e.is)
        (let w = wide (end_at ends e.place).place nobody place in omega arith)

    pub now_above : AreAbove ends at row
    now_above = record {
      within = are_ended.within;
      above = λ k k_lt. by k (nat_lt k over) refl k_lt;
      below = λ k le k_lt. let b = are_ended.below (omega arith) in let r =
          are_ends.rising at k (record { place = 0; bottom = 0 }) le k_lt in omega arith;
    }
      where
        by : (k : ℕ) → (b : Bool) → nat_lt k over ≡ b → k < at → (end_at ends k).bottom ≤ row
        by k true e k_lt = let a = h.over_above k (grind (arith, nat_tests)) in let f = from_row in omega arith
        by k false e k_lt = are_ended.above k (grind (arith, nat_tests)) k_lt

    module _ (m : AreMerged covers own merged) (w : IsWithout merged ended kept) where
      -- a cell whose row span ends before this row is among those that end
      is_ended : (k : ℕ) (d : PlacedCell) → k < length placed → h.from ≤ bottom_of (get_or placed k d) →
          bottom_of (get_or placed k d) ≤ row →
          Contains ended (cover_of (get_or placed k d))
      is_ended k d k_lt reach le = by (nat_lt place over) (nat_lt place at) refl refl
        where
          here : Contains ends (end_of k (get_or cells k d.cell))
          here = are_ends.all k d.cell (omega arith)

          place : ℕ
          place = here.0

          none : RowEnd
          none = record { place = 0; bottom = 0 }

          same : end_at ends place ≡ end_of k (get_or cells k d.cell)
          same = get_or_default ends place none (end_of k (get_or cells k d.cell)) here.1 ∙ here.2

          bottom_same : (end_at ends place).bottom ≡ bottom_of (get_or placed k d)
          bottom_same = ap (λ (e : RowEnd). e.bottom) same ∙ sym (bottom_is k d k_lt)

          by : (b c : Bool) → nat_lt place over ≡ b → nat_lt place at ≡ c →
              Contains ended (cover_of (get_or placed k d))
          by true c e f = let a = h.over_above place (grind (arith, nat_tests)) in let s = bottom_same in
              absurd (omega arith)
          by false true e f =
              let c : Contains ended (cover_of (placed_at placed (end_at ends place).place)) =
              are_ended.all place (grind (arith, nat_tests)) (grind (arith, nat_tests)) in
              let p : placed_at placed (end_at ends place).place ≡ get_or placed k d =
              ap (λ (n : ℕ). placed_at placed n) (ap (λ (e : RowEnd). e.place) same)
              ∙ get_or_default placed k nobody d k_lt in
              subst (λ (x : PlacedCell). Contains ended (cover_of x)) p c
          by false false e f =
              let b = now_above.below place (grind (arith, nat_tests)) here.1 in let s = bottom_same in
              absurd (omega arith)

      fewer : (column : ℕ) → AllMiss placed row column → Misses kept column
      fewer column a = record { misses = λ k d k_lt left right. taken k d k_lt left right }
        where
          taken : (k : ℕ) (d : Cover) → k < length kept → (get_or kept k d).left ≤ column →
              column < (get_or kept k d).right → ⊥
          taken k d k_lt left right =
              (w.fewer column (m.fewer column (h.fewer column misses).0 (h.fewer column misses).1)).misses k d k_lt left
              right
            where
              ended_misses : All (λ e. MissesOne e column) ended
              ended_misses j e j_lt from to = (w.apart column (λ miss. miss.misses j e j_lt from to)).misses k d k_lt
                  left right

              misses : MissFrom placed h.from column
              misses =
                  record {
                    all = λ j p j_lt reach from to. by j p j_lt reach from to
                        (nat_le (bottom_of (get_or placed j p)) row) refl;
                  }
                where
                  by : (j : ℕ) (p : PlacedCell) → j < length placed → h.from ≤ bottom_of (get_or placed j p) →
                      (get_or placed j p).left ≤ column →
                      column < right_of (get_or placed j p) → (b : Bool) → nat_le (bottom_of (get_or placed j p)) row
                      ≡ b → ⊥
                  by j p j_lt reach from to true e =
                      All-contains (λ c. MissesOne c column) ended (cover_of (get_or placed j p)) ended_misses
                      (is_ended j p j_lt reach (grind (arith, nat_tests))) from to
                  by j p j_lt reach from to false e = a.all j p j_lt (grind (arith, nat_tests)) from to

      more : (column : ℕ) → Misses kept column → AllMiss placed row column
      more column a = record { all = λ k p k_lt reach from to. stands k p k_lt reach from to }
        where
          stands : (k : ℕ) (p : PlacedCell) → k < length placed → row < bottom_of (get_or placed k p) →
              (get_or placed k p).left ≤ column →
              column < right_of (get_or placed k p) → ⊥
          stands k p k_lt reach from to =
              let both =
              m.more column
              (w.more column a (record { misses = λ i e i_lt left right. not_ended i e i_lt left right })) in
              (h.more column both.0 both.1).all k p k_lt (let f = from_row in omega arith) from to
            where
              rows : IsNonDecreasingBy (λ p. p.cell.row) placed
              rows = rows_placed (take (length placed) cells) placed h.so_far
                  (IsNonDecreasingBy-take (λ c. c.row) (length placed) cells in_order)

              clash : (j : ℕ) → j < length placed → h.from ≤ bottom_of (get_or placed j p) →
                  bottom_of (get_or placed j p) ≤ row → (get_or placed j p).left ≤ column →
                  column < right_of (get_or placed j p) → (b c : Bool) → nat_lt j k ≡ b → nat_lt k j ≡ c → ⊥
              clash j j_lt j_reach le left right true c e f =
                  standing_apart (take (length placed) cells) placed h.so_far rows j k (get_or placed k p).cell.row
                  column p (grind (arith, nat_tests)) k_lt
                  (let u = h.upper k p k_lt in omega arith) (omega arith) left right from to
              clash j j_lt j_reach le left right false true e f =
                  standing_apart (take (length placed) cells) placed h.so_far rows k j (get_or placed j p).cell.row
                  column p (grind (arith, nat_tests)) j_lt
                  (let u = h.upper j p j_lt in let g = from_row in omega arith) (omega arith) from to left right
              clash j j_lt j_reach le left right false false e f =
                  let same : j ≡ k = grind (arith, nat_tests) in
                  let high : row < bottom_of (get_or placed j p) =
                  subst (λ (n : ℕ). row < bottom_of (get_or placed n p)) (sym same) reach in omega arith

              not_ended : (i : ℕ) (e : Cover) → i < length ended → (get_or ended i e).left ≤ column →
                  column < (get_or ended i e).right → ⊥
              not_ended i e i_lt left right =
                  clash q q_lt reached low
                  (subst (λ (c : Cover). c.left ≤ column) is left) (subst (λ (c : Cover). column < c.right) is right)
                  (nat_lt q k) (nat_lt k q) refl refl
                where
                  one : HasEnded ends over at placed (get_or ended i e)
                  one = are_ended.each i e i_lt

                  none : RowEnd
                  none = record { place = 0; bottom = 0 }

                  q : ℕ
                  q = (end_at ends one.place).place

                  e_lt : one.place < length ends
                  e_lt = let t = one.to in let x = are_ended.within in omega arith

                  q_lt : q < length placed
                  q_lt = is_placed one.place none e_lt (are_ended.above one.place one.from one.to)

                  bottom : bottom_of (get_or placed q p) ≡ (end_at ends one.place).bottom
                  bottom = bottom_is q p q_lt ∙ sym ((are_ends.each one.place none e_lt).is p.cell)

                  reached : h.from ≤ bottom_of (get_or placed q p)
                  reached = let b = h.over_below one.place one.from e_lt in let s = bottom in omega arith

                  low : bottom_of (get_or placed q p) ≤ row
                  low = let b = are_ended.above one.place one.from one.to in let s = bottom in omega arith

                  is : get_or ended i e ≡ cover_of (get_or placed q p)
                  is = one.is ∙ ap (λ (x : PlacedCell). cover_of x) (get_or_default placed q nobody p q_lt)

      -- before the next row
      pub between : IsBetweenRows cells row kept placed
      between = record {
        within = h.within;
        so_far = h.so_far;
        above = λ k d k_lt. let u = h.upper k d k_lt in let f = from_row in omega arith;
        bounded = h.bounded;
        whole = w.whole;
        ends = w.ends (farthest (length placed)) (m.ends (farthest (length placed)) h.covers_end h.own_end);
        fewer = fewer;
        more = more;
      }

-- after it
pub after_up_to : (cells : List Cell) (ends : List RowEnd) (over row : ℕ) (covers own : List Cover)
    (old placed : List PlacedCell) →
    IsNonDecreasingBy (λ c. c.row) cells →
    row ≡ (get_or cells (length old) no_place).row → length old < length cells → AreAbove ends over row →
    AreOrdered covers → EndBefore covers (farthest (length old)) →
    IsAfterRow cells row covers own old placed → IsUpTo cells ends over covers own placed
after_up_to cells ends over row covers own old placed in_order at lt above whole ends_before h = record {
  from = row + 1;
  within = h.within;
  so_far = h.so_far;
  bounded = h.bounded;
  upper = λ k d k_lt. let u = h.upper k d k_lt in omega arith;
  next = λ e p_lt. let n = next e p_lt in omega arith;
  over_within = above.within;
  over_above = λ k k_lt. let a = above.above k k_lt in omega arith;
  over_below = λ k le k_lt. let b = above.below k le k_lt in omega arith;
  covers_ordered = whole;
  own_ordered = h.ordered;
  covers_end = end_weaker covers (farthest (length old)) (farthest (length placed)) (let a = h.farther in omega arith)
      ends_before;
  own_end = h.ends;
  apart = h.apart;
  fewer = λ column a. h.fewer column (record { all = λ k d k_lt reach. a.all k d k_lt (omega arith) });
  more = λ column a b. record { all = λ k d k_lt reach. (h.more column a b).all k d k_lt (omega arith) };
}
  where
    next : (e : Cell) → length placed < length cells → row < (get_or cells (length placed) e).row
    next e p_lt = let a : (get_or cells (length old) no_place).row ≤ (get_or cells (length placed) e).row =
        subst (λ (x : Cell). (get_or cells (length old) no_place).row ≤ x.row)
        (get_or_default cells (length placed) no_place e p_lt)
        (in_order (length old) (length placed) no_place h.farther p_lt) in let b = at in let differs = h.over e p_lt in
        grind arith

pub up_to_end : (cells : List Cell) (ends : List RowEnd) (over : ℕ) (covers own : List Cover) (placed : List PlacedCell)
    →
    IsUpTo cells ends over covers own placed → length cells ≤ length placed → ArePlaced cells placed
up_to_end cells ends over covers own placed h le =
    subst (λ (xs : List Cell). ArePlaced xs placed) (take_all (length placed) cells le) h.so_far

pub up_to_small : (cells : List Cell) (ends : List RowEnd) (over : ℕ) (covers own : List Cover)
    (placed : List PlacedCell) →
    IsUpTo cells ends over covers own placed → length cells < 2 ^ 64 → All (λ p. right_of p < 2 ^ 128) placed
up_to_small cells ends over covers own placed h few k d lt = let a = h.bounded k d lt in let w = h.within in omega arith

pub wide_so_far : (cells : List Cell) (placed : List PlacedCell) → ArePlaced (take (length placed) cells) placed →
    All (λ c. 0 < c.colspan) cells → All (λ p. 0 < p.cell.colspan) placed
wide_so_far cells placed h some = all_placed (λ c. 0 < c.colspan) (take (length placed) cells) placed h
    (All-take (λ c. 0 < c.colspan) (length placed) cells some)
