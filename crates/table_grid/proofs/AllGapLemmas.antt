-- The gaps that a function gives are those that the relation says.
use Rattle.std.proofs.Common.{◌≡◌, ◌+◌, ◌<◌, ◌≤◌, ◌∙◌, Contains, List, arith, eqb, false, get_or, inl, inr, map, rules}
use Rattle.std.proofs.Common.{subst, sym, ℕ}
use Rattle.std.specs.List.{AllPairs, dedup}
use Rattle.std.specs.List.Sorted.{IsNonDecreasingBy, IsSorted}
use Rattle.std.specs.Ordering.{nat_cmp, is_lt}
use Rattle.std.proofs.lemmas.List.{get_or-map, length-map}
use Rattle.std.proofs.lemmas.List.Elements.{Contains-get_or}
use Rattle.std.proofs.lemmas.List.Kept.{AllPairs-from_increasing, Contains-dedup_nat, Contains-from_dedup}
use Rattle.std.proofs.lemmas.Map.Keys.{IsStrictlyIncreasing-dedup}
use Rattle.table_grid.specs.declared.cell.PlacedCell.{PlacedCell}
use Rattle.table_grid.specs.Gaps.{IsGap, BeginsIn, IsBefore, AreGaps, gap_of}
use Rattle.table_grid.specs.Placing.{gaps_in, gaps_of, row_of}
use Rattle.table_grid.proofs.HoleLemmas.{nobody}
use Rattle.table_grid.proofs.NumberLemmas.{contains_map, flat_each, flat_pairs, flat_contains}
use Rattle.table_grid.proofs.RowGapLemmas.{row_each, row_order, row_all}

not_less : (x y : ℕ) → y ≤ x → is_lt (nat_cmp x y) ≡ false
not_less x y le = search rules

module _ (placed : List PlacedCell) (in_order : IsNonDecreasingBy (λ p. p.cell.row) placed) where
  abbrev rows : List ℕ
  rows = dedup eqb (map row_of placed)

  sorted : IsSorted nat_cmp (map row_of placed)
  sorted k d from lt =
      let n = length-map placed row_of in
      rw (get_or-map row_of placed (k + 1) nobody d (omega arith), get_or-map row_of placed k nobody d (omega arith))
      (not_less (get_or placed (k + 1) nobody).cell.row (get_or placed k nobody).cell.row
      (in_order k (k + 1) nobody (omega arith) (omega arith)))

  rows_rise : AllPairs (λ r s. r < s) rows
  rows_rise = AllPairs-from_increasing rows (IsStrictlyIncreasing-dedup (map row_of placed) sorted)

  begins_in : (row : ℕ) → Contains rows row → BeginsIn placed row
  begins_in row h =
      let c : Contains (map row_of placed) row = Contains-from_dedup eqb (map row_of placed) row h in
      let n = length-map placed row_of in
      let lt = c.1 in
      record {
        place = c.0;
        lt = omega arith;
        at = λ d. sym (get_or-map row_of placed c.0 d row (omega arith)) ∙ c.2;
      }

  row_in : (row : ℕ) → BeginsIn placed row → Contains rows row
  row_in row b = Contains-dedup_nat (map row_of placed) row
      (subst (Contains (map row_of placed)) (b.at nobody)
      (contains_map row_of placed (get_or placed b.place nobody) (Contains-get_or placed b.place nobody b.lt)))

  pub are_gaps : AreGaps placed (gaps_of placed)
  unfolding gaps_of
  are_gaps = record {
    begin = flat_each (gaps_in placed) (λ g. BeginsIn placed g.row) rows
        (λ k r k_lt i d i_lt. subst (BeginsIn placed) (sym (row_each placed (get_or rows k r) i d i_lt).0)
        (begins_in (get_or rows k r) (Contains-get_or rows k r k_lt)));
    each = flat_each (gaps_in placed) (λ g. IsGap placed g.row g.left g.right) rows
        (λ k r k_lt i d i_lt. let e = row_each placed (get_or rows k r) i d i_lt in
        subst (λ (n : ℕ). IsGap placed n (get_or (gaps_in placed (get_or rows k r)) i d).left
        (get_or (gaps_in placed (get_or rows k r)) i d).right) (sym e.0) e.1);
    order = flat_pairs (gaps_in placed) IsBefore rows
        (λ r i j d lt j_lt. inr (
          (row_each placed r i d (omega arith)).0 ∙ sym (row_each placed r j d j_lt).0,
          row_order placed r i j d lt j_lt,
        ))
        (λ r s i j d e lt i_lt j_lt. inl (let a = (row_each placed r i d i_lt).0 in
        let b = (row_each placed s j e j_lt).0 in omega arith))
        rows_rise;
    all = λ row left right b g. flat_contains (gaps_in placed) rows row (gap_of row left right) (row_in row b)
        (row_all placed row left right g);
  }
