-- Columns, and what is left of them.
use Rattle.std.proofs.Common.{◌≡◌, ◌+◌, ◌-◌, ◌<◌, ◌≤◌, ◌&&◌, [], ◌∷◌, ◌++◌, ◌∙◌, All, List, ap, arith, cond, count_by}
use Rattle.std.proofs.Common.{get_or, length, map, nat_le, nat_lt, sym, take, take_all, ℕ}
use Rattle.std.specs.List.{range_with_len}
use borrow.Author.Count.{below_more}
use Rattle.std.proofs.lemmas.Bool.Decides.{nat_tests}
use Rattle.std.proofs.lemmas.List.{get_or_append_left, get_or_push}
use Rattle.std.proofs.lemmas.List.Sums.{sum_by-cons}
use Rattle.std.proofs.lemmas.List.Elements.{All-map}
use Rattle.std.proofs.lemmas.List.FromFn.{get_or-map-range_with_len, map-range_with_len_more}
use Rattle.table_grid.specs.Columns.{greatest_at, greatest_parts_of, AreWithin}
use Rattle.table_grid.specs.declared.edges.SpannedCell.{SpannedCell}
use Rattle.table_grid.specs.declared.columns.Column.{Column}
use Rattle.table_grid.specs.Grid.{rank, size_part, least_part, column_at, has_size, left_before}

pub sizes_within : (cells : List SpannedCell) (count : ℕ) → All (λ s. s.first < s.last) cells →
    All (λ s. s.last ≤ count) cells → AreWithin (map size_part cells) count
sizes_within cells count some within =
    record {
      some = All-map (λ p. p.first < p.last) size_part cells some;
      within =
          All-map (λ p. p.last ≤ count) size_part cells within;
    }

pub leasts_within : (cells : List SpannedCell) (count : ℕ) → All (λ s. s.first < s.last) cells →
    All (λ s. s.last ≤ count) cells → AreWithin (map least_part cells) count
leasts_within cells count some within =
    record {
      some = All-map (λ p. p.first < p.last) least_part cells some;
      within =
          All-map (λ p. p.last ≤ count) least_part cells within;
    }

pub columns_more : (cells : List SpannedCell) (count at size least : ℕ) → at < count →
    size ≡ get_or (greatest_parts_of (map size_part cells) count) at 0 →
    least ≡ get_or (greatest_parts_of (map least_part cells) count) at 0 →
    map (column_at cells) (range_with_len 0 at) ++ record { size = size; least = least } ∷
    [] ≡ map (column_at cells) (range_with_len 0 (at + 1))
columns_more cells count at size least lt s l =
    let es : size ≡ greatest_at (map size_part cells) at =
    s ∙ get_or-map-range_with_len (greatest_at (map size_part cells)) 0 count at at 0 lt (omega arith) in
    let el : least ≡ greatest_at (map least_part cells) at =
    l ∙ get_or-map-range_with_len (greatest_at (map least_part cells)) 0 count at at 0 lt (omega arith) in
    let more = map-range_with_len_more (column_at cells) 0 at at (omega arith) in
    rw (es, el) (sym more)

-- the numbers from low to before high are those before high less those before low
pub ranks_between : (xs : List ℕ) (low high : ℕ) → low ≤ high →
    count_by (λ x. nat_le low x && nat_lt x high) xs ≡ rank xs high - rank xs low
unfolding rank
ranks_between xs low high le = let whole = sum xs in omega arith
  where
    sum : (xs : List ℕ) → count_by (λ x. nat_le low x && nat_lt x high) xs + count_by (λ x. nat_lt x low) xs
        ≡ count_by (λ x. nat_lt x high) xs
    sum [] = omega arith
    sum (x ∷ xs) =
        let a = sum_by-cons (λ x. cond (nat_le low x && nat_lt x high) 1 0) x xs in
        let b = sum_by-cons (λ x. cond (nat_lt x low) 1 0) x xs in
        let c = sum_by-cons (λ x. cond (nat_lt x high) 1 0) x xs in
        let rest = sum xs in
        grind (arith, nat_tests)

pub counts_all : (counts : List ℕ) (columns : List Column) (count : ℕ) → length counts ≡ length columns →
    count ≡ count_by has_size columns →
    ((c : ℕ) → c < length columns → get_or counts c 0 ≡ count_by has_size (take c columns)) →
    (c : ℕ) → c ≤ length columns → get_or (counts ++ count ∷ []) c 0 ≡ left_before columns c
unfolding left_before
counts_all counts columns count same whole each c le =
    below_more (λ (c : ℕ). get_or (counts ++ count ∷ []) c 0 ≡ count_by has_size (take c columns)) (length columns)
    (λ k lt. get_or_append_left counts (count ∷ []) 0 k (omega arith) ∙ each k lt)
    (get_or_push counts count 0 (length columns) same ∙ whole
    ∙ ap (count_by has_size) (sym (take_all (length columns) columns (omega arith)))) c (omega arith)
