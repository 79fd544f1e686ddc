-- Leasts and shares meet what the widths ask.
use Rattle.std.proofs.Common.{◌≡◌, ◌+◌, ◌-◌, ◌<◌, ◌≤◌, [], ◌∷◌, ◌∙◌, List, arith, get_or, length, map, sum, sum_by, sym}
use Rattle.std.proofs.Common.{ℕ}
use Rattle.std.proofs.lemmas.List.{get_or-map, length-map}
use Rattle.std.proofs.lemmas.List.Sums.{sum_by-cons, get_or-le-sum_by}
use Rattle.table_grid.specs.declared.columns.Column.{Column}
use Rattle.table_widths.specs.Shares.{AreSized, least_of, least_width, leasts_of, share_of, shares_of, size_of}
use Rattle.table_widths.specs.Shares.{total_of}

abbrev pub no_column : Column
no_column = record { size = 0; least = 0 }

-- a column's least is at most its share
pub least_share : (c : Column) (width total : ℕ) → c.least ≤ c.size → c.least ≤ share_of width total c
least_share c width total le = omega arith

pub total_some : (columns : List Column) (i : ℕ) (d : Column) → AreSized columns → i < length columns →
    0 < total_of columns
total_some columns i d h lt = let a = get_or-le-sum_by size_of columns i d lt in let b = h.some i d lt in omega arith

pub lists_same : (columns : List Column) (width : ℕ) → length (leasts_of columns) ≡ length (shares_of columns width)
lists_same columns width = length-map columns least_of ∙ sym (length-map columns (share_of width (total_of columns)))

pub lists_within : (columns : List Column) (width : ℕ) → AreSized columns → (i : ℕ) → i < length (leasts_of columns) →
    get_or (leasts_of columns) i 0 ≤ get_or (shares_of columns width) i 0
lists_within columns width h i lt =
    let n = length-map columns least_of in
    rw (
      get_or-map least_of columns i no_column 0 (omega arith),
      get_or-map (share_of width (total_of columns)) columns
          i no_column 0 (omega arith),
    )
    (least_share (get_or columns i no_column) width (total_of columns) (h.within i no_column (omega arith)))

sum_map : (columns : List Column) → sum (map least_of columns) ≡ sum_by least_of columns
sum_map [] = omega arith
sum_map (c ∷ cs) = let rest = sum_map cs in let a = sum_by-cons (λ (x : ℕ). x) c.least (map least_of cs) in let b =
    sum_by-cons least_of c cs in omega arith

pub lists_fit : (columns : List Column) (width : ℕ) → least_width columns ≤ width →
    sum (leasts_of columns) + (length (leasts_of columns) - 1) ≤ width
lists_fit columns width le = let s = sum_map columns in let n = length-map columns least_of in omega arith
