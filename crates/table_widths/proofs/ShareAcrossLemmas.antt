-- The widths of a table's columns, as a function.
use Rattle.std.proofs.Common.{◌≡◌, ◌+◌, ◌<◌, ◌≤◌, if◌then◌else◌, ◌∙◌, Bool, IfSome, List, None, Some, ap, arith, false}
use Rattle.std.proofs.Common.{length, nat_le, nat_lt, refl, sum, sum_by, true, ℕ}
use Rattle.std.proofs.lemmas.List.{length-map}
use Rattle.std.proofs.lemmas.Bool.Decides.{nat_tests}
use Rattle.table_widths.specs.declared.column.ColumnShare.{ColumnShare}
use Rattle.table_widths.specs.TheWidths.{widths_of}
use Rattle.table_widths.specs.Widths.{IsColumnWidths, columns_of, least_of as column_least, separators, share_of}
use Rattle.table_widths.proofs.ListLemmas.{fit_lists, length-columns_of}
use Rattle.table_grid.specs.declared.columns.Column.{Column}
use Rattle.table_widths.specs.Across.{FitAcross, widths_across}
use Rattle.table_widths.specs.Shares.{least_of, least_width, leasts_of, shares_of}
use Rattle.table_widths.proofs.FitLemmas.{lists_same, lists_fit}

pub none_across : (columns : List Column) (width : ℕ) → width < least_width columns →
    None ≡ widths_across columns width
unfolding widths_across
none_across columns width lt = by (nat_lt width (least_width columns)) refl
  where
    by : (b : Bool) → nat_lt width (least_width columns) ≡ b →
        None ≡ if b then None else Some (widths_of (columns_of (leasts_of columns) (shares_of columns width)) width)
    by true e = refl
    by false e = absurd (grind (arith, nat_tests))

-- by the laws of widths
pub some_across : ((columns : List ColumnShare) (width : ℕ) → sum_by column_least columns + separators columns ≤ width →
    IsColumnWidths columns width (widths_of columns width)) →
    ((columns : List ColumnShare) (width : ℕ) (first second : List ℕ) → IsColumnWidths columns width first →
    IsColumnWidths columns width second → first ≡ second) →
    (columns : List Column) (width : ℕ) (widths : List ℕ) → least_width columns ≤ width →
    IsColumnWidths (columns_of (leasts_of columns) (shares_of columns width)) width widths →
    Some widths ≡ widths_across columns width
unfolding widths_across
some_across have one columns width widths le are = by (nat_lt width (least_width columns)) refl
  where
    pairs : List ColumnShare
    pairs = columns_of (leasts_of columns) (shares_of columns width)

    by : (b : Bool) → nat_lt width (least_width columns) ≡ b →
        Some widths ≡ if b then None else Some (widths_of pairs width)
    by true e = absurd (grind (arith, nat_tests))
    by false e =
        ap Some (one pairs width widths (widths_of pairs width) are
        (have pairs width
        (fit_lists (leasts_of columns) (shares_of columns width) width (lists_same columns width)
        (lists_fit columns width le))))

-- ---- they fit

-- Columns have as many widths as they are.
as_many : (pairs : List ColumnShare) (width : ℕ) (widths : List ℕ) → IsColumnWidths pairs width widths →
    length widths ≡ length pairs
as_many pairs width widths are = by (nat_le (sum_by share_of pairs + separators pairs) width) refl
  where
    by : (b : Bool) → nat_le (sum_by share_of pairs + separators pairs) width ≡ b → length widths ≡ length pairs
    by true e = ap (λ (ws : List ℕ). length ws) (are.fit (grind (arith, nat_tests))) ∙ length-map pairs share_of
    by false e = (are.cut (grind (arith, nat_tests))).is_lowered.same

-- by the laws of widths
pub across_fit : ((columns : List ColumnShare) (width : ℕ) → sum_by column_least columns + separators columns ≤ width →
    IsColumnWidths columns width (widths_of columns width)) →
    ((columns : List ColumnShare) (width : ℕ) (widths : List ℕ) →
    sum_by column_least columns + separators columns ≤ width → IsColumnWidths columns width widths →
    sum widths + separators columns ≤ width) →
    (columns : List Column) (width : ℕ) → IfSome (widths_across columns width) (FitAcross columns width)
unfolding widths_across
across_fit have fit columns width = by (nat_lt width (least_width columns)) refl
  where
    pairs : List ColumnShare
    pairs = columns_of (leasts_of columns) (shares_of columns width)

    within : least_width columns ≤ width → sum_by column_least pairs + separators pairs ≤ width
    within le = fit_lists (leasts_of columns) (shares_of columns width) width (lists_same columns width)
        (lists_fit columns width le)

    same : least_width columns ≤ width → length (widths_of pairs width) ≡ length columns
    same le = as_many pairs width (widths_of pairs width) (have pairs width (within le))
        ∙ length-columns_of (leasts_of columns) (shares_of columns width) (lists_same columns width)
        ∙ length-map columns least_of

    by : (b : Bool) → nat_lt width (least_width columns) ≡ b →
        IfSome (if b then None else Some (widths_of pairs width)) (FitAcross columns width)
    by true e = tt
    by false e =
        let le : least_width columns ≤ width = grind (arith, nat_tests) in
        record {
          same = same le;
          fit = omega (
            arith,
            fit pairs width (widths_of pairs width) (within le) (have pairs width (within le)),
            as_many pairs width (widths_of pairs width) (have pairs width (within le)),
          );
        }
