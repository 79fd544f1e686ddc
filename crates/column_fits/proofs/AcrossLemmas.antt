-- The widths of fitted columns.
use Rattle.std.proofs.Common.{◌≡◌, ◌+◌, ◌-◌, ◌<◌, ◌≤◌, ◌∙◌, if◌then◌else◌, [], ◌∷◌, All, Bool, IfSome, List, None, Some}
use Rattle.std.proofs.Common.{ap}
use Rattle.std.proofs.Common.{arith, false, get_or, length, map, nat_le, nat_lt, refl, subst, sum, sum_by, sym, true, ℕ}
use Rattle.std.proofs.lemmas.Bool.Decides.{nat_tests}
use Rattle.std.proofs.lemmas.List.{get_or-map, length-map}
use Rattle.std.proofs.lemmas.List.Elements.{All-cons}
use Rattle.std.proofs.lemmas.List.Sums.{sum-map}
use Rattle.table_grid.specs.declared.columns.Column.{Column}
use Rattle.table_widths.specs.Across.{FitAcross}
use Rattle.table_widths.specs.Shares.{least_of as column_least, least_width, leasts_of}
use Rattle.table_widths.specs.TheWidths.{widths_of}
use Rattle.table_widths.specs.Widths.{IsColumnWidths, column_at, columns_of, least_of, separators, share_of}
use Rattle.table_widths.specs.declared.column.ColumnShare.{ColumnShare}
use Rattle.column_fits.specs.Across.{AreFits, fitted_across, shares_of}
use Rattle.column_fits.specs.Fits.{high_of, high_width, low_of, low_width}
use Rattle.column_fits.specs.Laws.{AreAtLeast}
use Rattle.column_fits.specs.declared.fit.ColumnFit.{ColumnFit}
use Rattle.column_fits.proofs.ListLemmas.{at_least_at, at_least_from, at_least_length, at_least_sum, at_least_trans}

-- ---- columns of two lists

leasts-columns_of : (ls ss : List ℕ) → AreAtLeast ls ss → map least_of (columns_of ls ss) ≡ ls
unfolding columns_of
leasts-columns_of [] [] h = refl
leasts-columns_of [] (s ∷ ss) h = absurd h
leasts-columns_of (l ∷ ls) [] h = absurd h
leasts-columns_of (l ∷ ls) (s ∷ ss) h = ap (λ (ns : List ℕ). l ∷ ns) (leasts-columns_of ls ss h.1)

shares-columns_of : (ls ss : List ℕ) → AreAtLeast ls ss → map share_of (columns_of ls ss) ≡ ss
unfolding columns_of
shares-columns_of [] [] h = refl
shares-columns_of [] (s ∷ ss) h = absurd h
shares-columns_of (l ∷ ls) [] h = absurd h
shares-columns_of (l ∷ ls) (s ∷ ss) h = ap (λ (ns : List ℕ). s ∷ ns) (shares-columns_of ls ss h.1)

within-columns_of : (ls ss : List ℕ) → AreAtLeast ls ss → All (λ c. c.least ≤ c.share) (columns_of ls ss)
unfolding columns_of
within-columns_of [] [] h = λ k d lt. absurd (omega arith)
within-columns_of [] (s ∷ ss) h = absurd h
within-columns_of (l ∷ ls) [] h = absurd h
within-columns_of (l ∷ ls) (s ∷ ss) h =
    All-cons (λ (c : ColumnShare). c.least ≤ c.share) (record { least = l; share = s }) (columns_of ls ss)
    h.0 (within-columns_of ls ss h.1)

length-columns_of : (ls ss : List ℕ) → AreAtLeast ls ss → length (columns_of ls ss) ≡ length ls
length-columns_of ls ss h =
    sym (length-map (columns_of ls ss) least_of) ∙ ap (λ (ns : List ℕ). length ns) (leasts-columns_of ls ss h)

fit-columns_of : (ls ss : List ℕ) (width : ℕ) → AreAtLeast ls ss → sum ls + (length ls - 1) ≤ width →
    sum_by least_of (columns_of ls ss) + separators (columns_of ls ss) ≤ width
fit-columns_of ls ss width h fit =
    let s = sum-map least_of (columns_of ls ss) in
    let t = ap (λ (ns : List ℕ). sum ns) (leasts-columns_of ls ss h) in
    let n = length-columns_of ls ss h in omega arith

shares_fit : (ls ss : List ℕ) (width : ℕ) → AreAtLeast ls ss → sum ss + (length ss - 1) ≤ width →
    sum_by share_of (columns_of ls ss) + separators (columns_of ls ss) ≤ width
shares_fit ls ss width h fit =
    let s = sum-map share_of (columns_of ls ss) in
    let t = ap (λ (ns : List ℕ). sum ns) (shares-columns_of ls ss h) in
    let n = length-columns_of ls ss h in
    let m = at_least_length ls ss h in omega arith

-- ---- their widths

-- Columns have as many widths as they are.
as_many : (pairs : List ColumnShare) (width : ℕ) (widths : List ℕ) → IsColumnWidths pairs width widths →
    length widths ≡ length pairs
as_many pairs width widths are = by (nat_le (sum_by share_of pairs + separators pairs) width) refl
  where
    by : (b : Bool) → nat_le (sum_by share_of pairs + separators pairs) width ≡ b → length widths ≡ length pairs
    by true e = ap (λ (ws : List ℕ). length ws) (are.fit (grind (arith, nat_tests))) ∙ length-map pairs share_of
    by false e = (are.cut (grind (arith, nat_tests))).is_lowered.same

-- what the widths of table_widths promise
pub record Widths : Type 0 where
  pub have : (columns : List ColumnShare) (width : ℕ) → sum_by least_of columns + separators columns ≤ width →
      IsColumnWidths columns width (widths_of columns width)
  pub between : (columns : List ColumnShare) (width : ℕ) (widths : List ℕ) → All (λ c. c.least ≤ c.share) columns →
      IsColumnWidths columns width widths → (i : ℕ) → i < length columns →
      ((column_at columns i).least ≤ get_or widths i 0) × (get_or widths i 0 ≤ (column_at columns i).share)
  pub within : (columns : List ColumnShare) (width : ℕ) (widths : List ℕ) →
      sum_by least_of columns + separators columns ≤ width → IsColumnWidths columns width widths →
      sum widths + separators columns ≤ width

pub the_widths : ((columns : List ColumnShare) (width : ℕ) (first second : List ℕ) →
    IsColumnWidths columns width first → IsColumnWidths columns width second → first ≡ second) →
    ((columns : List ColumnShare) (width : ℕ) → sum_by least_of columns + separators columns ≤ width →
    IsColumnWidths columns width (widths_of columns width)) →
    (ls ss : List ℕ) (width : ℕ) (widths : List ℕ) → AreAtLeast ls ss → sum ls + (length ls - 1) ≤ width →
    IsColumnWidths (columns_of ls ss) width widths → widths ≡ widths_of (columns_of ls ss) width
the_widths one have ls ss width widths h fit are =
    one (columns_of ls ss) width widths (widths_of (columns_of ls ss) width) are
    (have (columns_of ls ss) width (fit-columns_of ls ss width h fit))

-- no less than the leasts, and no more than the width
pub record AreFitted (ls ss : List ℕ) (width : ℕ) (widths : List ℕ) : Type 0 where
  pub least : AreAtLeast ls widths
  pub fit : sum widths + (length widths - 1) ≤ width
  pub shares : sum ss + (length ss - 1) ≤ width → widths ≡ ss

pub are_fitted : Widths → (ls ss : List ℕ) (width : ℕ) → AreAtLeast ls ss → sum ls + (length ls - 1) ≤ width →
    AreFitted ls ss width (widths_of (columns_of ls ss) width)
are_fitted laws ls ss width h fit =
    let are = laws.have (columns_of ls ss) width (fit-columns_of ls ss width h fit) in
    let n = length-columns_of ls ss h in
    let m = as_many (columns_of ls ss) width (widths_of (columns_of ls ss) width) are in
    let le = laws.within (columns_of ls ss) width (widths_of (columns_of ls ss) width)
    (fit-columns_of ls ss width h fit) are in
    record {
      least = at_least_from ls (widths_of (columns_of ls ss) width) (omega arith) (λ i lt.
          let b = laws.between (columns_of ls ss) width (widths_of (columns_of ls ss) width) (within-columns_of ls ss h)
          are i (omega arith) in
          let a = get_or-map least_of (columns_of ls ss) i (record { least = 0; share = 0 }) 0 (omega arith) in
          let e = ap (λ (ns : List ℕ). get_or ns i 0) (leasts-columns_of ls ss h) in
          let low = b.0 in
          omega arith);
      fit = omega arith;
      shares = λ all. are.fit (shares_fit ls ss width h all) ∙ shares-columns_of ls ss h;
    }

-- ---- lows and highs

pub lows_highs : (columns : List Column) (fits : List ColumnFit) → AreFits columns fits →
    AreAtLeast (map low_of fits) (map high_of fits)
lows_highs [] [] h = tt
lows_highs [] (f ∷ fits) h = absurd h
lows_highs (c ∷ columns) [] h = absurd h
lows_highs (c ∷ columns) (f ∷ fits) h = (let fit = h.0 in fit.within, lows_highs columns fits h.1)

pub leasts_lows : (columns : List Column) (fits : List ColumnFit) → AreFits columns fits →
    AreAtLeast (leasts_of columns) (map low_of fits)
leasts_lows [] [] h = tt
leasts_lows [] (f ∷ fits) h = absurd h
leasts_lows (c ∷ columns) [] h = absurd h
leasts_lows (c ∷ columns) (f ∷ fits) h = (let fit = h.0 in fit.least, leasts_lows columns fits h.1)

pub lists_width : {A : Type 0} (part : A → ℕ) (xs : List A) (width : ℕ) → sum_by part xs + (length xs - 1) ≤ width →
    sum (map part xs) + (length (map part xs) - 1) ≤ width
lists_width part xs width le = let s = sum-map part xs in let n = length-map xs part in omega arith

-- what is so of either width is so of the fitted ones
pub fitted_by : (P : List ℕ → Type 0) (columns : List Column) (fits : List ColumnFit) (width : ℕ) →
    (low_width fits ≤ width → P (widths_of (columns_of (map low_of fits) (map high_of fits)) width)) →
    (width < low_width fits → least_width columns ≤ width →
    P (widths_of (columns_of (leasts_of columns) (map low_of fits)) width)) →
    IfSome (fitted_across columns fits width) P
unfolding fitted_across
fitted_by P columns fits width lows leasts = by (nat_lt width (least_width columns)) refl
  where
    either : least_width columns ≤ width → (b : Bool) → nat_le (low_width fits) width ≡ b →
        P (widths_of (if b then columns_of (map low_of fits) (map high_of fits)
        else columns_of (leasts_of columns) (map low_of fits)) width)
    either le true e = lows (grind (arith, nat_tests))
    either le false e = leasts (grind (arith, nat_tests)) le

    by : (b : Bool) → nat_lt width (least_width columns) ≡ b →
        IfSome (if b then None else Some (widths_of (shares_of columns fits width) width)) P
    by true e = tt
    by false e = either (grind (arith, nat_tests)) (nat_le (low_width fits) width) refl

pub none_fitted : (columns : List Column) (fits : List ColumnFit) (width : ℕ) → width < least_width columns →
    None ≡ fitted_across columns fits width
unfolding fitted_across
none_fitted columns fits width lt = by (nat_lt width (least_width columns)) refl
  where
    by : (b : Bool) → nat_lt width (least_width columns) ≡ b →
        None ≡ if b then None else Some (widths_of (shares_of columns fits width) width)
    by true e = refl
    by false e = absurd (grind (arith, nat_tests))

pub some_fitted : (columns : List Column) (fits : List ColumnFit) (width : ℕ) (widths : List ℕ) →
    least_width columns ≤ width → widths ≡ widths_of (shares_of columns fits width) width →
    Some widths ≡ fitted_across columns fits width
unfolding fitted_across
some_fitted columns fits width widths le f = by (nat_lt width (least_width columns)) refl
  where
    by : (b : Bool) → nat_lt width (least_width columns) ≡ b →
        Some widths ≡ if b then None else Some (widths_of (shares_of columns fits width) width)
    by true e = absurd (grind (arith, nat_tests))
    by false e = ap Some f

pub shares_low : (columns : List Column) (fits : List ColumnFit) (width : ℕ) → low_width fits ≤ width →
    shares_of columns fits width ≡ columns_of (map low_of fits) (map high_of fits)
shares_low columns fits width le = by (nat_le (low_width fits) width) refl
  where
    by : (b : Bool) → nat_le (low_width fits) width ≡ b →
        if b then columns_of (map low_of fits) (map high_of fits) else columns_of (leasts_of columns) (map low_of fits)
        ≡ columns_of (map low_of fits) (map high_of fits)
    by true e = refl
    by false e = absurd (grind (arith, nat_tests))

pub shares_least : (columns : List Column) (fits : List ColumnFit) (width : ℕ) → width < low_width fits →
    shares_of columns fits width ≡ columns_of (leasts_of columns) (map low_of fits)
shares_least columns fits width lt = by (nat_le (low_width fits) width) refl
  where
    by : (b : Bool) → nat_le (low_width fits) width ≡ b →
        if b then columns_of (map low_of fits) (map high_of fits) else columns_of (leasts_of columns) (map low_of fits)
        ≡ columns_of (leasts_of columns) (map low_of fits)
    by true e = absurd (grind (arith, nat_tests))
    by false e = refl

-- ---- the laws

pub fitted_fit : Widths → (columns : List Column) (fits : List ColumnFit) (width : ℕ) → AreFits columns fits →
    IfSome (fitted_across columns fits width) (FitAcross columns width)
fitted_fit laws columns fits width h =
    let lows = leasts_lows columns fits h in
    let highs = lows_highs columns fits h in
    let n = at_least_length (leasts_of columns) (map low_of fits) lows in
    let m = length-map columns column_least in
    fitted_by (FitAcross columns width) columns fits width
    (λ le.
    let all = are_fitted laws (map low_of fits) (map high_of fits) width highs (lists_width low_of fits width le) in
    let same = at_least_length (map low_of fits)
    (widths_of (columns_of (map low_of fits) (map high_of fits)) width) all.least in
    record { same = omega arith; fit = all.fit })
    (λ over le.
    let all = are_fitted laws (leasts_of columns) (map low_of fits) width lows
    (lists_width column_least columns width le) in
    let same = at_least_length (leasts_of columns)
    (widths_of (columns_of (leasts_of columns) (map low_of fits)) width) all.least in
    record { same = omega arith; fit = all.fit })

pub fitted_least : Widths → (columns : List Column) (fits : List ColumnFit) (width : ℕ) → AreFits columns fits →
    IfSome (fitted_across columns fits width) (AreAtLeast (leasts_of columns))
fitted_least laws columns fits width h =
    let lows = leasts_lows columns fits h in
    let highs = lows_highs columns fits h in
    fitted_by (AreAtLeast (leasts_of columns)) columns fits width
    (λ le.
    let all = are_fitted laws (map low_of fits) (map high_of fits) width highs (lists_width low_of fits width le) in
    at_least_trans (leasts_of columns) (map low_of fits)
    (widths_of (columns_of (map low_of fits) (map high_of fits)) width) lows all.least)
    (λ over le.
    (are_fitted laws (leasts_of columns) (map low_of fits) width lows
    (lists_width column_least columns width le)).least)

-- where the lows fit, no column has less
pub fitted_low : Widths → (P : List ℕ → Type 0) (columns : List Column) (fits : List ColumnFit) (width : ℕ) →
    AreFits columns fits → low_width fits ≤ width →
    ((widths : List ℕ) → AreAtLeast (map low_of fits) widths → P widths) →
    IfSome (fitted_across columns fits width) P
fitted_low laws P columns fits width h fit by =
    let highs = lows_highs columns fits h in
    fitted_by P columns fits width
    (λ le. by (widths_of (columns_of (map low_of fits) (map high_of fits)) width)
    (are_fitted laws (map low_of fits) (map high_of fits) width highs (lists_width low_of fits width le)).least)
    (λ over le. absurd (omega arith))

-- where the highs fit, columns have these
pub fitted_high : Widths → (P : List ℕ → Type 0) (columns : List Column) (fits : List ColumnFit) (width : ℕ) →
    AreFits columns fits → high_width fits ≤ width → P (map high_of fits) →
    IfSome (fitted_across columns fits width) P
fitted_high laws P columns fits width h fit p =
    let highs = lows_highs columns fits h in
    let less = at_least_sum (map low_of fits) (map high_of fits) highs in
    let s = sum-map low_of fits in
    let t = sum-map high_of fits in
    fitted_by P columns fits width
    (λ le. subst P (sym ((are_fitted laws (map low_of fits) (map high_of fits) width highs
    (lists_width low_of fits width le)).shares (lists_width high_of fits width fit))) p)
    (λ over le. absurd (omega arith))

-- ---- what the code hands on

pub record AreLists (leasts shares : List ℕ) (width : ℕ) : Type 0 where
  pub same : length leasts ≡ length shares
  pub within : (i : ℕ) → i < length leasts → get_or leasts i 0 ≤ get_or shares i 0
  pub fit : sum leasts + (length leasts - 1) ≤ width

pub low_lists : (columns : List Column) (fits : List ColumnFit) (width : ℕ) (ls ss : List ℕ) → AreFits columns fits →
    ls ≡ map low_of fits → ss ≡ map high_of fits → low_width fits ≤ width → AreLists ls ss width
low_lists columns fits width ls ss h e f le =
    let all = lows_highs columns fits h in
    subst (λ (xs : List ℕ). AreLists xs ss width) (sym e)
    (subst (λ (xs : List ℕ). AreLists (map low_of fits) xs width) (sym f)
    (record {
      same = at_least_length (map low_of fits) (map high_of fits) all;
      within = at_least_at (map low_of fits) (map high_of fits) all;
      fit = lists_width low_of fits width le;
    }))

pub least_lists : (columns : List Column) (fits : List ColumnFit) (width : ℕ) (ls ss : List ℕ) → AreFits columns fits →
    ls ≡ leasts_of columns → ss ≡ map low_of fits → least_width columns ≤ width → AreLists ls ss width
least_lists columns fits width ls ss h e f le =
    let all = leasts_lows columns fits h in
    subst (λ (xs : List ℕ). AreLists xs ss width) (sym e)
    (subst (λ (xs : List ℕ). AreLists (leasts_of columns) xs width) (sym f)
    (record {
      same = at_least_length (leasts_of columns) (map low_of fits) all;
      within = at_least_at (leasts_of columns) (map low_of fits) all;
      fit = lists_width column_least columns width le;
    }))

module _ (one : (columns : List ColumnShare) (width : ℕ) (first second : List ℕ) →
    IsColumnWidths columns width first → IsColumnWidths columns width second → first ≡ second)
    (have : (columns : List ColumnShare) (width : ℕ) → sum_by least_of columns + separators columns ≤ width →
    IsColumnWidths columns width (widths_of columns width))
    (columns : List Column) (fits : List ColumnFit) (width : ℕ) (are : AreFits columns fits) where
  pub low_widths : (ls ss widths : List ℕ) → ls ≡ map low_of fits → ss ≡ map high_of fits → low_width fits ≤ width →
      IsColumnWidths (columns_of ls ss) width widths → widths ≡ widths_of (shares_of columns fits width) width
  low_widths ls ss widths e f le h =
      the_widths one have (map low_of fits) (map high_of fits) width widths (lows_highs columns fits are)
      (lists_width low_of fits width le)
      (subst (λ (xs : List ℕ). IsColumnWidths (columns_of xs (map high_of fits)) width widths) e
      (subst (λ (xs : List ℕ). IsColumnWidths (columns_of ls xs) width widths) f h))
      ∙ ap (λ (pairs : List ColumnShare). widths_of pairs width) (sym (shares_low columns fits width le))

  pub least_widths : (ls ss widths : List ℕ) → ls ≡ leasts_of columns → ss ≡ map low_of fits → width < low_width fits →
      least_width columns ≤ width → IsColumnWidths (columns_of ls ss) width widths →
      widths ≡ widths_of (shares_of columns fits width) width
  least_widths ls ss widths e f lt le h =
      the_widths one have (leasts_of columns) (map low_of fits) width widths (leasts_lows columns fits are)
      (lists_width column_least columns width le)
      (subst (λ (xs : List ℕ). IsColumnWidths (columns_of xs (map low_of fits)) width widths) e
      (subst (λ (xs : List ℕ). IsColumnWidths (columns_of ls xs) width widths) f h))
      ∙ ap (λ (pairs : List ColumnShare). widths_of pairs width) (sym (shares_least columns fits width lt))
