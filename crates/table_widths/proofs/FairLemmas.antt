-- Columns of text that are taken in order: what is left of each column then is known by how many are taken.
use Rattle.std.proofs.Common.{◌≡◌, ◌+◌, ◌-◌, ◌<◌, ◌≤◌, ◌&&◌, [], ◌∷◌, ◌∙◌, All, Bool, List, ap, arith, cond, false}
use Rattle.std.proofs.Common.{get_or, length, min, nat_le, nat_lt, refl, suc, sum, sum_by, sym, take, true, zero, ℕ}
use Rattle.std.proofs.lemmas.Bool.Decides.{nat_tests}
use Rattle.std.proofs.lemmas.List.{ext_get_or, take-take}
use Rattle.std.proofs.lemmas.List.Sums.{sum_by-cons}
use Rattle.table_widths.specs.declared.column.ColumnShare.{ColumnShare}
use Rattle.table_widths.specs.Widths.{IsColumnWidths, IsLowered, column_at, equal, filled, room_of, separators}
use Rattle.table_widths.specs.Widths.{share_of, slack_of, wider}
use Rattle.table_widths.specs.OneByOne.{excess_at}
use Rattle.table_widths.proofs.RankLemmas.{both, equal_take}
use Rattle.table_widths.proofs.TotalLemmas.{has_part, pos_level, width_is, bounds_law}

-- a column of text at the height a of a column with this least and place is taken before one at b of another
pub record IsSooner (a least i b other j : ℕ) : Type 0 where
  pub high : b ≤ a
  pub wide : a ≡ b → other ≤ least
  pub place : a ≡ b → least ≡ other → i < j

-- of each two, what was taken of one was taken sooner than what is left of the other
pub record AreFair (cs : List ColumnShare) (ws : List ℕ) : Type 0 where
  pub same : length ws ≡ length cs
  pub above : (i : ℕ) → i < length cs → (column_at cs i).least ≤ get_or ws i 0
  pub below : (i : ℕ) → i < length cs → get_or ws i 0 ≤ (column_at cs i).share
  pub fair : (i j : ℕ) → i < length cs → j < length cs → get_or ws i 0 < (column_at cs i).share →
      (column_at cs j).least < get_or ws j 0 →
      IsSooner (excess_at cs ws i + 1) (column_at cs i).least i (excess_at cs ws j) (column_at cs j).least j

-- ---- as many taken, the same taken
pub sum_up : (a b : List ℕ) → length a ≡ length b → ((j : ℕ) → j < length a → get_or a j 0 ≤ get_or b j 0) →
    sum a ≤ sum b
sum_up [] [] e le = omega arith
sum_up [] (y ∷ b) e le = omega arith
sum_up (x ∷ a) [] e le = absurd (omega arith)
sum_up (x ∷ a) (y ∷ b) e le =
    let rest = sum_up a b (omega arith) (λ j lt. le (suc j) (omega arith)) in let here = le zero (omega arith) in
    let p = sum_by-cons (λ (n : ℕ). n) x a in let q = sum_by-cons (λ (n : ℕ). n) y b in omega arith

sum_less : (a b : List ℕ) (i : ℕ) → length a ≡ length b → ((j : ℕ) → j < length a → get_or a j 0 ≤ get_or b j 0) →
    i < length a → get_or a i 0 < get_or b i 0 → sum a < sum b
sum_less [] b i e le lt less = absurd (omega arith)
sum_less (x ∷ a) [] i e le lt less = absurd (omega arith)
sum_less (x ∷ a) (y ∷ b) zero e le lt less =
    let rest = sum_up a b (omega arith) (λ j j_lt. le (suc j) (omega arith)) in
    let p = sum_by-cons (λ (n : ℕ). n) x a in let q = sum_by-cons (λ (n : ℕ). n) y b in omega arith
sum_less (x ∷ a) (y ∷ b) (suc i) e le lt less =
    let rest = sum_less a b i (omega arith) (λ j j_lt. le (suc j) (omega arith)) (omega arith) less in let here =
    le zero (omega arith) in
    let p = sum_by-cons (λ (n : ℕ). n) x a in let q = sum_by-cons (λ (n : ℕ). n) y b in omega arith

-- some number of a passes that of b, unless none does
no_more : (a b : List ℕ) (n : ℕ) → ((j : ℕ) → j < n → get_or b j 0 < get_or a j 0 → ⊥) → (j : ℕ) → j < n →
    get_or a j 0 ≤ get_or b j 0
no_more a b n none j lt = by (nat_lt (get_or b j 0) (get_or a j 0)) refl
  where
    by : (t : Bool) → nat_lt (get_or b j 0) (get_or a j 0) ≡ t → get_or a j 0 ≤ get_or b j 0
    by true e = absurd (none j lt (grind (arith, nat_tests)))
    by false e = grind (arith, nat_tests)

not_less : (cs : List ColumnShare) (a b : List ℕ) → AreFair cs a → AreFair cs b → sum a ≡ sum b → (i : ℕ) →
    i < length cs → get_or a i 0 < get_or b i 0 → ⊥
not_less cs a b h k sums i lt less =
    let all = no_more a b (length cs) (λ j j_lt more. clash j j_lt more) in
    let n = h.same in let m = k.same in
    let strict = sum_less a b i (omega arith) (λ j j_lt. all j (omega arith)) (omega arith) less in omega arith
  where
    clash : (j : ℕ) → j < length cs → get_or b j 0 < get_or a j 0 → ⊥
    clash j j_lt more =
        let ai = h.above i lt in let bi = k.below i lt in let aj = h.below j j_lt in let bj = k.above j j_lt in
        let s = h.fair i j lt j_lt (omega arith) (omega arith) in
        let r = k.fair j i j_lt lt (omega arith) (omega arith) in
        let s_high = s.high in let r_high = r.high in
        let one : excess_at cs a i + 1 ≡ excess_at cs a j = omega arith in
        let two : excess_at cs b j + 1 ≡ excess_at cs b i = omega arith in
        let w = s.wide one in let v = r.wide two in
        let p = s.place one (omega arith) in let q = r.place two (omega arith) in omega arith

pub one_fair : (cs : List ColumnShare) (a b : List ℕ) → AreFair cs a → AreFair cs b → sum a ≡ sum b → a ≡ b
one_fair cs a b h k sums =
    ext_get_or 0 a b (h.same ∙ sym k.same)
    (λ i i_lt. let n = h.same in between (get_or a i 0) (get_or b i 0) (not_less cs a b h k sums i (omega arith))
    (not_less cs b a k h (sym sums) i (omega arith)))
  where
    between : (x y : ℕ) → (x < y → ⊥) → (y < x → ⊥) → x ≡ y
    between x y p q = grind (arith, p, q)

-- ---- columns that are lowered to a level
abbrev rank_of : ℕ → List ColumnShare → ℕ → ℕ
rank_of level cs i = wider level (column_at cs i).least cs + equal level (column_at cs i).least (take i cs)

-- who comes before has the lesser rank
rank_wide : (level : ℕ) (cs : List ColumnShare) (i j : ℕ) → (column_at cs i).least < (column_at cs j).least →
    rank_of level cs j ≤ rank_of level cs i
rank_wide level cs i j lt =
    let a = both level (column_at cs i).least (column_at cs j).least cs lt in let b =
    equal_take level (column_at cs j).least j cs in omega arith

rank_place : (level : ℕ) (cs : List ColumnShare) (i j : ℕ) → (column_at cs i).least ≡ (column_at cs j).least → j ≤ i →
    rank_of level cs j ≤ rank_of level cs i
rank_place level cs i j e le =
    let t = equal_take level (column_at cs j).least j (take i cs) in
    let s : equal level (column_at cs j).least (take j (take i cs)) ≡ equal level (column_at cs j).least (take j cs) =
    ap (λ (xs : List ColumnShare). equal level (column_at cs j).least xs) (take-take j i cs le) in
    rw e (let low : equal level (column_at cs j).least (take j cs) ≤ equal level (column_at cs j).least (take i cs) =
    omega arith in omega arith)

module _ (level less ti li ri tj lj rj wi wj : ℕ)
    (wi-is : wi ≡ li + min ti level - cond (nat_le level ti && nat_lt ri less) 1 0)
    (wj-is : wj ≡ lj + min tj level - cond (nat_le level tj && nat_lt rj less) 1 0)
    (parti : cond (nat_le level ti && nat_lt ri less) 1 0 ≤ min ti level)
    (partj : cond (nat_le level tj && nat_lt rj less) 1 0 ≤ min tj level)
    (lowered : wi < li + ti) where
  at_level : level ≤ ti
  at_level = grind (arith, nat_tests)

  fair_high : wj - lj ≤ wi - li + 1
  fair_high = let a = at_level in grind (arith, nat_tests)

  -- as high as the other's: it lost one, and the other, at the level, did not
  fair_ranks : wi - li + 1 ≡ wj - lj → (ri < less) × (less ≤ rj)
  fair_ranks e = let a = at_level in (grind (arith, nat_tests), grind (arith, nat_tests))

pub lowered_fair : (cs : List ColumnShare) (level less : ℕ) (ws : List ℕ) → (0 < less → 0 < level) →
    All (λ c. c.least ≤ c.share) cs → IsLowered cs level less ws →
    (i j : ℕ) → i < length cs → j < length cs → get_or ws i 0 < (column_at cs i).share →
    IsSooner (excess_at cs ws i + 1) (column_at cs i).least i (excess_at cs ws j) (column_at cs j).least j
lowered_fair cs level less ws pos within h i j lt j_lt under = record {
  high = fair_high level less (slack i) (least i) (rank i) (slack j) (least j) (rank j) (get_or ws i 0) (get_or ws j 0)
      (is i lt) (is j j_lt) (part i) (part j) low;
  wide = λ e. wide (ranks e);
  place = λ e same. place same (ranks e);
}
  where
    least : ℕ → ℕ
    least k = (column_at cs k).least

    slack : ℕ → ℕ
    slack k = slack_of (column_at cs k)

    rank : ℕ → ℕ
    rank k = wider level (column_at cs k).least cs + equal level (column_at cs k).least (take k cs)

    is : (k : ℕ) → k < length cs → get_or ws k 0 ≡ least k
        + min (slack k) level - cond (nat_le level (slack k) && nat_lt (rank k) less) 1 0
    is k k_lt = width_is level less k (get_or ws k 0) cs (h.each k k_lt)

    part : (k : ℕ) → cond (nat_le level (slack k) && nat_lt (rank k) less) 1 0 ≤ min (slack k) level
    part k = has_part level less (slack k) (rank k) pos

    low : get_or ws i 0 < least i + slack i
    low = let w = within i (record { least = 0; share = 0 }) lt in omega arith

    ranks : get_or ws i 0 - least i + 1 ≡ get_or ws j 0 - least j → (rank i < less) × (less ≤ rank j)
    ranks e = fair_ranks level less (slack i) (least i) (rank i) (slack j) (least j) (rank j) (get_or ws i 0)
        (get_or ws j 0) (is i lt) (is j j_lt) (part i) (part j) low e

    wide : (rank i < less) × (less ≤ rank j) → least j ≤ least i
    wide r = by (nat_lt (least i) (least j)) refl
      where
        by : (b : Bool) → nat_lt (least i) (least j) ≡ b → least j ≤ least i
        by true e = let x = rank_wide level cs i j (grind (arith, nat_tests)) in let p = r.0 in let q = r.1 in
            absurd (omega arith)
        by false e = grind (arith, nat_tests)

    place : least i ≡ least j → (rank i < less) × (less ≤ rank j) → i < j
    place same r = by (nat_lt i j) refl
      where
        by : (b : Bool) → nat_lt i j ≡ b → i < j
        by true e = grind (arith, nat_tests)
        by false e = let x = rank_place level cs i j same (grind (arith, nat_tests)) in let p = r.0 in let q = r.1 in
            absurd (omega arith)

pub widths_fair : (cs : List ColumnShare) (width : ℕ) (ws : List ℕ) → All (λ c. c.least ≤ c.share) cs →
    IsColumnWidths cs width ws →
    width < sum_by share_of cs + separators cs → AreFair cs ws
widths_fair cs width ws within h over =
    let cut = h.cut over in record {
      same = cut.is_lowered.same;
      above = λ i lt. (bounds_law cs width ws within h i lt).0;
      below = λ i lt. (bounds_law cs width ws within h i lt).1;
      fair = λ i j lt j_lt under over. lowered_fair cs cut.level (filled cut.level cs - room_of cs width) ws
          (pos_level cut.level (room_of cs width) cs) within cut.is_lowered i j lt j_lt under;
    }
