-- Between covers.
use Rattle.std.proofs.Common.{◌≡◌, ◌+◌, ◌-◌, ◌<◌, ◌≤◌, ◌&&◌, [], ◌∷◌, ◌++◌, ◌∙◌, All, Bool, Contains, List, ap}
use Rattle.std.proofs.Common.{append-nil, append_assoc, arith, false, length, nat_le, nat_lt, refl, subst, suc, sym}
use Rattle.std.proofs.Common.{true, zero, ℕ}
use Rattle.std.proofs.lemmas.Bool.Decides.{nat_tests}
use Rattle.std.proofs.lemmas.List.Elements.{All-push, All-from_get_or, Contains-push, Contains-append_left}
use Rattle.std.specs.List.{AllPairs}
use Rattle.std.proofs.lemmas.List.Quantifiers.{all_pairs_push}
use borrow.Author.Count.{below_more}
use Rattle.table_grid.specs.declared.covers.Cover.{Cover}
use Rattle.table_grid.specs.declared.gaps.Gap.{Gap}
use Rattle.table_grid.specs.Covers.{cover_at, AreOrdered, AreApart}
use Rattle.table_grid.specs.Gaps.{gap_of}
use Rattle.table_grid.specs.RowGaps.{IsBare, IsGapIn, AreGapsIn, ArePassedBefore}
use Rattle.table_grid.proofs.WalkLemmas.{none}
use Rattle.table_grid.proofs.MergeLemmas.{ends_first}

-- the covers before i are looked at, and those of the row before `next`
pub record IsBetween (row : ℕ) (covers own : List Cover) (i next end : ℕ) (old new : List Gap) : Type 0 where
  pub within : next ≤ length own
  pub passed : (k : ℕ) → k < i → (cover_at covers k).right ≤ end
  pub own_passed : (k : ℕ) → k < next → (cover_at own k).right ≤ end
  pub ahead : i < length covers → end ≤ (cover_at covers i).left
  pub own_ahead : next < length own → end ≤ (cover_at own next).left
  pub begins : (column : ℕ) → column + 1 ≡ end → IsBare covers column → IsBare own column → ⊥
  pub more : List Gap
  pub whole : new ≡ old ++ more
  pub each : All (λ g. (g.row ≡ row) × IsGapIn covers own g.left g.right) more
  pub near : All (λ g. g.right ≤ end) more
  pub order : AllPairs (λ g h. g.right ≤ h.left) more
  pub all : (j left : ℕ) → j < i → IsGapIn covers own left (cover_at covers j).left →
      Contains more (gap_of row left (cover_at covers j).left)

pub between_first : (row : ℕ) (covers own : List Cover) (old : List Gap) → IsBetween row covers own 0 0 0 old old
between_first row covers own old = record {
  within = omega arith;
  passed = λ k lt. absurd (omega arith);
  own_passed = λ k lt. absurd (omega arith);
  ahead = λ lt. omega arith;
  own_ahead = λ lt. omega arith;
  begins = λ column e. absurd (omega arith);
  more = [];
  whole = sym (append-nil old);
  each = λ k d lt. absurd (omega arith);
  near = λ k d lt. absurd (omega arith);
  order = λ i j d lt j_lt. absurd (omega arith);
  all = λ j left lt. absurd (omega arith);
}

-- a cover holds its own columns
held_column : (covers : List Cover) (k column : ℕ) → k < length covers → (cover_at covers k).left ≤ column →
    column < (cover_at covers k).right → IsBare covers column → ⊥
held_column covers k column lt from to bare = bare.bare k none lt from to

lefts_rise : (covers : List Cover) (j k : ℕ) → AreOrdered covers → j ≤ k → k < length covers →
    (cover_at covers j).left ≤ (cover_at covers k).left
lefts_rise covers j k ordered le lt = by (nat_lt j k) refl
  where
    by : (b : Bool) → nat_lt j k ≡ b → (cover_at covers j).left ≤ (cover_at covers k).left
    by true e = let a = ordered.rising j k (grind (arith, nat_tests)) lt in let b = ordered.held j none (omega arith) in
        omega arith
    by false e = let same : j ≡ k = grind (arith, nat_tests) in rw same (omega arith)

rights_rise : (covers : List Cover) (j k : ℕ) → AreOrdered covers → j ≤ k → k < length covers →
    (cover_at covers j).right ≤ (cover_at covers k).right
rights_rise covers j k ordered le lt = by (nat_lt j k) refl
  where
    by : (b : Bool) → nat_lt j k ≡ b → (cover_at covers j).right ≤ (cover_at covers k).right
    by true e = let a = ordered.rising j k (grind (arith, nat_tests)) lt in let b = ordered.held k none lt in
        omega arith
    by false e = let same : j ≡ k = grind (arith, nat_tests) in rw same (omega arith)

-- what holds before the cover at i, when those of the row that begin before it are passed
record IsAt (covers own : List Cover) (i n before_it end : ℕ) : Type 0 where
  later : before_it ≤ end
  past : (k : ℕ) → k < i → (cover_at covers k).right ≤ end
  own_past : (k : ℕ) → k < n → (cover_at own k).right ≤ end
  before : end ≤ (cover_at covers i).left
  own_after : n < length own → (cover_at covers i).left ≤ (cover_at own n).left
  starts : (column : ℕ) → column + 1 ≡ end → IsBare covers column → IsBare own column → ⊥

at_cover : (row : ℕ) (covers own : List Cover) (i next before n end : ℕ) (old new : List Gap) → AreOrdered covers →
    AreOrdered own → All (λ c. All (AreApart c) own) covers → i < length covers →
    IsBetween row covers own i next before old new → ArePassedBefore own next before (cover_at covers i).left end n →
    IsAt covers own i n before end
at_cover row covers own i next before n end old new ordered ordered_own apart lt h p = by (nat_lt next n) refl
  where
    by : (b : Bool) → nat_lt next n ≡ b → IsAt covers own i n before end
    by false e =
        let from = p.from in
        let same : n ≡ next = grind (arith, nat_tests) in
        let ends : end ≡ before = p.none same in
        record {
          later = omega arith;
          past = λ k k_lt. let a = h.passed k k_lt in omega arith;
          own_past = λ k k_lt. let a = h.own_passed k (omega arith) in omega arith;
          before = let a = h.ahead lt in omega arith;
          own_after = p.over;
          starts = λ column e. h.begins column (omega arith);
        }
    by true e =
        let more : next < n = grind (arith, nat_tests) in
        let last = p.last more in
        let within = p.within in
        let last_held : (cover_at own (n - 1)).left < (cover_at own (n - 1)).right =
        ordered_own.held (n - 1) none (omega arith) in
        let cover_held : (cover_at covers i).left < (cover_at covers i).right = ordered.held i none lt in
        let grows : before ≤ (cover_at own (n - 1)).left = let a = h.own_ahead (omega arith) in let b =
        lefts_rise own next (n - 1) ordered_own (omega arith) (omega arith) in omega arith in
        record {
          later = let l = last.1 in omega arith;
          past = λ k k_lt. let a = h.passed k k_lt in let l = last.1 in omega arith;
          own_past = λ k k_lt. let r = rights_rise own k (n - 1) ordered_own (omega arith) (omega arith) in let l =
              last.1 in omega arith;
          before = let f = ends_first (cover_at own (n - 1)) (cover_at covers i)
              (record {
                apart = λ column from to left right. (apart i none lt (n - 1) none (omega arith)).apart column
                    left right from to;
              }) last_held cover_held (let a = last.0 in omega arith) in
              let l = last.1 in omega arith;
          own_after = p.over;
          starts = λ column e bare own_bare. held_column own (n - 1) column (omega arith)
              (let l = last.1 in omega arith) (let l = last.1 in omega arith) own_bare;
        }

-- nothing stands from `end` to the cover at i
bare_before : (covers own : List Cover) (i n before end column : ℕ) → AreOrdered covers → AreOrdered own →
    i < length covers → n ≤ length own → IsAt covers own i n before end →
    end ≤ column → column < (cover_at covers i).left → IsBare covers column × IsBare own column
bare_before covers own i n before end column ordered ordered_own lt within a from to = (
  record {
    bare = All-from_get_or (λ c. c.left ≤ column → column < c.right → ⊥) covers none
        (λ k k_lt left right. of_covers k k_lt left right (nat_lt k i) refl);
  },
  record {
    bare = All-from_get_or (λ c. c.left ≤ column → column < c.right → ⊥) own none
        (λ k k_lt left right. of_own k k_lt left right (nat_lt k n) refl);
  },
)
  where
    of_covers : (k : ℕ) → k < length covers → (cover_at covers k).left ≤ column → column < (cover_at covers k).right →
        (b : Bool) → nat_lt k i ≡ b → ⊥
    of_covers k k_lt left right true e = let p = a.past k (grind (arith, nat_tests)) in omega arith
    of_covers k k_lt left right false e = let r = lefts_rise covers i k ordered (grind (arith, nat_tests)) k_lt in
        omega arith

    of_own : (k : ℕ) → k < length own → (cover_at own k).left ≤ column → column < (cover_at own k).right → (b : Bool) →
        nat_lt k n ≡ b → ⊥
    of_own k k_lt left right true e = let p = a.own_past k (grind (arith, nat_tests)) in omega arith
    of_own k k_lt left right false e =
        let le : n ≤ k = grind (arith, nat_tests) in
        let r = lefts_rise own n k ordered_own le k_lt in let after = a.own_after (omega arith) in omega arith

gap_here : (covers own : List Cover) (i n before end : ℕ) → AreOrdered covers → AreOrdered own → i < length covers →
    n ≤ length own → IsAt covers own i n before end →
    end < (cover_at covers i).left → IsGapIn covers own end (cover_at covers i).left
gap_here covers own i n before end ordered ordered_own lt within a some = record {
  some = some;
  bare = λ column from to. bare_before covers own i n before end column ordered ordered_own lt within a from to;
  begins = a.starts;
  ends = λ bare. held_column covers i (cover_at covers i).left lt (omega arith) (ordered.held i none lt) bare;
}

-- a gap that ends at the cover begins at `end`
begins_here : (covers own : List Cover) (i n before end left : ℕ) → AreOrdered covers → AreOrdered own →
    i < length covers → n ≤ length own → IsAt covers own i n before end →
    IsGapIn covers own left (cover_at covers i).left → left ≡ end
begins_here covers own i n before end left ordered ordered_own lt within a g =
    by (nat_lt left end) (nat_lt end left) refl refl
  where
    by : (b c : Bool) → nat_lt left end ≡ b → nat_lt end left ≡ c → left ≡ end
    by true c e f =
        let less : left < end = grind (arith, nat_tests) in
        let before = a.before in
        let both = g.bare (end - 1) (omega arith) (omega arith) in
        absurd (a.starts (end - 1) (omega arith) both.0 both.1)
    by false true e f =
        let less : end < left = grind (arith, nat_tests) in
        let some = g.some in
        let both = bare_before covers own i n before end (left - 1) ordered ordered_own lt within a (omega arith)
        (omega arith) in
        absurd (g.begins (left - 1) (omega arith) both.0 both.1)
    by false false e f = grind (arith, nat_tests)

pub between_more : (row : ℕ) (covers own : List Cover) (i next before n end : ℕ) (old new newer : List Gap) →
    AreOrdered covers → AreOrdered own → All (λ c. All (AreApart c) own) covers →
    i < length covers → IsBetween row covers own i next before old new →
    ArePassedBefore own next before (cover_at covers i).left end n →
    (end < (cover_at covers i).left → newer ≡ new ++ gap_of row end (cover_at covers i).left ∷ []) →
    ((cover_at covers i).left ≤ end → newer ≡ new) →
    IsBetween row covers own (i + 1) n (cover_at covers i).right old newer
between_more row covers own i next before n end old new newer ordered ordered_own apart lt h p some stay =
    by (nat_lt end (cover_at covers i).left) refl
  where
    a : IsAt covers own i n before end
    a = at_cover row covers own i next before n end old new ordered ordered_own apart lt h p

    cover_held : (cover_at covers i).left < (cover_at covers i).right
    cover_held = ordered.held i none lt

    old_near : All (λ g. g.right ≤ (cover_at covers i).right) h.more
    old_near k d k_lt = let q = h.near k d k_lt in let ahead = h.ahead lt in let c = cover_held in omega arith

    trailing : n < length own → (cover_at covers i).right ≤ (cover_at own n).left
    trailing n_lt = ends_first (cover_at covers i) (cover_at own n) (apart i none lt n none n_lt) cover_held
        (ordered_own.held n none n_lt) (a.own_after n_lt)

    with_gaps : (more : List Gap) → newer ≡ old ++ more →
        All (λ g. (g.row ≡ row) × IsGapIn covers own g.left g.right) more →
        All (λ g. g.right ≤ (cover_at covers i).right) more → AllPairs (λ g h. g.right ≤ h.left) more →
        ((j left : ℕ) → j < i + 1 → IsGapIn covers own left (cover_at covers j).left →
        Contains more (gap_of row left (cover_at covers j).left)) →
        IsBetween row covers own (i + 1) n (cover_at covers i).right old newer
    with_gaps more whole each near order all = record {
      within = p.within;
      passed = λ k k_lt. rights_rise covers k i ordered (omega arith) lt;
      own_passed = λ k k_lt. let q = a.own_past k k_lt in let b = a.before in let c = cover_held in omega arith;
      ahead = λ more_lt. ordered.rising i (i + 1) (omega arith) more_lt;
      own_ahead = trailing;
      begins = λ column e bare own_bare. held_column covers i column lt (let c = cover_held in omega arith)
          (omega arith) bare;
      more = more;
      whole = whole;
      each = each;
      near = near;
      order = order;
      all = all;
    }

    by : (b : Bool) → nat_lt end (cover_at covers i).left ≡ b →
        IsBetween row covers own (i + 1) n (cover_at covers i).right old newer
    by true e =
        let less : end < (cover_at covers i).left = grind (arith, nat_tests) in
        let g = gap_here covers own i n before end ordered ordered_own lt p.within a less in
        with_gaps (h.more ++ gap_of row end (cover_at covers i).left ∷ [])
        (some less ∙ ap (λ (xs : List Gap). xs ++ gap_of row end (cover_at covers i).left ∷ []) h.whole
        ∙ append_assoc old h.more (gap_of row end (cover_at covers i).left ∷ []))
        (All-push (λ g. (g.row ≡ row) × IsGapIn covers own g.left g.right) h.more
        (gap_of row end (cover_at covers i).left) h.each (refl, g))
        (All-push (λ g. g.right ≤ (cover_at covers i).right) h.more (gap_of row end (cover_at covers i).left) old_near
        (let c = cover_held in omega arith))
        (all_pairs_push (λ g h. g.right ≤ h.left) h.more (gap_of row end (cover_at covers i).left) h.order
        (λ k d k_lt. let q = h.near k d k_lt in let l = a.later in omega arith))
        (λ j left j_lt gap. below_more (λ (j : ℕ). (left : ℕ) → IsGapIn covers own left (cover_at covers j).left →
        Contains (h.more ++ gap_of row end (cover_at covers i).left ∷ [])
        (gap_of row left (cover_at covers j).left)) i
        (λ k k_lt left gap. Contains-append_left h.more (gap_of row end (cover_at covers i).left ∷ [])
        (gap_of row left (cover_at covers k).left) (h.all k left k_lt gap))
        (λ left gap. let same = begins_here covers own i n before end left ordered ordered_own lt p.within a gap in
        rw same (Contains-push h.more (gap_of row end (cover_at covers i).left)))
        j j_lt left gap)
    by false e =
        let no : (cover_at covers i).left ≤ end = grind (arith, nat_tests) in
        with_gaps h.more (stay no ∙ h.whole) h.each old_near h.order
        (λ j left j_lt gap. below_more (λ (j : ℕ). (left : ℕ) → IsGapIn covers own left (cover_at covers j).left →
        Contains h.more (gap_of row left (cover_at covers j).left)) i
        (λ k k_lt left gap. h.all k left k_lt gap)
        (λ left gap. let same = begins_here covers own i n before end left ordered ordered_own lt p.within a gap in
        let less = gap.some in absurd (omega arith))
        j j_lt left gap)

-- a column that is not bare has a cover
record HasCover (covers : List Cover) (column : ℕ) : Type 0 where
  k : ℕ
  lt : k < length covers
  from : (cover_at covers k).left ≤ column
  to : column < (cover_at covers k).right

find_cover : (covers : List Cover) (column n : ℕ) → n ≤ length covers →
    ((k : ℕ) → n ≤ k → k < length covers → (cover_at covers k).left ≤ column → column < (cover_at covers k).right → ⊥) →
    (IsBare covers column → ⊥) → HasCover covers column
find_cover covers column zero le none_left not_bare =
    absurd
    (not_bare
    (record {
      bare = All-from_get_or (λ c. c.left ≤ column → column < c.right → ⊥) covers none
          (λ k k_lt. none_left k (omega arith) k_lt);
    }))
find_cover covers column (suc n) le none_left not_bare =
    by (nat_le (cover_at covers n).left column && nat_lt column (cover_at covers n).right) refl
    (λ further. find_cover covers column n (omega arith) further not_bare)
  where
    by : (b : Bool) → (nat_le (cover_at covers n).left column && nat_lt column (cover_at covers n).right) ≡ b →
        (((k : ℕ) → n ≤ k → k < length covers → (cover_at covers k).left ≤ column → column < (cover_at covers k).right →
        ⊥) → HasCover covers column) → HasCover covers column
    by true e further =
        record { k = n; lt = omega arith; from = grind (arith, nat_tests); to = grind (arith, nat_tests) }
    by false e further = further (λ k from lt left right. none_here k from lt left right (nat_lt n k) refl)
      where
        none_here : (k : ℕ) → n ≤ k → k < length covers → (cover_at covers k).left ≤ column →
            column < (cover_at covers k).right → (b : Bool) → nat_lt n k ≡ b → ⊥
        none_here k from lt left right true t =
            none_left k (let l : n < k = grind (arith, nat_tests) in omega arith) lt left right
        none_here k from lt left right false t =
            let same : k ≡ n = grind (arith, nat_tests) in
            let l : (cover_at covers n).left ≤ column =
            subst (λ (m : ℕ). (cover_at covers m).left ≤ column) same left in
            let r : column < (cover_at covers n).right =
            subst (λ (m : ℕ). column < (cover_at covers m).right) same right in
            grind (arith, nat_tests)

pub between_end : (row : ℕ) (covers own : List Cover) (i next end : ℕ) (old new : List Gap) → length covers ≤ i →
    IsBetween row covers own i next end old new → AreGapsIn row covers own old new
between_end row covers own i next end old new all_done h = record {
  more = h.more;
  whole = h.whole;
  each = h.each;
  order = h.order;
  all = λ left right gap.
      let has = find_cover covers right (length covers) (omega arith) (λ k from lt. absurd (omega arith)) gap.ends in
      let same : (cover_at covers has.k).left ≡ right = edge left right gap has in
      subst (λ (r : ℕ). Contains h.more (gap_of row left r)) same
      (h.all has.k left (let l = has.lt in omega arith)
      (subst (λ (r : ℕ). IsGapIn covers own left r) (sym same) gap));
}
  where
    edge : (left right : ℕ) → IsGapIn covers own left right → (has : HasCover covers right) →
        (cover_at covers has.k).left ≡ right
    edge left right gap has = by (nat_lt (cover_at covers has.k).left right) refl
      where
        by : (b : Bool) → nat_lt (cover_at covers has.k).left right ≡ b → (cover_at covers has.k).left ≡ right
        by true e =
            let less : (cover_at covers has.k).left < right = grind (arith, nat_tests) in
            let some = gap.some in let to = has.to in
            absurd (held_column covers has.k (right - 1) has.lt (omega arith) (omega arith)
            (gap.bare (right - 1) (omega arith) (omega arith)).0)
        by false e = let from = has.from in grind (arith, nat_tests)
