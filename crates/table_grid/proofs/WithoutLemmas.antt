-- Covers without the columns of others.
use Rattle.std.proofs.Common.{◌≡◌, ◌+◌, ◌<◌, ◌≤◌, [], ◌∙◌, All, Bool, List, ap, arith, false, get_or, length}
use Rattle.std.proofs.Common.{length-take, max, nat_lt, refl, subst, sym, take, take_all, true, ℕ}
use Rattle.std.proofs.lemmas.Bool.Decides.{nat_tests}
use Rattle.std.proofs.lemmas.List.{get_or-take, get_or_default}
use Rattle.std.specs.List.Sorted.{IsNonDecreasingBy}
use Rattle.table_grid.specs.declared.covers.Cover.{Cover}
use Rattle.table_grid.specs.Covers.{cover_at, AreOrdered, EndBefore, Misses, MissesOne}
use Rattle.table_grid.specs.Without.{IsPartPut, IsKept, IsWithout}
use Rattle.table_grid.proofs.WalkLemmas.{none}
use Rattle.table_grid.proofs.MergeLemmas.{misses_more, misses_less, end_weaker}

-- the same within the next cover, up to `left`
pub record IsCutting (covers ended : List Cover) (i at trailing next left : ℕ) (old kept : List Cover) : Type 0 where
  pub within : next ≤ length ended
  pub farther : at ≤ next
  pub whole : AreOrdered kept
  pub from : (cover_at covers i).left ≤ left
  pub after_left : trailing ≤ left
  pub ends_left : EndBefore kept left
  pub ends_right : EndBefore kept (cover_at covers i).right
  pub passed : (k : ℕ) → k < next → (cover_at ended k).right ≤ left
  pub reached : (column : ℕ) → (cover_at covers i).right ≤ column → column < left → Misses ended column → ⊥
  pub here : (column : ℕ) → (cover_at covers i).left ≤ column → column < left → Misses kept column →
      Misses ended column → ⊥
  pub fewer : (column : ℕ) → Misses old column → MissesOne (cover_at covers i) column → Misses kept column
  pub apart : (column : ℕ) → (Misses ended column → ⊥) → Misses kept column
  pub more : (column : ℕ) → Misses kept column → Misses old column

no_covers : (column : ℕ) → Misses [] column
no_covers column = record { misses = λ k d lt. absurd (omega arith) }

pub kept_first : (covers ended : List Cover) → IsKept covers ended 0 0 0 []
kept_first covers ended = record {
  within = omega arith;
  whole = record { held = λ k d lt. absurd (omega arith); rising = λ j k lt k_lt. absurd (omega arith) };
  ends = λ bound a. record { within = λ k d lt. absurd (omega arith) };
  passed = λ k lt. absurd (omega arith);
  coming = λ j k lt le k_lt. absurd (omega arith);
  reached = λ column a lt. absurd (omega arith);
  fewer = λ column a. no_covers column;
  apart = λ column a. no_covers column;
  more = λ column a b. no_covers column;
}

module _ (covers ended : List Cover) (i at trailing : ℕ) (old : List Cover) (ordered : AreOrdered covers)
    (lt : i < length covers)
    (h : IsKept covers ended i at trailing old) where
  before : (j : ℕ) → j < i → (cover_at covers j).right ≤ (cover_at covers i).left
  before j j_lt = ordered.rising j i j_lt lt

  old_ends : EndBefore old (cover_at covers i).left
  old_ends = h.ends (cover_at covers i).left (record {
    within = λ k d k_lt. let n = length-take i covers in
        subst (λ (c : Cover). c.right ≤ (cover_at covers i).left)
        (get_or_default covers k none d (omega arith) ∙ sym (get_or-take i covers k d (omega arith)))
        (before k (omega arith));
  })

  pub cutting_first : IsCutting covers ended i at trailing at (max trailing (cover_at covers i).left) old old
  cutting_first = let some = ordered.held i none lt in record {
    within = h.within;
    farther = omega arith;
    whole = h.whole;
    from = omega arith;
    after_left = omega arith;
    ends_left = end_weaker old (cover_at covers i).left (max trailing (cover_at covers i).left) (omega arith) old_ends;
    ends_right = end_weaker old (cover_at covers i).left (cover_at covers i).right (omega arith) old_ends;
    passed = λ k k_lt. let p = h.passed k k_lt in omega arith;
    reached = λ column from to. h.reached column (λ j j_lt. let b = before j j_lt in omega arith) (omega arith);
    here = λ column from to kept. h.reached column (λ j j_lt. let b = before j j_lt in omega arith) (omega arith);
    fewer = λ column a b. a;
    apart = h.apart;
    more = λ column a. a;
  }

  pub cutting_more : (next left : ℕ) (kept newer : List Cover) → IsNonDecreasingBy (λ c. c.left) ended →
      All (λ c. c.left < c.right) ended →
      IsCutting covers ended i at trailing next left old kept → next < length ended →
      (cover_at ended next).left < (cover_at covers i).right →
      IsPartPut left (cover_at ended next).left kept newer →
      IsCutting covers ended i at trailing (next + 1) (max left (cover_at ended next).right) old newer
  cutting_more next left kept newer rising some g next_lt begins p = record {
    within = omega arith;
    farther = let f = g.farther in omega arith;
    whole = p.whole;
    from = let f = g.from in omega arith;
    after_left = let f = g.after_left in omega arith;
    ends_left = p.ends (max left (cover_at ended next).right)
        (end_weaker kept left (max left (cover_at ended next).right) (omega arith) g.ends_left)
        (let s = held in omega arith);
    ends_right = p.ends (cover_at covers i).right g.ends_right (omega arith);
    passed = λ k k_lt. by_place k (nat_lt k next) refl k_lt;
    reached = λ column from to miss. by_column column (nat_lt column left) refl from to miss;
    here = λ column from to kept_miss miss. by_here column (nat_lt column left) refl from to kept_miss miss;
    fewer = λ column a b. p.fewer column (g.fewer column a b)
        (λ from to. b (let f = g.from in omega arith) (omega arith));
    apart = λ column a. p.fewer column (g.apart column a)
        (λ from to. a
        (record { misses = λ k d k_lt left_le right_lt. not_ended column from to k d k_lt left_le right_lt }));
    more = λ column a. g.more column ((p.more column a).0);
  }
    where
      held : (cover_at ended next).left < (cover_at ended next).right
      held = some next none next_lt

      by_place : (k : ℕ) → (b : Bool) → nat_lt k next ≡ b → k < next + 1 →
          (cover_at ended k).right ≤ max left (cover_at ended next).right
      by_place k true e k_lt = let q = g.passed k (grind (arith, nat_tests)) in omega arith
      by_place k false e k_lt = let same : next ≡ k = grind (arith, nat_tests) in
          subst (λ (n : ℕ). (cover_at ended n).right ≤ max left (cover_at ended next).right) same (omega arith)

      by_column : (column : ℕ) → (b : Bool) → nat_lt column left ≡ b → (cover_at covers i).right ≤ column →
          column < max left (cover_at ended next).right → Misses ended column → ⊥
      by_column column true e from to miss = g.reached column from (grind (arith, nat_tests)) miss
      by_column column false e from to miss = let past : left ≤ column = grind (arith, nat_tests) in
          miss.misses next none next_lt (omega arith) (omega arith)

      by_here : (column : ℕ) → (b : Bool) → nat_lt column left ≡ b → (cover_at covers i).left ≤ column →
          column < max left (cover_at ended next).right → Misses newer column → Misses ended column → ⊥
      by_here column true e from to kept_miss miss =
          g.here column from (grind (arith, nat_tests)) ((p.more column kept_miss).0) miss
      by_here column false e from to kept_miss miss =
          let past : left ≤ column = grind (arith, nat_tests) in
          let off : column < (cover_at ended next).left → ⊥ = λ c_lt. (p.more column kept_miss).1 past c_lt in
          let on = miss.misses next none next_lt in
          grind (arith, off, on)

      -- a column from `left` to before the next one of the others is none of theirs
      not_ended : (column : ℕ) → left ≤ column → column < (cover_at ended next).left → (k : ℕ) (d : Cover) →
          k < length ended → (get_or ended k d).left ≤ column → column < (get_or ended k d).right → ⊥
      not_ended column from to k d k_lt left_le right_lt = order (nat_lt k next) refl
        where
          order : (b : Bool) → nat_lt k next ≡ b → ⊥
          order true e = let q = g.passed k (grind (arith, nat_tests)) in let same =
              get_or_default ended k d none k_lt in
              let r : (get_or ended k d).right ≡ (cover_at ended k).right = ap (λ (c : Cover). c.right) same in
              omega arith
          order false e = let q = rising next k d (grind (arith, nat_tests)) k_lt in let same =
              get_or_default ended next d none next_lt in
              let r : (get_or ended next d).left ≡ (cover_at ended next).left = ap (λ (c : Cover). c.left) same in
              omega arith

  pub cutting_end : (next left : ℕ) (kept newer : List Cover) → IsNonDecreasingBy (λ c. c.left) ended →
      IsCutting covers ended i at trailing next left old kept →
      (next < length ended → (cover_at covers i).right ≤ (cover_at ended next).left) →
      IsPartPut left (cover_at covers i).right kept newer → IsKept covers ended (i + 1) next left newer
  cutting_end next left kept newer rising g over p = record {
    within = g.within;
    whole = p.whole;
    ends = λ bound a. p.ends bound (end_weaker kept (cover_at covers i).right bound (last_ends bound a) g.ends_right)
        (last_ends bound a);
    passed = g.passed;
    coming = λ j k j_lt le k_lt. by_cover j k (nat_lt j i) refl j_lt le k_lt;
    reached = λ column a to miss. g.reached column (a i (omega arith)) to miss;
    fewer = λ column a. let both = misses_less covers i column lt a in
        p.fewer column (g.fewer column (h.fewer column both.0) both.1)
        (λ from to. both.1 (let f = g.from in omega arith) to);
    apart = λ column a. p.fewer column (g.apart column a)
        (λ from to. a
        (record { misses = λ k d k_lt left_le right_lt. not_ended column from to k d k_lt left_le right_lt }));
    more = λ column a miss. let both = p.more column a in
        misses_more covers i column lt (h.more column (g.more column both.0) miss)
        (λ from to. here column both.0 both.1 miss from to (nat_lt column left) refl);
  }
    where
      last_ends : (bound : ℕ) → EndBefore (take (i + 1) covers) bound → (cover_at covers i).right ≤ bound
      last_ends bound a = subst (λ (c : Cover). c.right ≤ bound) (get_or-take (i + 1) covers i none (omega arith))
          (a.within i none (let n = length-take (i + 1) covers in omega arith))

      from_next : (k : ℕ) → next ≤ k → k < length ended → (cover_at covers i).right ≤ (cover_at ended k).left
      from_next k le k_lt = let o = over (omega arith) in let r = rising next k none le k_lt in omega arith

      by_cover : (j k : ℕ) → (b : Bool) → nat_lt j i ≡ b → j < i + 1 → next ≤ k → k < length ended →
          (cover_at covers j).right ≤ (cover_at ended k).left
      by_cover j k true e j_lt le k_lt = h.coming j k (grind (arith, nat_tests)) (let f = g.farther in omega arith) k_lt
      by_cover j k false e j_lt le k_lt = let same : i ≡ j = grind (arith, nat_tests) in
          subst (λ (n : ℕ). (cover_at covers n).right ≤ (cover_at ended k).left) same (from_next k le k_lt)

      here : (column : ℕ) → Misses kept column → (left ≤ column → column < (cover_at covers i).right → ⊥) →
          Misses ended column →
          (cover_at covers i).left ≤ column → column < (cover_at covers i).right → (b : Bool) → nat_lt column left ≡ b →
          ⊥
      here column kept_miss part miss from to true e = g.here column from (grind (arith, nat_tests)) kept_miss miss
      here column kept_miss part miss from to false e = part (grind (arith, nat_tests)) to

      not_ended : (column : ℕ) → left ≤ column → column < (cover_at covers i).right → (k : ℕ) (d : Cover) →
          k < length ended → (get_or ended k d).left ≤ column → column < (get_or ended k d).right → ⊥
      not_ended column from to k d k_lt left_le right_lt = order (nat_lt k next) refl
        where
          order : (b : Bool) → nat_lt k next ≡ b → ⊥
          order true e = let q = g.passed k (grind (arith, nat_tests)) in let same =
              get_or_default ended k d none k_lt in
              let r : (get_or ended k d).right ≡ (cover_at ended k).right = ap (λ (c : Cover). c.right) same in
              omega arith
          order false e = let q = from_next k (grind (arith, nat_tests)) k_lt in let same =
              get_or_default ended k d none k_lt in
              let r : (get_or ended k d).left ≡ (cover_at ended k).left = ap (λ (c : Cover). c.left) same in omega arith

pub kept_end : (covers ended : List Cover) (i at trailing : ℕ) (kept : List Cover) → length covers ≤ i →
    IsKept covers ended i at trailing kept → IsWithout covers ended kept
kept_end covers ended i at trailing kept all h = record {
  whole = h.whole;
  fewer = λ column a. h.fewer column (subst (λ (xs : List Cover). Misses xs column) (sym (take_all i covers all)) a);
  apart = h.apart;
  more = λ column a miss. subst (λ (xs : List Cover). Misses xs column) (take_all i covers all) (h.more column a miss);
  ends = λ bound a. h.ends bound (subst (λ (xs : List Cover). EndBefore xs bound) (sym (take_all i covers all)) a);
}
