-- The walk over the covers.
use Rattle.std.proofs.Common.{ℕ, ◌+◌, ◌^◌, ◌<◌, ◌≤◌, max, List, length, arith}
use borrow.Author.Count.{below_more}
use Rattle.std.proofs.lemmas.List.Elements.{All-from_get_or}
use Rattle.table_grid.specs.declared.covers.Cover.{Cover}
use Rattle.table_grid.specs.Covers.{cover_at, IsClear, IsFirstFree, AreOrdered, ArePassed}

abbrev pub none : Cover
none = record { left = 0; right = 0 }

-- what the walk keeps: no place before start is free, and the covers before `at` end at start or before
pub record IsReached (covers : List Cover) (trailing span at start : ℕ) : Type 0 where
  pub after : trailing ≤ start
  pub small : start + span < 2 ^ 128
  pub passed : ArePassed covers at start
  pub first : (earlier : ℕ) → trailing ≤ earlier → IsClear covers earlier span → start ≤ earlier

pub reached_first : (covers : List Cover) (trailing span at : ℕ) → ArePassed covers at trailing → trailing + span < 2 ^ 128 →
    IsReached covers trailing span at trailing
reached_first covers trailing span at passed small =
    record { after = omega arith; small = small; passed = passed; first = λ earlier le _. le }

-- a cover that stands in the way of each start up to its right edge
in_the_way : (covers : List Cover) (span start k earlier : ℕ) → AreOrdered covers → 0 < span → k < length covers →
    (cover_at covers k).left < start + span → start ≤ earlier → IsClear covers earlier span →
    (cover_at covers k).right ≤ earlier
in_the_way covers span start k earlier ordered some lt left le free =
    let held = ordered.held k none lt in
    let clear = free.clear k none lt (max earlier (cover_at covers k).left) in
    grind arith

pub reached_more : (covers : List Cover) (trailing span at start : ℕ) → AreOrdered covers → 0 < span →
    IsReached covers trailing span at start → at < length covers →
    (cover_at covers at).left < start + span → (cover_at covers at).right + span < 2 ^ 128 →
    IsReached covers trailing span (at + 1) (max start (cover_at covers at).right)
reached_more covers trailing span at start ordered some h lt left small = record {
  after = omega arith;
  small = omega arith;
  passed =
      record {
        within = omega arith;
        passed =
            below_more _ at (λ k k_lt. let a = h.passed.passed k k_lt in omega arith) (omega arith);
      };
  first = λ earlier le free. let a = h.first earlier le free in let b =
      in_the_way covers span start at earlier ordered some lt left a free in omega arith;
}

in_no_way : (covers : List Cover) (span at start k column : ℕ) → AreOrdered covers → ArePassed covers at start →
    (at < length covers → start + span ≤ (cover_at covers at).left) → k < length covers → start ≤ column →
    column < start + span →
    (cover_at covers k).left ≤ column → column < (cover_at covers k).right → ⊥
in_no_way covers span at start k column ordered passed end lt from to left right =
    let held : at < length covers → (cover_at covers at).left < (cover_at covers at).right = ordered.held at none in
    grind (arith, passed.passed k, ordered.rising at k, held)

pub reached_end : (covers : List Cover) (trailing span at start : ℕ) → AreOrdered covers →
    IsReached covers trailing span at start →
    (at < length covers → start + span ≤ (cover_at covers at).left) → IsFirstFree covers trailing span start
reached_end covers trailing span at start ordered h end = record {
  after = h.after;
  clear = record {
    clear = All-from_get_or (λ c. (column : ℕ) → start ≤ column → column < start + span → c.left ≤ column →
        column < c.right → ⊥) covers none
        (λ k lt column from to left right. in_no_way covers span at start k column ordered h.passed end lt from to left
        right);
  };
  first = h.first;
}
