-- Covers put after one another.
use Rattle.std.proofs.Common.{◌+◌, ◌-◌, ◌^◌, ◌<◌, ◌≤◌, [], ◌∙◌, All, List, arith, get_or, length, length-take, subst}
use Rattle.std.proofs.Common.{sym, take, take_all, ℕ}
use Rattle.std.proofs.lemmas.List.{get_or-take}
use Rattle.std.proofs.lemmas.List.Elements.{All-more}
use Rattle.table_grid.specs.declared.covers.Cover.{Cover}
use Rattle.table_grid.specs.Covers.{AreApart, AreMerged, AreOrdered, ArePushed, EndBefore, IsMergedTo, Misses}
use Rattle.table_grid.specs.Covers.{MissesOne, cover_at}
use Rattle.table_grid.proofs.WalkLemmas.{none}

pub misses_more : (covers : List Cover) (n column : ℕ) → n < length covers → Misses (take n covers) column →
    MissesOne (cover_at covers n) column →
    Misses (take (n + 1) covers) column
misses_more covers n column lt h one =
    record { misses = All-more (λ c. MissesOne c column) covers n none lt h.misses one }

pub all_less : {X : Type 0} (P : X → Type 0) → (xs : List X) (n : ℕ) (d : X) → n < length xs → All P (take (n + 1) xs) →
    All P (take n xs) × P (get_or xs n d)
all_less P xs n d lt h = (
  (λ k e k_lt. let m = length-take n xs in let k_n : k < n = omega arith in
      subst P (get_or-take (n + 1) xs k e (omega arith) ∙ sym (get_or-take n xs k e k_n))
      (h k e (let m2 = length-take (n + 1) xs in omega arith))),
  subst P (get_or-take (n + 1) xs n d (omega arith)) (h n d (let m2 = length-take (n + 1) xs in omega arith)),
)

pub misses_less : (covers : List Cover) (n column : ℕ) → n < length covers → Misses (take (n + 1) covers) column →
    Misses (take n covers) column × MissesOne (cover_at covers n) column
misses_less covers n column lt h =
    let b = all_less (λ c. MissesOne c column) covers n none lt h.misses in
    (record { misses = b.0 }, b.1)

pub misses_front : (covers : List Cover) (i n column : ℕ) → i ≤ n → n ≤ length covers →
    Misses (take n covers) column → Misses (take i covers) column
misses_front covers i n column le within h = record {
  misses = λ k d k_lt. let m = length-take i covers in let m2 = length-take n covers in
      subst (λ (c : Cover). MissesOne c column)
      (get_or-take n covers k d (omega arith) ∙ sym (get_or-take i covers k d (omega arith)))
      (h.misses k d (omega arith));
}

pub end_weaker : (covers : List Cover) (low high : ℕ) → low ≤ high → EndBefore covers low → EndBefore covers high
end_weaker covers low high le h = record { within = λ k d lt. let a = h.within k d lt in omega arith }

pub pushed_first : (covers : List Cover) (at limit : ℕ) (old : List Cover) →
    IsMergedTo covers at limit old → ArePushed covers at at limit old old
pushed_first covers at limit old h = record {
  merged = h;
  passed = omega arith;
  fewer = λ column a b. a;
  more = λ column a. a;
  also = λ column a b. b;
  ends = λ bound a b. b;
}

pub pushed_more : (covers : List Cover) (at n limit : ℕ) (old new newer : List Cover) → AreOrdered covers →
    All (λ c. c.left < limit → c.right ≤ limit) covers →
    n < length covers → (cover_at covers n).left < limit → ArePushed covers at n limit old new →
    AreOrdered newer → EndBefore newer (cover_at covers n).right →
    ((column : ℕ) → Misses new column → MissesOne (cover_at covers n) column → Misses newer column) →
    ((column : ℕ) → Misses newer column → Misses new column × MissesOne (cover_at covers n) column) →
    ArePushed covers at (n + 1) limit old newer
pushed_more covers at n limit old new newer ordered apart lt left h whole ends fewer more = record {
  merged = record {
    within = omega arith;
    whole = whole;
    ends = end_weaker newer (cover_at covers n).right limit (apart n none lt left) ends;
    trailing = λ next. end_weaker newer (cover_at covers n).right (cover_at covers (n + 1)).left
        (ordered.rising n (n + 1) (omega arith) next) ends;
  };
  passed = let before = h.passed in omega arith;
  fewer = λ column a b. fewer column
      (h.fewer column a ((misses_less covers n column lt b).0)) ((misses_less covers n column lt b).1);
  more = λ column a. h.more column ((more column a).0);
  also = λ column a b. misses_more covers n column lt (h.also column ((more column a).0) b)
      ((more column a).1);
  ends = λ bound a b. end_weaker newer (cover_at covers n).right bound (a.within n none lt) ends;
}

-- covers of which those up to `i` and those of the row up to `j` stand in `merged`
pub record IsMerging (covers own : List Cover) (i j : ℕ) (merged : List Cover) : Type 0 where
  pub within : i ≤ length covers
  pub whole : AreOrdered merged
  pub next : i < length covers → EndBefore merged (cover_at covers i).left
  pub next_own : j < length own → EndBefore merged (cover_at own j).left
  pub fewer : (column : ℕ) → Misses (take i covers) column → Misses (take j own) column →
      Misses merged column
  pub more : (column : ℕ) → Misses merged column →
      Misses (take i covers) column × Misses (take j own) column
  pub ends : (bound : ℕ) → EndBefore covers bound → EndBefore own bound → EndBefore merged bound

no_ends : (column : ℕ) → EndBefore [] column
no_ends column = record { within = λ k d lt. absurd (omega arith) }

no_misses : (column : ℕ) → Misses [] column
no_misses column = record { misses = λ k d lt. absurd (omega arith) }

pub merging_first : (covers own : List Cover) → IsMerging covers own 0 0 []
merging_first covers own = record {
  within = omega arith;
  whole = record { held = λ k d lt. absurd (omega arith); rising = λ j k lt k_lt. absurd (omega arith) };
  next = λ _. no_ends (cover_at covers 0).left;
  next_own = λ _. no_ends (cover_at own 0).left;
  fewer = λ column a b. no_misses column;
  more = λ column a. (no_misses column, no_misses column);
  ends = λ bound a b. no_ends bound;
}

-- of two covers without a common column the one that begins first ends before the other begins
pub ends_first : (a b : Cover) → AreApart a b → a.left < a.right → b.left < b.right → a.left ≤ b.left → a.right ≤ b.left
ends_first a b apart some_a some_b le = let both = apart.apart b.left in grind arith

pub all_before : (covers own : List Cover) (j : ℕ) → AreOrdered covers → AreOrdered own →
    All (λ c. All (AreApart c) own) covers → j < length own →
    All (λ c. c.left < (cover_at own j).left → c.right ≤ (cover_at own j).left) covers
all_before covers own j ordered ordered_own apart lt =
    λ k d k_lt before. ends_first (get_or covers k d) (cover_at own j) (apart k d k_lt j none lt)
    (ordered.held k d k_lt) (ordered_own.held j none lt) (omega arith)

pub merging_to : (covers own : List Cover) (i j : ℕ) (merged : List Cover) → j < length own →
    IsMerging covers own i j merged →
    IsMergedTo covers i (cover_at own j).left merged
merging_to covers own i j merged lt h =
    record { within = h.within; whole = h.whole; ends = h.next_own lt; trailing = h.next }

pub merging_more : (covers own : List Cover) (i n j : ℕ) (merged pushed newer : List Cover) →
    AreOrdered covers → AreOrdered own →
    All (λ c. All (AreApart c) own) covers → j < length own → IsMerging covers own i j merged →
    ArePushed covers i n (cover_at own j).left merged pushed →
    (n < length covers → (cover_at own j).left ≤ (cover_at covers n).left) →
    AreOrdered newer → EndBefore newer (cover_at own j).right →
    ((column : ℕ) → Misses pushed column → MissesOne (cover_at own j) column → Misses newer column) →
    ((column : ℕ) → Misses newer column → Misses pushed column × MissesOne (cover_at own j) column) →
    IsMerging covers own n (j + 1) newer
merging_more covers own i n j merged pushed newer ordered ordered_own apart lt h p over whole ends fewer more =
    record {
      within = p.merged.within;
      whole = whole;
      next = λ n_lt. end_weaker newer (cover_at own j).right (cover_at covers n).left (trailing n_lt) ends;
      next_own = λ j_lt. end_weaker newer (cover_at own j).right (cover_at own (j + 1)).left
          (ordered_own.rising j (j + 1) (omega arith) j_lt) ends;
      fewer = λ column a b. let both = misses_less own j column lt b in
          fewer column (p.fewer column (h.fewer column (front column a) both.0) a) both.1;
      more = λ column a. let both = more column a in let old = h.more column (p.more column both.0) in
          (p.also column both.0 old.0, misses_more own j column lt old.1 both.1);
      ends = λ bound a b. end_weaker newer (cover_at own j).right bound (b.within j none lt) ends;
    }
  where
    trailing : n < length covers → (cover_at own j).right ≤ (cover_at covers n).left
    trailing n_lt = ends_first (cover_at own j) (cover_at covers n)
        (record { apart = λ column from to left right. (apart n none n_lt j none lt).apart column left right from to })
        (ordered_own.held j none lt) (ordered.held n none n_lt) (over n_lt)

    front : (column : ℕ) → Misses (take n covers) column → Misses (take i covers) column
    front column a = misses_front covers i n column p.passed p.merged.within a

pub merged_start : (covers own : List Cover) (i j : ℕ) (merged : List Cover) →
    EndBefore covers (2 ^ 128 - 1) → EndBefore own (2 ^ 128 - 1) → IsMerging covers own i j merged →
    IsMergedTo covers i (2 ^ 128 - 1) merged
merged_start covers own i j merged small small_own h =
    record { within = h.within; whole = h.whole; ends = h.ends (2 ^ 128 - 1) small small_own; trailing = h.next }

pub merged_end : (covers own : List Cover) (i n j : ℕ) (merged pushed : List Cover) → AreOrdered covers →
    EndBefore covers (2 ^ 128 - 1) → length own ≤ j → IsMerging covers own i j merged →
    ArePushed covers i n (2 ^ 128 - 1) merged pushed → (n < length covers → 2 ^ 128 - 1 ≤ (cover_at covers n).left)
    → AreMerged covers own pushed
merged_end covers own i n j merged pushed ordered small own_all h p over = record {
  whole = p.merged.whole;
  fewer = λ column a b. p.fewer column
      (h.fewer column (misses_front covers i n column p.passed p.merged.within (all_of column a))
      (subst (λ (xs : List Cover). Misses xs column) (sym (take_all j own own_all)) b))
      (all_of column a);
  more = λ column a. let old = h.more column (p.more column a) in (
    subst (λ (xs : List Cover). Misses xs column) (take_all n covers all) (p.also column a old.0),
    subst (λ (xs : List Cover). Misses xs column) (take_all j own own_all) old.1,
  );
  ends = λ bound a b. p.ends bound a (h.ends bound a b);
}
  where
    after : n < length covers → ⊥
    after lt = let a = ordered.held n none lt in let b = small.within n none lt in let c = over lt in omega arith

    all : length covers ≤ n
    all = grind (arith, after)

    all_of : (column : ℕ) → Misses covers column → Misses (take n covers) column
    all_of column a = subst (λ (xs : List Cover). Misses xs column) (sym (take_all n covers all)) a
