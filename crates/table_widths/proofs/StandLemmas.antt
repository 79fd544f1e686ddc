-- Slots in order, and without a hole; slots among which others are put.
use Rattle.std.proofs.Common.{◌≡◌, ◌+◌, ◌<◌, ◌≤◌, ◌⊎◌, [], ◌∷◌, ◌++◌, Bool, List, ap, arith, cond, drop, false, inl}
use Rattle.std.proofs.Common.{inr, nat_lt, refl, subst, suc, sym, take, true, ℕ}
use Rattle.std.specs.List.{AllByRecursion, prefix_len}
use Rattle.std.proofs.lemmas.Bool.Decides.{nat_tests}
use Rattle.table_widths.specs.declared.slot.Slot.{Slot}
use Rattle.table_widths.specs.RowLaws.{StandFrom}
use Rattle.table_widths.specs.Slots.{begins_before, merged}
use Rattle.table_widths.proofs.EachLemmas.{Has, Pairs, each_weaker, each_both}

-- the first ends before the second begins
abbrev pub EndsBefore : Slot → Slot → Type 0
EndsBefore s t = s.last ≤ t.first

abbrev pub AreInOrder : List Slot → Type 0
AreInOrder slots = Pairs EndsBefore slots

-- one ends before the other begins
abbrev pub AreApart : Slot → Slot → Type 0
AreApart s t = (s.last ≤ t.first) ⊎ (t.last ≤ s.first)

-- a slot with columns that ends there
abbrev pub EndsAt : ℕ → Slot → Type 0
EndsAt column t = (t.first < t.last) × (t.last ≡ column)

-- it begins at a column, or where another ends
abbrev pub BeginsAt : ℕ → List Slot → Slot → Type 0
BeginsAt from slots s = (s.first ≡ from) ⊎ Has (EndsAt s.first) slots

none_ends_after : (column : ℕ) (s : Slot) (slots : List Slot) → column ≤ s.last →
    AllByRecursion (EndsBefore s) slots → Has (EndsAt column) slots → ⊥
none_ends_after column s [] le order h = h
none_ends_after column s (t ∷ slots) le order (inl e) =
    let a = order.0 in let b = e.0 in let c = e.1 in omega arith
none_ends_after column s (t ∷ slots) le order (inr h) = none_ends_after column s slots le order.1 h

pub stand_from : (from : ℕ) (slots : List Slot) → AreInOrder slots → AllByRecursion (λ s. s.first ≤ s.last) slots →
    AllByRecursion (λ s. from ≤ s.first) slots → AllByRecursion (BeginsAt from slots) slots → StandFrom from slots
stand_from from [] order some trailing begins = tt
stand_from from (s ∷ slots) order some trailing begins = (
  here begins.0,
  (
    some.0,
    stand_from s.last slots order.1 some.1 order.0
        (each_both (BeginsAt from (s ∷ slots)) (EndsBefore s) (BeginsAt s.last slots)
        (λ u b o. later (here begins.0) u b o) slots begins.1 order.0),
  ),
)
  where
    here : BeginsAt from (s ∷ slots) s → s.first ≡ from
    here (inl e) = e
    here (inr (inl e)) = absurd (let a = e.0 in let b = e.1 in omega arith)
    here (inr (inr h)) = absurd (none_ends_after s.first s slots some.0 order.0 h)

    later : s.first ≡ from → (u : Slot) → BeginsAt from (s ∷ slots) u → s.last ≤ u.first → BeginsAt s.last slots u
    later first u (inl e) o = inl (let a = some.0 in omega arith)
    later first u (inr (inl e)) o = inl (sym e.1)
    later first u (inr (inr h)) o = inr h

-- ---- others among slots
abbrev pub BeginsAfter : Slot → List Slot → Type 0
BeginsAfter s [] = Unit {0}
BeginsAfter s (t ∷ slots) = s.first ≤ t.first

pub data IsMerged : List Slot → List Slot → List Slot → Type 0 where
  over : {others : List Slot} → IsMerged [] others others
  one : {s : Slot} {slots others rest : List Slot} → BeginsAfter s others → IsMerged slots others rest →
      IsMerged (s ∷ slots) others (s ∷ rest)
  other : {s t : Slot} {slots others rest : List Slot} → t.first < s.first → IsMerged (s ∷ slots) others rest →
      IsMerged (s ∷ slots) (t ∷ others) (t ∷ rest)

merged_other : (s t : Slot) (slots others : List Slot) → begins_before s t ≡ true →
    t ∷ merged (s ∷ slots) others ≡ merged (s ∷ slots) (t ∷ others)
merged_other s t slots others e =
    let n : suc (prefix_len (begins_before s) others) ≡ prefix_len (begins_before s) (t ∷ others) =
    subst (λ (b : Bool). suc (prefix_len (begins_before s) others) ≡ cond b (1 + prefix_len (begins_before s) others) 0)
    (sym e) (omega arith) in
    ap (λ (n : ℕ). take n (t ∷ others) ++ s ∷ merged slots (drop n (t ∷ others))) n

merged_one : (s t : Slot) (slots others : List Slot) → begins_before s t ≡ false →
    s ∷ merged slots (t ∷ others) ≡ merged (s ∷ slots) (t ∷ others)
merged_one s t slots others e =
    let n : 0 ≡ prefix_len (begins_before s) (t ∷ others) =
    subst (λ (b : Bool). 0 ≡ cond b (1 + prefix_len (begins_before s) others) 0) (sym e) refl in
    ap (λ (n : ℕ). take n (t ∷ others) ++ s ∷ merged slots (drop n (t ∷ others))) n

pub merging : (slots others : List Slot) → IsMerged slots others (merged slots others)
merging [] others = over
merging (s ∷ slots) others = by others (λ others. merging slots others)
  where
    by : (others : List Slot) → ((others : List Slot) → IsMerged slots others (merged slots others)) →
        IsMerged (s ∷ slots) others (merged (s ∷ slots) others)
    by [] rest = one tt (rest [])
    by (t ∷ others) rest = next (nat_lt t.first s.first) refl (by others rest) (rest (t ∷ others))
      where
        next : (b : Bool) → nat_lt t.first s.first ≡ b → IsMerged (s ∷ slots) others (merged (s ∷ slots) others) →
            IsMerged slots (t ∷ others) (merged slots (t ∷ others)) →
            IsMerged (s ∷ slots) (t ∷ others) (merged (s ∷ slots) (t ∷ others))
        next true e more rest = subst (IsMerged (s ∷ slots) (t ∷ others)) (merged_other s t slots others e)
            (other (grind (arith, nat_tests)) more)
        next false e more rest = subst (IsMerged (s ∷ slots) (t ∷ others)) (merged_one s t slots others e)
            (one (grind (arith, nat_tests)) rest)

pub each_merged : {slots others whole : List Slot} (P : Slot → Type 0) → IsMerged slots others whole →
    AllByRecursion P slots → AllByRecursion P others → AllByRecursion P whole
each_merged P over h k = k
each_merged P (one first m) h k = (h.0, each_merged P m h.1 k)
each_merged P (other first m) h k = (k.0, each_merged P m h k.1)

pub has_merged : {slots others whole : List Slot} (P : Slot → Type 0) → IsMerged slots others whole →
    Has P slots → Has P whole
has_merged P over h = absurd h
has_merged P (one first m) (inl p) = inl p
has_merged P (one first m) (inr h) = inr (has_merged P m h)
has_merged P (other first m) h = inr (has_merged P m h)

pub other_merged : {slots others whole : List Slot} (P : Slot → Type 0) → IsMerged slots others whole →
    Has P others → Has P whole
other_merged P over h = h
other_merged P (one first m) h = inr (other_merged P m h)
other_merged P (other first m) (inl p) = inl p
other_merged P (other first m) (inr h) = inr (other_merged P m h)

or_first : {A B C : Type 0} → B ⊎ C → (A ⊎ B) ⊎ C
or_first (inl h) = inl (inr h)
or_first (inr h) = inr h

or_second : {A B C : Type 0} → B ⊎ C → B ⊎ (A ⊎ C)
or_second (inl h) = inl h
or_second (inr h) = inr (inr h)

pub merged_has : {slots others whole : List Slot} (P : Slot → Type 0) → IsMerged slots others whole →
    Has P whole → Has P slots ⊎ Has P others
merged_has P over h = inr h
merged_has P (one first m) (inl p) = inl (inl p)
merged_has P (one first m) (inr h) = or_first (merged_has P m h)
merged_has P (other first m) (inl p) = inr (inl p)
merged_has P (other first m) (inr h) = or_second (merged_has P m h)

-- others that are apart from a slot and don't begin before it stand after it
after_slot : (s : Slot) (others : List Slot) → BeginsAfter s others → AreInOrder others →
    AllByRecursion (λ t. t.first < t.last) others → AllByRecursion (AreApart s) others →
    AllByRecursion (EndsBefore s) others
after_slot s [] first order some apart = tt
after_slot s (t ∷ others) first order some apart = (
  by t first some.0 apart.0,
  each_both (EndsBefore t) (λ u. (u.first < u.last) × AreApart s u) (EndsBefore s)
      (λ u o a. let f : s.first ≤ t.first = first in let l = some.0 in
      by u (omega arith) a.0 a.1) others order.0
      (each_both (λ u. u.first < u.last) (AreApart s) (λ u. (u.first < u.last) × AreApart s u)
      (λ u a b. (a, b)) others some.1 apart.1),
)
  where
    by : (t : Slot) → s.first ≤ t.first → t.first < t.last → AreApart s t → s.last ≤ t.first
    by t first some (inl e) = e
    by t first some (inr e) = absurd (omega arith)

pub order_merged : {slots others whole : List Slot} → IsMerged slots others whole → AreInOrder slots →
    AreInOrder others → AllByRecursion (λ s. s.first ≤ s.last) slots →
    AllByRecursion (λ t. t.first < t.last) others →
    AllByRecursion (λ s. AllByRecursion (AreApart s) others) slots → AreInOrder whole
order_merged over order others_order some others_some apart = others_order
order_merged {slots = s ∷ slots} {others = others} (one first m) order others_order some others_some apart = (
  each_merged (EndsBefore s) m order.0 (after_slot s others first others_order others_some apart.0),
  order_merged m order.1 others_order some.1 others_some apart.1,
)
order_merged {slots = s ∷ slots} {others = t ∷ others} (other first m) order others_order some others_some apart = (
  each_merged (EndsBefore t) m (
    before apart.0.0,
    each_weaker (EndsBefore s) (EndsBefore t)
        (λ u o. let a = before apart.0.0 in let b = some.0 in omega arith) slots order.0,
  )
      others_order.0,
  order_merged m order others_order.1 some others_some.1
      (each_weaker (λ u. AllByRecursion (AreApart u) (t ∷ others)) (λ u. AllByRecursion (AreApart u) others)
      (λ u a. a.1) (s ∷ slots) apart),
)
  where
    before : AreApart s t → t.last ≤ s.first
    before (inl e) = absurd (let a = some.0 in let b = others_some.0 in omega arith)
    before (inr e) = e
