-- Slots of a row among which others are put, one by one.
use Rattle.std.proofs.Common.{◌≡◌, ◌+◌, ◌<◌, ◌≤◌, [], ◌∷◌, ◌++◌, Bool, List, ap, arith, cond, drop, false, get_or}
use Rattle.std.proofs.Common.{length, nat_lt, refl, subst, suc, sym, take, true, zero, ℕ}
use Rattle.std.specs.List.{AllByRecursion, prefix_len}
use Rattle.std.proofs.lemmas.Bool.Decides.{nat_tests}
use Rattle.table_widths.specs.declared.slot.Slot.{Slot}
use Rattle.table_widths.specs.Slots.{begins_before, merged}

abbrev pub BeginsAfter : Slot → List Slot → Type 0
BeginsAfter s [] = Unit {0}
BeginsAfter s (t ∷ slots) = s.first ≤ t.first

pub data IsMerged : List Slot → List Slot → List Slot → Type 0 where
  over : {others : List Slot} → IsMerged [] others others
  one : {s : Slot} {slots others rest : List Slot} → BeginsAfter s others → IsMerged slots others rest →
      IsMerged (s ∷ slots) others (s ∷ rest)
  other : {s t : Slot} {slots others rest : List Slot} → t.first < s.first → IsMerged (s ∷ slots) others rest →
      IsMerged (s ∷ slots) (t ∷ others) (t ∷ rest)

merged_other : (s t : Slot) (slots others : List Slot) → begins_before s t ≡ true →
    t ∷ merged (s ∷ slots) others ≡ merged (s ∷ slots) (t ∷ others)
merged_other s t slots others e =
    let n : suc (prefix_len (begins_before s) others) ≡ prefix_len (begins_before s) (t ∷ others) =
    subst (λ (b : Bool). suc (prefix_len (begins_before s) others) ≡ cond b (1 + prefix_len (begins_before s) others) 0)
    (sym e) (omega arith) in
    ap (λ (n : ℕ). take n (t ∷ others) ++ s ∷ merged slots (drop n (t ∷ others))) n

merged_one : (s t : Slot) (slots others : List Slot) → begins_before s t ≡ false →
    s ∷ merged slots (t ∷ others) ≡ merged (s ∷ slots) (t ∷ others)
merged_one s t slots others e =
    let n : 0 ≡ prefix_len (begins_before s) (t ∷ others) =
    subst (λ (b : Bool). 0 ≡ cond b (1 + prefix_len (begins_before s) others) 0) (sym e) refl in
    ap (λ (n : ℕ). take n (t ∷ others) ++ s ∷ merged slots (drop n (t ∷ others))) n

pub merging : (slots others : List Slot) → IsMerged slots others (merged slots others)
merging [] others = over
merging (s ∷ slots) others = by others (λ others. merging slots others)
  where
    by : (others : List Slot) → ((others : List Slot) → IsMerged slots others (merged slots others)) →
        IsMerged (s ∷ slots) others (merged (s ∷ slots) others)
    by [] rest = one tt (rest [])
    by (t ∷ others) rest = next (nat_lt t.first s.first) refl (by others rest) (rest (t ∷ others))
      where
        next : (b : Bool) → nat_lt t.first s.first ≡ b → IsMerged (s ∷ slots) others (merged (s ∷ slots) others) →
            IsMerged slots (t ∷ others) (merged slots (t ∷ others)) →
            IsMerged (s ∷ slots) (t ∷ others) (merged (s ∷ slots) (t ∷ others))
        next true e more rest = subst (IsMerged (s ∷ slots) (t ∷ others)) (merged_other s t slots others e)
            (other (grind (arith, nat_tests)) more)
        next false e more rest = subst (IsMerged (s ∷ slots) (t ∷ others)) (merged_one s t slots others e)
            (one (grind (arith, nat_tests)) rest)

pub each_merged : {slots others whole : List Slot} (P : Slot → Type 0) → IsMerged slots others whole →
    AllByRecursion P slots → AllByRecursion P others → AllByRecursion P whole
each_merged P over h k = k
each_merged P (one first m) h k = (h.0, each_merged P m h.1 k)
each_merged P (other first m) h k = (k.0, each_merged P m h k.1)

pub each_at : {X : Type 0} (P : X → Type 0) → (xs : List X) (d : X) →
    ((k : ℕ) → k < length xs → P (get_or xs k d)) → AllByRecursion P xs
each_at P [] d by = tt
each_at P (x ∷ xs) d by =
    (by zero (omega arith), each_at P xs d (λ k lt. by (suc k) (omega arith)))
