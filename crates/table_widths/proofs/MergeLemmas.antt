-- Slots of a row, and others among them, step by step.
use Rattle.std.proofs.Common.{◌≡◌, ◌+◌, ◌<◌, [], ◌∷◌, ◌++◌, ◌∙◌, List, ap, append_assoc, arith, cond, drop, get_or}
use Rattle.std.proofs.Common.{length, refl, suc, sym, true, ℕ}
use Rattle.std.specs.List.{prefix_len, take_while}
use Rattle.std.proofs.lemmas.List.{drop_more}
use Rattle.std.proofs.lemmas.List.Sums.{take_while-cons}
use Rattle.table_widths.specs.declared.slot.Slot.{Slot}
use Rattle.table_widths.specs.Slots.{begins_before, merged}

pub merged-none : (slots : List Slot) → merged slots [] ≡ slots
merged-none [] = refl
merged-none (s ∷ slots) = ap (λ (xs : List Slot). s ∷ xs) (merged-none slots)

abbrev front : Slot → List Slot → List Slot
front s others = take_while (begins_before s) others

abbrev trailing : Slot → List Slot → List Slot
trailing s others = drop (prefix_len (begins_before s) others) others

front-cons : (s x : Slot) (xs : List Slot) → begins_before s x ≡ true → front s (x ∷ xs) ≡ x ∷ front s xs
front-cons s x xs e = take_while-cons (begins_before s) x xs ∙ ap (λ b. cond b (x ∷ front s xs) []) e

trailing-cons : (s x : Slot) (xs : List Slot) → begins_before s x ≡ true → trailing s (x ∷ xs) ≡ trailing s xs
trailing-cons s x xs e =
    let n : ℕ = prefix_len (begins_before s) xs in
    let more : 1 + n ≡ suc n = omega arith in
    ap (λ b. drop (cond b (1 + n) 0) (x ∷ xs)) e ∙ ap (λ (m : ℕ). drop m (x ∷ xs)) more

-- So far the row has gained some of the others that begin before a slot: with those that are left it has gained all.
pub record IsPushing (s : Slot) (others : List Slot) (from at : ℕ) (old new : List Slot) : Type 0 where
  pub gains : new ++ front s (drop at others) ≡ old ++ front s (drop from others)
  pub left : trailing s (drop at others) ≡ trailing s (drop from others)

pub pushing_more : (s : Slot) (others : List Slot) (from at : ℕ) (old new : List Slot) (d : Slot) →
    at < length others → begins_before s (get_or others at d) ≡ true → IsPushing s others from at old new →
    IsPushing s others from (at + 1) old (new ++ get_or others at d ∷ [])
pushing_more s others from at old new d lt e h = record {
  gains = append_assoc new (get_or others at d ∷ []) (front s (drop (at + 1) others))
      ∙ ap (λ (xs : List Slot). new ++ xs) (sym (front-cons s (get_or others at d) (drop (at + 1) others) e)
      ∙ ap (front s) (sym (drop_more others at d lt))) ∙ h.gains;
  left = sym (trailing-cons s (get_or others at d) (drop (at + 1) others) e)
      ∙ ap (trailing s) (sym (drop_more others at d lt)) ∙ h.left;
}

-- So far the row has some of the slots, and the others that begin before these: with the rest it has all.
pub record IsMergingTo (slots others : List Slot) (i from : ℕ) (row : List Slot) : Type 0 where
  pub whole : row ++ merged (drop i slots) (drop from others) ≡ merged slots others
