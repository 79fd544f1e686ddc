-- A row is whole: its cells, its gaps and the places that cells of rows above take, put in order.
use Rattle.std.proofs.Common.{◌≡◌, ℕ, ◌<◌, ◌≤◌, ◌⊎◌, inl, inr, List, arith}
use Rattle.std.specs.List.{AllByRecursion}
use Rattle.std.proofs.lemmas.List.Elements.{All-from_recursion}
use Rattle.table_widths.specs.declared.slot.Slot.{Slot}
use Rattle.table_widths.specs.RowLaws.{IsWhole}
use Rattle.table_widths.specs.Slots.{merged}
use Rattle.table_widths.proofs.EachLemmas.{Has, each_weaker, each_always}
use Rattle.table_widths.proofs.StandLemmas.{AreApart, AreInOrder, BeginsAt, EndsAt, each_merged, has_merged, merging}
use Rattle.table_widths.proofs.StandLemmas.{order_merged, other_merged, stand_from}

-- it begins at the first column, or where a slot of the row ends
abbrev pub BeginsAmong : (own gaps above : List Slot) → Slot → Type 0
BeginsAmong own gaps above s =
    (s.first ≡ 0) ⊎ (Has (EndsAt s.first) own ⊎ (Has (EndsAt s.first) gaps ⊎ Has (EndsAt s.first) above))

-- cells, gaps and places from above, each in order and apart from the others
pub record AreApartInRow (own gaps above : List Slot) : Type 0 where
  pub own_order : AreInOrder own
  pub gaps_order : AreInOrder gaps
  pub above_order : AreInOrder above
  pub own_some : AllByRecursion (λ s. s.first ≤ s.last) own
  pub gaps_some : AllByRecursion (λ s. s.first < s.last) gaps
  pub above_some : AllByRecursion (λ s. s.first < s.last) above
  pub own_gaps : AllByRecursion (λ s. AllByRecursion (AreApart s) gaps) own
  pub own_above : AllByRecursion (λ s. AllByRecursion (AreApart s) above) own
  pub gaps_above : AllByRecursion (λ s. AllByRecursion (AreApart s) above) gaps

pub record AreParts (total : ℕ) (own gaps above : List Slot) : Type 0 where
  pub apart : AreApartInRow own gaps above
  pub own_begin : AllByRecursion (BeginsAmong own gaps above) own
  pub gaps_begin : AllByRecursion (BeginsAmong own gaps above) gaps
  pub above_begin : AllByRecursion (BeginsAmong own gaps above) above
  pub own_within : AllByRecursion (λ s. s.last ≤ total) own
  pub gaps_within : AllByRecursion (λ s. s.last ≤ total) gaps
  pub above_within : AllByRecursion (λ s. s.last ≤ total) above

pub each_of_row : (P : Slot → Type 0) (own gaps above : List Slot) → AllByRecursion P own → AllByRecursion P gaps →
    AllByRecursion P above → AllByRecursion P (merged (merged own gaps) above)
each_of_row P own gaps above h k l =
    each_merged P (merging (merged own gaps) above) (each_merged P (merging own gaps) h k) l

pub has_own : (P : Slot → Type 0) (own gaps above : List Slot) → Has P own → Has P (merged (merged own gaps) above)
has_own P own gaps above h = has_merged P (merging (merged own gaps) above) (has_merged P (merging own gaps) h)

pub has_gap : (P : Slot → Type 0) (own gaps above : List Slot) → Has P gaps → Has P (merged (merged own gaps) above)
has_gap P own gaps above h = has_merged P (merging (merged own gaps) above) (other_merged P (merging own gaps) h)

pub has_above : (P : Slot → Type 0) (own gaps above : List Slot) → Has P above →
    Has P (merged (merged own gaps) above)
has_above P own gaps above h = other_merged P (merging (merged own gaps) above) h

some_is : (slots : List Slot) → AllByRecursion (λ s. s.first < s.last) slots →
    AllByRecursion (λ s. s.first ≤ s.last) slots
some_is slots h = each_weaker (λ s. s.first < s.last) (λ s. s.first ≤ s.last) (λ s lt. omega arith) slots h

pub row_in_order : (own gaps above : List Slot) → AreApartInRow own gaps above →
    AreInOrder (merged (merged own gaps) above)
row_in_order own gaps above h = order_merged (merging (merged own gaps) above)
    (order_merged (merging own gaps) h.own_order h.gaps_order h.own_some h.gaps_some h.own_gaps) h.above_order
    (each_merged (λ s. s.first ≤ s.last) (merging own gaps) h.own_some (some_is gaps h.gaps_some)) h.above_some
    (each_merged (λ s. AllByRecursion (AreApart s) above) (merging own gaps) h.own_above h.gaps_above)

begins_in_row : (own gaps above : List Slot) (s : Slot) → BeginsAmong own gaps above s →
    BeginsAt 0 (merged (merged own gaps) above) s
begins_in_row own gaps above s (inl e) = inl e
begins_in_row own gaps above s (inr (inl h)) = inr (has_own (EndsAt s.first) own gaps above h)
begins_in_row own gaps above s (inr (inr (inl h))) = inr (has_gap (EndsAt s.first) own gaps above h)
begins_in_row own gaps above s (inr (inr (inr h))) = inr (has_above (EndsAt s.first) own gaps above h)

pub row_is_whole : (total : ℕ) (own gaps above : List Slot) → AreParts total own gaps above →
    IsWhole total (merged (merged own gaps) above)
row_is_whole total own gaps above h = record {
  stands = stand_from 0 (merged (merged own gaps) above) (row_in_order own gaps above h.apart)
      (each_of_row (λ s. s.first ≤ s.last) own gaps above h.apart.own_some (some_is gaps h.apart.gaps_some)
      (some_is above h.apart.above_some))
      (each_always (λ s. 0 ≤ s.first) (λ s. omega arith) (merged (merged own gaps) above))
      (each_of_row (BeginsAt 0 (merged (merged own gaps) above)) own gaps above
      (each_weaker (BeginsAmong own gaps above) (BeginsAt 0 (merged (merged own gaps) above))
      (begins_in_row own gaps above) own h.own_begin)
      (each_weaker (BeginsAmong own gaps above) (BeginsAt 0 (merged (merged own gaps) above))
      (begins_in_row own gaps above) gaps h.gaps_begin)
      (each_weaker (BeginsAmong own gaps above) (BeginsAt 0 (merged (merged own gaps) above))
      (begins_in_row own gaps above) above h.above_begin));
  within = All-from_recursion (λ s. s.last ≤ total) (merged (merged own gaps) above)
      (each_of_row (λ s. s.last ≤ total) own gaps above h.own_within h.gaps_within h.above_within);
}
