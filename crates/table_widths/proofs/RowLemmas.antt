-- Rows one after another: of a list whose rows don't fall, what is of a row stands side by side.
use Rattle.std.proofs.Common.{◌≡◌, ◌+◌, ◌<◌, ◌≤◌, [], ◌∷◌, ◌++◌, ◌∙◌, All, Bool, List, ap, append_assoc, arith, cond}
use Rattle.std.proofs.Common.{drop, false, filter, get_or, length, map, refl, suc, sym, true, zero, ℕ}
use Rattle.std.specs.List.Sorted.{IsNonDecreasingBy}
use Rattle.std.proofs.lemmas.Bool.{false_from_ne_true}
use Rattle.std.proofs.lemmas.List.{drop_more, append-nil, get_or_default, get_or-drop, length-drop}
use Rattle.table_widths.specs.declared.slot.Slot.{Slot}
use Rattle.table_widths.specs.RowParts.{HasRowsFrom}

-- ---- what a test passes of the rest of a list

filter-none : {X : Type 0} (test : X → Bool) (xs : List X) → All (λ x. test x ≡ false) xs → filter test xs ≡ []
filter-none test [] h = refl
filter-none test (x ∷ xs) h =
    ap (λ b. cond b (x ∷ filter test xs) (filter test xs)) (h zero x (omega arith))
    ∙ filter-none test xs (λ k d lt. h (suc k) d (omega arith))

filter-no : {X : Type 0} (test : X → Bool) (xs : List X) (at : ℕ) (d : X) → at < length xs →
    test (get_or xs at d) ≡ false → filter test (drop (at + 1) xs) ≡ filter test (drop at xs)
filter-no test xs at d lt e =
    let rest = filter test (drop (at + 1) xs) in
    sym (ap (filter test) (drop_more xs at d lt) ∙ ap (λ b. cond b (get_or xs at d ∷ rest) rest) e)

filter-yes : {X : Type 0} (test : X → Bool) (xs : List X) (at : ℕ) (d : X) → at < length xs →
    test (get_or xs at d) ≡ true → get_or xs at d ∷ filter test (drop (at + 1) xs) ≡ filter test (drop at xs)
filter-yes test xs at d lt e =
    let rest = filter test (drop (at + 1) xs) in
    sym (ap (filter test) (drop_more xs at d lt) ∙ ap (λ b. cond b (get_or xs at d ∷ rest) rest) e)

-- Those of a row that stand before a place are taken, and those of later rows are still to come.
pub record AreTaken {X : Type 0} (key : X → ℕ) (is_of : ℕ → X → Bool) (slot : X → Slot) (xs : List X) (row at : ℕ)
    (slots : List Slot) : Type 0 where
  pub taken : slots ++ map slot (filter (is_of row) (drop at xs)) ≡ map slot (filter (is_of row) xs)
  pub trailing : HasRowsFrom is_of xs (row + 1) at
  pub reached : (d : X) → at < length xs → row ≤ key (get_or xs at d)

module _ {X : Type 0} (key : X → ℕ) (is_of : ℕ → X → Bool)
    (only : (row : ℕ) (x : X) → is_of row x ≡ true → key x ≡ row) where
  not_of : (row : ℕ) (x : X) → (key x ≡ row → ⊥) → is_of row x ≡ false
  not_of row x other = false_from_ne_true (is_of row x) (λ e. other (only row x e))

  pub rows_skipped : (xs : List X) (row at : ℕ) (d : X) → at < length xs → key (get_or xs at d) < row →
      HasRowsFrom is_of xs row at → HasRowsFrom is_of xs row (at + 1)
  rows_skipped xs row at d lt less h = record {
    all = λ later le. filter-no (is_of later) xs at d lt
        (not_of later (get_or xs at d) (λ e. absurd (omega arith))) ∙ h.all later le;
  }

  module _ (slot : X → Slot) where
    pub taken_first : (xs : List X) (row at : ℕ) → HasRowsFrom is_of xs row at →
        ((d : X) → at < length xs → row ≤ key (get_or xs at d)) → AreTaken key is_of slot xs row at []
    taken_first xs row at h reached = record {
      taken = ap (map slot) (h.all row (omega arith));
      trailing = record { all = λ later le. h.all later (omega arith) };
      reached = reached;
    }

    next_reached : (xs : List X) (row at : ℕ) (d : X) → IsNonDecreasingBy key xs → at < length xs →
        key (get_or xs at d) ≡ row → (e : X) → at + 1 < length xs → row ≤ key (get_or xs (at + 1) e)
    next_reached xs row at d rises lt same e less =
        let le : key (get_or xs at e) ≤ key (get_or xs (at + 1) e) = rises at (at + 1) e (omega arith) less in
        let here : key (get_or xs at e) ≡ row = ap key (get_or_default xs at e d lt) ∙ same in omega arith

    pub taken_more : (xs : List X) (row at : ℕ) (slots : List Slot) (d : X) → IsNonDecreasingBy key xs →
        at < length xs → is_of row (get_or xs at d) ≡ true → AreTaken key is_of slot xs row at slots →
        AreTaken key is_of slot xs row (at + 1) (slots ++ slot (get_or xs at d) ∷ [])
    taken_more xs row at slots d rises lt is h =
        let same : key (get_or xs at d) ≡ row = only row (get_or xs at d) is in
        record {
          taken = append_assoc slots (slot (get_or xs at d) ∷ []) (map slot (filter (is_of row) (drop (at + 1) xs)))
              ∙ ap (λ (ys : List X). slots ++ map slot ys) (filter-yes (is_of row) xs at d lt is) ∙ h.taken;
          trailing = rows_skipped xs (row + 1) at d lt (omega arith) h.trailing;
          reached = next_reached xs row at d rises lt same;
        }

    -- one of the row that is left out
    pub taken_same : (xs : List X) (row at : ℕ) (slots : List Slot) (d : X) → IsNonDecreasingBy key xs →
        at < length xs → key (get_or xs at d) ≡ row → is_of row (get_or xs at d) ≡ false →
        AreTaken key is_of slot xs row at slots → AreTaken key is_of slot xs row (at + 1) slots
    taken_same xs row at slots d rises lt same left h = record {
      taken = ap (λ (ys : List X). slots ++ map slot ys) (filter-no (is_of row) xs at d lt left) ∙ h.taken;
      trailing = rows_skipped xs (row + 1) at d lt (omega arith) h.trailing;
      reached = next_reached xs row at d rises lt same;
    }

    none_after : (xs : List X) (row at : ℕ) → IsNonDecreasingBy key xs →
        ((d : X) → at < length xs → row < key (get_or xs at d)) → filter (is_of row) (drop at xs) ≡ []
    none_after xs row at rises past = filter-none (is_of row) (drop at xs)
        (λ k d lt. not_of row (get_or (drop at xs) k d) (λ e.
        let n = length-drop at xs in
        let here : key (get_or xs (at + k) d) ≡ row = ap key (sym (get_or-drop at xs k d)) ∙ e in
        let le = rises at (at + k) d (omega arith) (omega arith) in
        let more = past d (omega arith) in absurd (omega arith)))

    -- after the last of the row all are taken
    pub taken_all : (xs : List X) (row at : ℕ) (slots : List Slot) → IsNonDecreasingBy key xs →
        ((d : X) → at < length xs → key (get_or xs at d) ≡ row → ⊥) → AreTaken key is_of slot xs row at slots →
        slots ≡ map slot (filter (is_of row) xs)
    taken_all xs row at slots rises other h =
        let none : filter (is_of row) (drop at xs) ≡ [] =
        none_after xs row at rises (λ d lt. let le = h.reached d lt in let ne = other d lt in omega arith) in
        sym (append-nil slots) ∙ ap (λ (ys : List X). slots ++ map slot ys) (sym none) ∙ h.taken
