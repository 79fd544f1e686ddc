-- The ends of row spans, in order.
use Rattle.std.proofs.Common.{◌≡◌, ◌+◌, ◌<◌, ◌≤◌, [], ◌∷◌, ◌++◌, ◌∙◌, All, Contains, List, ap, arith, get_or, length}
use Rattle.std.proofs.Common.{refl, subst, zero, ℕ}
use Rattle.std.proofs.lemmas.List.{get_or_default}
use Rattle.std.proofs.lemmas.List.Elements.{All-push, Contains-append_left, Contains-append_right}
use Rattle.std.proofs.lemmas.List.Sorted.{All-permutation, Contains-permutation}
use Rattle.std.specs.List.Sorted.{IsNonDecreasingBy, IsPermutation}
use borrow.Author.Count.{below_more}
use Rattle.table_grid.specs.declared.cell.Cell.{Cell}
use Rattle.table_grid.specs.declared.cell.PlacedCell.{PlacedCell}
use Rattle.table_grid.specs.declared.covers.Cover.{Cover}
use Rattle.table_grid.specs.declared.ends.RowEnd.{RowEnd}
use Rattle.table_grid.specs.PlaceLaws.{placed_at}
use Rattle.table_grid.specs.Covers.{cover_of}
use Rattle.table_grid.specs.Ends.{end_of, end_at, IsEnd, AreEnds, HasEnded, AreEnded}

-- the ends of the first cells
pub record AreEndsTo (cells : List Cell) (n : ℕ) (ends : List RowEnd) : Type 0 where
  pub each : All (IsEnd cells) ends
  pub all : (k : ℕ) (d : Cell) → k < n → Contains ends (end_of k (get_or cells k d))

itself : {X : Type 0} (xs : List X) (x : X) → Contains (xs ++ x ∷ []) x
itself xs x = Contains-append_right xs (x ∷ []) x (zero, omega arith, refl)

pub ends_first : (cells : List Cell) → AreEndsTo cells 0 []
ends_first cells = record { each = λ k d lt. absurd (omega arith); all = λ k d lt. absurd (omega arith) }

pub ends_more : (cells : List Cell) (n : ℕ) (ends : List RowEnd) (cell d : Cell) → n < length cells →
    cell ≡ get_or cells n d →
    AreEndsTo cells n ends → AreEndsTo cells (n + 1) (ends ++ end_of n cell ∷ [])
ends_more cells n ends cell d lt at h = record {
  each = All-push (IsEnd cells) ends (end_of n cell) h.each
      (record { within = lt; is = λ e. ap (λ (c : Cell). c.row + c.rowspan) (same e) });
  all = λ k e k_lt. below_more (λ (k : ℕ). (e : Cell) →
      Contains (ends ++ end_of n cell ∷ []) (end_of k (get_or cells k e))) n
      (λ j j_lt f. Contains-append_left ends (end_of n cell ∷ []) (end_of j (get_or cells j f)) (h.all j f j_lt))
      (λ f. subst (λ (c : Cell). Contains (ends ++ end_of n cell ∷ []) (end_of n c)) (same f)
      (itself ends (end_of n cell)))
      k k_lt e;
}
  where
    same : (e : Cell) → cell ≡ get_or cells n e
    same e = at ∙ get_or_default cells n d e lt

pub ends_sorted : (cells : List Cell) (n : ℕ) (ends sorted : List RowEnd) → length cells ≤ n → AreEndsTo cells n ends →
    IsPermutation ends sorted → IsNonDecreasingBy (λ e. e.bottom) sorted → AreEnds cells sorted
ends_sorted cells n ends sorted all h moved rising = record {
  rising = rising;
  each = All-permutation (IsEnd cells) ends sorted moved h.each;
  all = λ k d lt. Contains-permutation ends sorted (end_of k (get_or cells k d)) moved (h.all k d (omega arith));
}

-- those that were passed so far, in the order of ends
pub record AreEndedTo (ends : List RowEnd) (over at : ℕ) (placed : List PlacedCell) (row : ℕ)
    (ended : List Cover) : Type 0 where
  pub farther : over ≤ at
  pub within : at ≤ length ends
  pub above : (k : ℕ) → over ≤ k → k < at → (end_at ends k).bottom ≤ row
  pub each : All (HasEnded ends over at placed) ended
  pub all : (k : ℕ) → over ≤ k → k < at → Contains ended (cover_of (placed_at placed (end_at ends k).place))

pub ended_first : (ends : List RowEnd) (over : ℕ) (placed : List PlacedCell) (row : ℕ) → over ≤ length ends →
    AreEndedTo ends over over placed row []
ended_first ends over placed row within = record {
  farther = omega arith;
  within = within;
  above = λ k le lt. absurd (omega arith);
  each = λ k d lt. absurd (omega arith);
  all = λ k le lt. absurd (omega arith);
}

pub ended_more : (ends : List RowEnd) (over at : ℕ) (placed : List PlacedCell) (row : ℕ) (ended : List Cover)
    (cover : Cover) → at < length ends →
    (end_at ends at).bottom ≤ row → cover ≡ cover_of (placed_at placed (end_at ends at).place) →
    AreEndedTo ends over at placed row ended →
    AreEndedTo ends over (at + 1) placed row (ended ++ cover ∷ [])
ended_more ends over at placed row ended cover lt le is h = record {
  farther = let f = h.farther in omega arith;
  within = omega arith;
  above = λ k from to. below_more (λ (k : ℕ). over ≤ k → (end_at ends k).bottom ≤ row) at
      (λ j j_lt j_le. h.above j j_le j_lt) (λ _. le) k to from;
  each = All-push (HasEnded ends over (at + 1) placed) ended cover
      (λ k d k_lt. let e = h.each k d k_lt in
      record { place = e.place; from = e.from; to = let t = e.to in omega arith; is = e.is })
      (record { place = at; from = h.farther; to = omega arith; is = is });
  all =
      λ k from to. below_more (λ (k : ℕ). over ≤ k →
      Contains (ended ++ cover ∷ []) (cover_of (placed_at placed (end_at ends k).place))) at
      (λ j j_lt j_le. Contains-append_left ended (cover ∷ []) (cover_of (placed_at placed (end_at ends j).place))
      (h.all j j_le j_lt))
      (λ _. subst (Contains (ended ++ cover ∷ [])) is (itself ended cover)) k to from;
}

pub ended_sorted : (ends : List RowEnd) (over at : ℕ) (placed : List PlacedCell) (row : ℕ) (ended sorted : List Cover) →
    AreEndedTo ends over at placed row ended →
    (at < length ends → row < (end_at ends at).bottom) → IsPermutation ended sorted →
    IsNonDecreasingBy (λ c. c.left) sorted →
    AreEnded ends over at placed row sorted
ended_sorted ends over at placed row ended sorted h below moved rising = record {
  farther = h.farther;
  within = h.within;
  above = h.above;
  below = below;
  rising = rising;
  each = All-permutation (HasEnded ends over at placed) ended sorted moved h.each;
  all = λ k from to. Contains-permutation ended sorted (cover_of (placed_at placed (end_at ends k).place)) moved
      (h.all k from to);
}
