-- Cells have one way to be placed, and one list of gaps.
use Rattle.std.proofs.Common.{◌≡◌, ◌+◌, ◌<◌, ◌≤◌, ◌∙◌, List, ap, arith, get_or, inl, inr, length, refl, subst, suc, sym}
use Rattle.std.proofs.Common.{take, take_all, zero, ℕ}
use Rattle.std.specs.List.{AllPairs}
use Rattle.std.proofs.lemmas.List.{get_or-map, length-map, take_more_same}
use Rattle.std.proofs.lemmas.List.Elements.{All-contains}
use Rattle.table_grid.specs.declared.cell.Cell.{Cell}
use Rattle.table_grid.specs.declared.cell.PlacedCell.{PlacedCell}
use Rattle.table_grid.specs.declared.gaps.Gap.{Gap}
use Rattle.table_grid.specs.Places.{cell_of, IsPlace, ArePlaced}
use Rattle.table_grid.specs.Gaps.{IsGap, BeginsIn, IsBefore, AreGaps}
use Rattle.table_grid.proofs.OrderedLemmas.{same_ordered}

one_place : (before : List PlacedCell) (cell : Cell) (a b : ℕ) → IsPlace before cell a → IsPlace before cell b → a ≡ b
one_place before cell a b h k = let x = h.first b k.fits in let y = k.first a h.fits in omega arith

same_length : (cells : List Cell) (placed other : List PlacedCell) → ArePlaced cells placed → ArePlaced cells other →
    length placed ≡ length other
same_length cells placed other h k = sym (length-map placed cell_of)
    ∙ ap (λ (xs : List Cell). length xs) (h.same ∙ sym k.same) ∙ length-map other cell_of

same_front : (cells : List Cell) (placed other : List PlacedCell) (n : ℕ) → ArePlaced cells placed →
    ArePlaced cells other → n ≤ length placed → take n placed ≡ take n other
same_front cells placed other zero h k le = refl
same_front cells placed other (suc n) h k le = step (same_front cells placed other n h k (omega arith))
  where
    len : length placed ≡ length other
    len = same_length cells placed other h k

    step : take n placed ≡ take n other → take (suc n) placed ≡ take (suc n) other
    step before =
        let d : PlacedCell =
        record { cell = record { row = 0; colspan = 0; rowspan = 0; size = 0; least = 0 }; left = 0 } in
        let both : length placed ≡ length other = len in
        let cells_same : (get_or placed n d).cell ≡ (get_or other n d).cell =
        sym (get_or-map cell_of placed n d d.cell (omega arith))
        ∙ ap (λ (xs : List Cell). get_or xs n d.cell) (h.same ∙ sym k.same)
        ∙ get_or-map cell_of other n d d.cell (omega arith) in
        let there : IsPlace (take n placed) (get_or placed n d).cell (get_or other n d).left =
        subst (λ (c : Cell). IsPlace (take n placed) c (get_or other n d).left) (sym cells_same)
        (subst (λ (xs : List PlacedCell). IsPlace xs (get_or other n d).cell (get_or other n d).left) (sym before)
        (k.each n d (omega arith))) in
        let lefts_same : (get_or placed n d).left ≡ (get_or other n d).left =
        one_place (take n placed) (get_or placed n d).cell (get_or placed n d).left (get_or other n d).left
        (h.each n d (omega arith)) there in
        let same : get_or placed n d ≡ get_or other n d =
        ap (λ (c : Cell). make c (get_or placed n d).left) cells_same
        ∙ ap (λ (l : ℕ). make (get_or other n d).cell l) lefts_same in
        subst (λ (m : ℕ). take m placed ≡ take m other) (let e : n + 1 ≡ suc n = omega arith in e)
        (take_more_same placed other n d (omega arith) (omega arith) before same)
      where
        make : Cell → ℕ → PlacedCell
        make c l = record { cell = c; left = l }

-- cells have one way to be placed
pub one_placing : (cells : List Cell) (placed other : List PlacedCell) → ArePlaced cells placed →
    ArePlaced cells other → placed ≡ other
one_placing cells placed other h k =
    sym (take_all (length placed) placed (omega arith))
    ∙ same_front cells placed other (length placed) h k (omega arith) ∙
    take_all (length placed) other (let e = same_length cells placed other h k in omega arith)

-- gaps in order, of a column or more
abbrev IsApart : Gap → Gap → Type 0
IsApart g h = IsBefore g h × (g.left < g.right) × (h.left < h.right)

apart_one_way : (g h : Gap) → IsApart g h → IsApart h g → ⊥
apart_one_way g h a b = by a.0 b.0
  where
    by : IsBefore g h → IsBefore h g → ⊥
    by (inl x) (inl y) = omega arith
    by (inl x) (inr y) = let e = y.0 in omega arith
    by (inr x) (inl y) = let e = x.0 in omega arith
    by (inr x) (inr y) = let e = x.1 in let f = y.1 in let s = a.1 in let t = a.2 in omega arith

gaps_apart : (placed : List PlacedCell) (gaps : List Gap) → AreGaps placed gaps → AllPairs IsApart gaps
gaps_apart placed gaps h i j d lt j_lt =
    (h.order i j d lt j_lt, (h.each i d (omega arith)).some, (h.each j d j_lt).some)

pub one_list_of_gaps : (placed : List PlacedCell) (gaps other : List Gap) → AreGaps placed gaps → AreGaps placed other →
    gaps ≡ other
one_list_of_gaps placed gaps other h k =
    same_ordered IsApart apart_one_way gaps other (gaps_apart placed gaps h) (gaps_apart placed other k)
    (λ z c. k.all z.row z.left z.right (All-contains (λ g. BeginsIn placed g.row) gaps z h.begin c)
    (All-contains (λ g. IsGap placed g.row g.left g.right) gaps z h.each c))
    (λ z c. h.all z.row z.left z.right (All-contains (λ g. BeginsIn placed g.row) other z k.begin c)
    (All-contains (λ g. IsGap placed g.row g.left g.right) other z k.each c))
