-- Cells and hanging cells in one row.
use Rattle.std.proofs.Common.{◌≡◌, ◌+◌, ◌-◌, [], ◌∷◌, ◌++◌, if◌then◌else◌, ◌∙◌, Bool, List, ap, append_assoc, false}
use Rattle.std.proofs.Common.{refl, sym, true, ℕ}
use Rattle.std.specs.Prelude.{max, nat_lt}
use Rattle.text_borders.specs.Across.{Cell, Hanging, empty_cell, seated, seated_after}
use Rattle.text_cells.specs.OpenCells.{hangs_at, gap}

seated_alone : {S : Type 0} (at : ℕ) (cells : List (Cell S)) → seated at cells [] ≡ cells
seated_alone at [] = refl
seated_alone at (c ∷ cells) = refl

pub none_hangs : {S : Type 0} (at : ℕ) (cells : List (Cell S)) (hanging : List (Hanging S)) → hanging ≡ []
    → cells ≡ seated at cells hanging
none_hangs at cells hanging none = sym (ap (λ hs. seated at cells hs) none ∙ seated_alone at cells)

-- no hanging cell stands there
pub cell_first : {S : Type 0} (at : ℕ) (c : Cell S) (cells : List (Cell S)) (hanging : List (Hanging S))
    → hangs_at at hanging ≡ false
    → seated at (c ∷ cells) hanging ≡ c ∷ seated (at + c.width + 1) cells hanging
cell_first at c cells [] none = ap (λ l. c ∷ l) (sym (seated_alone (at + c.width + 1) cells))
cell_first at c cells (h ∷ hanging) none =
    ap (λ here. if here then h.cell ∷ seated (at + c.width + 1) cells hanging
    else c ∷ seated (at + c.width + 1) cells (h ∷ hanging)) none

-- one cell first, then the others
pub more_seated : {S : Type 0} (at next : ℕ) (c x : Cell S) (cells : List (Cell S)) (old new : List (Cell S))
    (hanging left : List (Hanging S)) → next ≡ at + c.width + 1
    → seated at (c ∷ cells) hanging ≡ x ∷ seated (at + c.width + 1) cells left → new ≡ old ++ x ∷ []
    → new ++ seated next cells left ≡ old ++ seated at (c ∷ cells) hanging
more_seated at next c x cells old new hanging left next_is first pushed =
    ap (λ l. l ++ seated next cells left) pushed ∙ append_assoc old (x ∷ []) (seated next cells left)
    ∙ ap (λ n. old ++ x ∷ seated n cells left) next_is ∙ ap (λ l. old ++ l) (sym first)

gap_before : {S : Type 0} (at place : ℕ) (c : Cell S) (more : List (Cell S)) (wide : Bool)
    → (if wide then empty_cell (place - at - 1) ∷ [] else []) ++ c ∷ more
    ≡ (if wide then empty_cell (place - at - 1) ∷ c ∷ [] else c ∷ []) ++ more
gap_before at place c more true = refl
gap_before at place c more false = refl

-- a hanging cell after the row
pub more_after : {S : Type 0} (at next : ℕ) (h : Hanging S) (hanging : List (Hanging S)) (old mid new : List (Cell S))
    → next ≡ max at h.place + h.cell.width + 1 → mid ≡ old ++ gap at h.place → new ≡ mid ++ h.cell ∷ []
    → new ++ seated_after next hanging ≡ old ++ seated_after at (h ∷ hanging)
more_after at next h hanging old mid new next_is filled pushed =
    let rest = seated_after next hanging in
    ap (λ l. l ++ rest) pushed ∙ append_assoc mid (h.cell ∷ []) rest
    ∙ ap (λ l. l ++ h.cell ∷ rest) filled ∙ append_assoc old (gap at h.place) (h.cell ∷ rest)
    ∙ ap (λ l. old ++ l) (gap_before at h.place h.cell rest (nat_lt at h.place))
    ∙ ap (λ n. old ++ ((if nat_lt at h.place then empty_cell (h.place - at - 1) ∷ h.cell ∷ [] else h.cell ∷ [])
    ++ seated_after n hanging)) next_is
