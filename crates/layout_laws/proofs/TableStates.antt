-- What holds between the values of a table: of the rows that are to come, and of the cells that stand in a row.
--
-- Across, the rows to come keep the columns' widths with what hangs in the renderer (`RowsFit`). In a row that is
-- shown, of all its slots with columns the first ones are filled by what stands in it, each as wide as its slot and for
-- no more rows; the others are those that are left. Below one another, each that stands in a row is as wide as the
-- renderer.
use Rattle.std.proofs.Common.{◌≡◌, ◌+◌, ◌-◌, ◌<◌, ◌≤◌, [], ◌∷◌, ◌++◌, ◌∙◌, All, Bool, IfSome, List, None, Option, Some}
use Rattle.std.proofs.Common.{ap, append_assoc, arith, cond, drop, false, inl, inr, length, refl, subst, suc, sum, sym}
use Rattle.std.proofs.Common.{take, true, zero, ℕ}
use Rattle.std.specs.List.{AllByRecursion, prefix_len}
use Rattle.std.proofs.lemmas.Bool.Decides.{nat_tests}
use Rattle.std.proofs.lemmas.List.{take-append-drop}
use Rattle.std.proofs.lemmas.List.Elements.{All-append, All-cons, All-map, All-nil, filter-append}
use Rattle.block_renderer.specs.NewParts.{part_of}
use Rattle.table_widths.specs.Across.{FitAcross}
use Rattle.block_trait.specs.Calls.{step}
use Rattle.block_trait.specs.Renderers.{Marking, Sub}
use Rattle.block_laws.specs.RendererLaws.{CallFits, IsKeptWithin}
use Rattle.text_borders.specs.AcrossLaws.{Seat}
use Rattle.table_widths.specs.RowLaws.{AreWholeRows, IsWhole}
use Rattle.table_widths.specs.Slots.{Table, across, covered_after, has_columns, is_shown}
use Rattle.table_widths.specs.declared.slot.Slot.{Slot}
use Rattle.layout_tables.specs.Tables.{empties_before, empty_slot, empty_slots, from_cell, is_empty_slot, renderer_of}
use Rattle.layout_tables.specs.Tables.{row_call, rows_of, slot_width}
use Rattle.render_sizes.specs.Extents.{capped}
use Rattle.layout_laws.proofs.MergedLemmas.{each_at}
use Rattle.layout_laws.proofs.RowFitLemmas.{SeatLaws, after_row, row_fits, seats_of, some_known, sub_size}
use Rattle.layout_laws.proofs.SeatLemmas.{AreFilled, IsRowFrom, filled_after}
use Rattle.layout_laws.proofs.SlotLemmas.{AreDue, IsFull, IsSoundRow, RowsFit, live, live_covered, live_each}
use Rattle.layout_laws.proofs.SlotLemmas.{live_stand, rows_fit}

-- ---- tables

-- The slots of each row take columns side by side, across, and those that are no cells take some.
pub record IsSoundTable (t : Table) : Type 0 where
  pub whole : AreWholeRows t
  pub full : AllByRecursion (λ row. AllByRecursion IsFull row) t.rows

-- ---- rows that are to come

abbrev pub FitsRows : Option (List ℕ) → List (List Slot) → (width : ℕ) → List Seat → Type 0
FitsRows None slots width seats = Unit {0}
FitsRows (Some widths) slots width seats =
    (sum widths + (length widths - 1) ≤ capped width) × RowsFit widths slots seats

pub table_fits : (t : Table) (widths : Option (List ℕ)) (width : ℕ) → IsSoundTable t
    → IfSome widths (FitAcross t.columns (capped width)) → FitsRows widths (rows_of widths t) width []
table_fits t None width sound across_fits = tt
table_fits t (Some widths) width sound across_fits = (
  across_fits.fit,
  rows_fit widths t.rows [] [] sound.full tt
      (subst (λ (n : ℕ). AllByRecursion (λ row. is_shown row ≡ true → IsWhole n row) (across [] t.rows))
      (sym across_fits.same)
      (each_at (λ row. is_shown row ≡ true → IsWhole (length t.columns) row) (across [] t.rows) []
      (λ k lt. sound.whole k [] lt))) tt,
)

-- a row that is not shown
pub hidden_fits : (widths : Option (List ℕ)) (row : List Slot) (more : List (List Slot)) (width : ℕ)
    (seats : List Seat) → FitsRows widths (row ∷ more) width seats → is_shown row ≡ false
    → FitsRows widths more width seats
hidden_fits None row more width seats fits hidden = tt
hidden_fits (Some widths) row more width seats fits hidden = (fits.0, fits.1.1 hidden)

-- ---- cells of a row

-- Of the slots with columns of a row, the first ones are filled.
pub record CellsFit {H A : Type 0} (widths : List ℕ) (more : List (List Slot)) (slots : List Slot)
    (made : List (Sub H A × ℕ)) (width : ℕ) (seats : List Seat) : Type 0 where
  pub fits : sum widths + (length widths - 1) ≤ capped width
  pub row : List Slot
  pub sound : IsSoundRow (length widths) row
  pub due : AreDue widths (live row) seats
  pub next : (further : List Seat) → AreDue widths (covered_after row) further → RowsFit widths more further
  pub kept : All (λ c. IsKeptWithin c.0) made
  pub front : List Slot
  pub split : live row ≡ front ++ live slots
  pub filled : AreFilled sub_size widths front made
  pub full : AllByRecursion IsFull slots

abbrev pub FitsCells : {H A : Type 0} → Option (List ℕ) → List (List Slot) → List Slot → List (Sub H A × ℕ)
    → (width : ℕ) → List Seat → Type 0
FitsCells None more slots made width seats = All (λ c. IsKeptWithin c.0 × (c.0.width ≤ width)) made
FitsCells (Some widths) more slots made width seats = CellsFit widths more slots made width seats

-- in a row that is shown nothing stands yet
pub row_begins : (H A : Type 0) (widths : Option (List ℕ)) (row : List Slot) (more : List (List Slot)) (width : ℕ)
    (seats : List Seat) → FitsRows widths (row ∷ more) width seats → is_shown row ≡ true
    → FitsCells {H = H} {A = A} widths more row [] width seats
row_begins H A None row more width seats fits shown =
    All-nil (λ (c : Sub H A × ℕ). IsKeptWithin c.0 × (c.0.width ≤ width))
row_begins H A (Some widths) row more width seats fits shown = record {
  fits = fits.0;
  row = row;
  sound = (fits.1.0 shown).0;
  due = (fits.1.0 shown).1.0;
  next = (fits.1.0 shown).1.1;
  kept = All-nil (λ (c : Sub H A × ℕ). IsKeptWithin c.0);
  front = [];
  split = refl;
  filled = tt;
  full = (fits.1.0 shown).0.full;
}

-- a slot without columns
pub skip_fits : {H A : Type 0} (widths : Option (List ℕ)) (more : List (List Slot)) (s : Slot) (slots : List Slot)
    (made : List (Sub H A × ℕ)) (width : ℕ) (seats : List Seat) → FitsCells widths more (s ∷ slots) made width seats
    → has_columns s ≡ false → FitsCells widths more slots made width seats
skip_fits None more s slots made width seats fits none = fits
skip_fits (Some widths) more s slots made width seats fits none = record {
  fits = fits.fits;
  row = fits.row;
  sound = fits.sound;
  due = fits.due;
  next = fits.next;
  kept = fits.kept;
  front = fits.front;
  split = fits.split ∙ ap (λ (b : Bool). fits.front ++ cond b (s ∷ live slots) (live slots)) none;
  filled = fits.filled;
  full = fits.full.1;
}

-- a cell in its slot
pub made_fits : {H A : Type 0} (widths : Option (List ℕ)) (more : List (List Slot)) (s : Slot) (slots : List Slot)
    (made : List (Sub H A × ℕ)) (width : ℕ) (seats : List Seat) (t : Sub H A)
    → FitsCells widths more (s ∷ slots) made width seats → has_columns s ≡ true → IsKeptWithin t
    → t.width ≡ slot_width widths width s → FitsCells widths more slots (made ++ (t, s.rows) ∷ []) width seats
made_fits {H} {A} None more s slots made width seats t fits some kept is =
    All-append (λ (c : Sub H A × ℕ). IsKeptWithin c.0 × (c.0.width ≤ width)) made ((t, s.rows) ∷ []) fits
    (All-cons (λ (c : Sub H A × ℕ). IsKeptWithin c.0 × (c.0.width ≤ width)) (t, s.rows) [] (kept, omega (arith, is))
    (All-nil (λ (c : Sub H A × ℕ). IsKeptWithin c.0 × (c.0.width ≤ width))))
made_fits {H} {A} (Some widths) more s slots made width seats t fits some kept is = record {
  fits = fits.fits;
  row = fits.row;
  sound = fits.sound;
  due = fits.due;
  next = fits.next;
  kept = All-append (λ (c : Sub H A × ℕ). IsKeptWithin c.0) made ((t, s.rows) ∷ []) fits.kept
      (All-cons (λ (c : Sub H A × ℕ). IsKeptWithin c.0) (t, s.rows) [] kept
      (All-nil (λ (c : Sub H A × ℕ). IsKeptWithin c.0)));
  front = fits.front ++ s ∷ [];
  split = fits.split ∙ ap (λ (b : Bool). fits.front ++ cond b (s ∷ live slots) (live slots)) some
      ∙ sym (append_assoc fits.front (s ∷ []) (live slots));
  filled = filled_after sub_size widths fits.front (s ∷ []) made ((t, s.rows) ∷ []) fits.filled
      ((is, omega arith), tt);
  full = fits.full.1;
}

-- ---- empty slots

-- Whatever slots are left empty, renderers of their columns fill them.
fill_empties : {H A : Type 0} (m : Marking H A) (widths : List ℕ) (s : Sub H A) (slots : List Slot)
    → AreFilled sub_size widths slots (empty_slots m (Some widths) s slots)
fill_empties m widths s [] = tt
fill_empties m widths s (t ∷ slots) = ((refl, omega arith), fill_empties m widths s slots)

live_full : (slots : List Slot) → AllByRecursion (λ s. s.first < s.last) slots → live slots ≡ slots
live_full [] h = refl
live_full (s ∷ slots) h = by (has_columns s) refl (live_full slots h.1)
  where
    some : s.first < s.last
    some = h.0

    by : (b : Bool) → has_columns s ≡ b → live slots ≡ slots → cond b (s ∷ live slots) (live slots) ≡ s ∷ slots
    by true e rest = ap (λ (ss : List Slot). s ∷ ss) rest
    by false e rest = absurd (grind (arith, nat_tests, some))

prefix_yes : (s : Slot) (slots : List Slot) → is_empty_slot s ≡ true
    → suc (prefix_len is_empty_slot slots) ≡ prefix_len is_empty_slot (s ∷ slots)
prefix_yes s slots e = subst (λ (b : Bool). suc (prefix_len is_empty_slot slots)
    ≡ cond b (1 + prefix_len is_empty_slot slots) 0) (sym e) (omega arith)

prefix_no : (s : Slot) (slots : List Slot) → is_empty_slot s ≡ false → 0 ≡ prefix_len is_empty_slot (s ∷ slots)
prefix_no s slots e =
    subst (λ (b : Bool). 0 ≡ cond b (1 + prefix_len is_empty_slot slots) 0) (sym e) refl

no_cell : (s : Slot) → IsFull s → is_empty_slot s ≡ true → s.first < s.last
no_cell s (inl cell) e = absurd (grind (arith, nat_tests, cell, e))
no_cell s (inr some) e = some

empties_some : (slots : List Slot) → AllByRecursion IsFull slots
    → AllByRecursion (λ s. s.first < s.last) (empties_before slots)
empties_some [] full = tt
empties_some (s ∷ slots) full = by (is_empty_slot s) refl (empties_some slots full.1)
  where
    by : (b : Bool) → is_empty_slot s ≡ b → AllByRecursion (λ s. s.first < s.last) (empties_before slots)
        → AllByRecursion (λ s. s.first < s.last) (empties_before (s ∷ slots))
    by true e rest = subst (λ (n : ℕ). AllByRecursion (λ s. s.first < s.last) (take n (s ∷ slots)))
        (prefix_yes s slots e) (no_cell s full.0 e, rest)
    by false e rest = subst (λ (n : ℕ). AllByRecursion (λ s. s.first < s.last) (take n (s ∷ slots)))
        (prefix_no s slots e) tt

each_after : (P : Slot → Type 0) (n : ℕ) (slots : List Slot) → AllByRecursion P slots → AllByRecursion P (drop n slots)
each_after P zero slots h = h
each_after P (suc n) [] h = tt
each_after P (suc n) (s ∷ slots) h = each_after P n slots h.1

live_parts : (slots : List Slot) → AllByRecursion IsFull slots
    → live slots ≡ empties_before slots ++ live (from_cell slots)
live_parts slots full =
    ap live (sym (take-append-drop (prefix_len is_empty_slot slots) slots))
    ∙ filter-append has_columns (empties_before slots) (from_cell slots)
    ∙ ap (λ (ss : List Slot). ss ++ live (from_cell slots)) (live_full (empties_before slots) (empties_some slots full))

-- the renderers of empty slots are kept within their columns
empties_kept : {H A : Type 0} (m : Marking H A) (widths : Option (List ℕ)) (s : Sub H A) (slots : List Slot)
    → ((width : ℕ) → IsKeptWithin (part_of m.sub width s)) → All (λ c. IsKeptWithin c.0) (empty_slots m widths s slots)
empties_kept {H} {A} m widths s slots part =
    All-map (λ (c : Sub H A × ℕ). IsKeptWithin c.0) (empty_slot m widths s) slots
    (λ k d lt. part (slot_width widths s.width _))

whole_empties : {H A : Type 0} (m : Marking H A) (s : Sub H A) (slots : List Slot)
    → ((width : ℕ) → IsKeptWithin (part_of m.sub width s))
    → All (λ c. IsKeptWithin c.0 × (c.0.width ≤ s.width)) (empty_slots m None s slots)
whole_empties {H} {A} m s slots part =
    All-map (λ (c : Sub H A × ℕ). IsKeptWithin c.0 × (c.0.width ≤ s.width)) (empty_slot m None s) slots
    (λ k d lt. (part s.width, omega arith))

-- the empty slots before the next cell
pub empties_fit : {H A : Type 0} (m : Marking H A) (widths : Option (List ℕ)) (more : List (List Slot))
    (slots : List Slot) (made : List (Sub H A × ℕ)) (s : Sub H A) (seats : List Seat)
    → ((width : ℕ) → IsKeptWithin (part_of m.sub width s)) → FitsCells widths more slots made s.width seats
    → FitsCells widths more (from_cell slots) (made ++ empty_slots m widths s (empties_before slots)) s.width seats
empties_fit {H} {A} m None more slots made s seats part fits =
    All-append (λ (c : Sub H A × ℕ). IsKeptWithin c.0 × (c.0.width ≤ s.width)) made
    (empty_slots m None s (empties_before slots)) fits (whole_empties m s (empties_before slots) part)
empties_fit {H} {A} m (Some widths) more slots made s seats part fits = record {
  fits = fits.fits;
  row = fits.row;
  sound = fits.sound;
  due = fits.due;
  next = fits.next;
  kept = All-append (λ (c : Sub H A × ℕ). IsKeptWithin c.0) made
      (empty_slots m (Some widths) s (empties_before slots)) fits.kept
      (empties_kept m (Some widths) s (empties_before slots) part);
  front = fits.front ++ empties_before slots;
  split = fits.split ∙ ap (λ (ss : List Slot). fits.front ++ ss) (live_parts slots fits.full)
      ∙ sym (append_assoc fits.front (empties_before slots) (live (from_cell slots)));
  filled = filled_after sub_size widths fits.front (empties_before slots) made
      (empty_slots m (Some widths) s (empties_before slots)) fits.filled
      (fill_empties m widths s (empties_before slots));
  full = each_after IsFull (prefix_len is_empty_slot slots) slots fits.full;
}

-- ---- the row's end

-- with what is left of its slots
abbrev pub row_made : {H A : Type 0} → Marking H A → Option (List ℕ) → Sub H A → List Slot → List (Sub H A × ℕ)
    → List (Sub H A × ℕ)
row_made m widths s slots made = made ++ empty_slots m widths s (live slots)

row_from : {H A : Type 0} (widths : List ℕ) (more : List (List Slot)) (slots : List Slot) (made : List (Sub H A × ℕ))
    (width : ℕ) (seats : List Seat) (fits : CellsFit widths more slots made width seats)
    → IsRowFrom widths 0 0 (live fits.row)
row_from widths more slots made width seats fits = record {
  short = omega (arith, fits.fits);
  stand = live_stand 0 fits.row fits.sound.whole.stands;
  within = live_each (λ s. s.last ≤ length widths) fits.row
      (each_at (λ s. s.last ≤ length widths) fits.row (record { first = 0; last = 0; rows = 0; is_cell = false })
      (λ k lt. fits.sound.whole.within k (record { first = 0; last = 0; rows = 0; is_cell = false }) lt));
  starts = refl;
}

row_filled : {H A : Type 0} (m : Marking H A) (widths : List ℕ) (more : List (List Slot)) (slots : List Slot)
    (made : List (Sub H A × ℕ)) (s : Sub H A) (seats : List Seat)
    (fits : CellsFit widths more slots made s.width seats)
    → AreFilled sub_size widths (live fits.row) (row_made m (Some widths) s slots made)
row_filled m widths more slots made s seats fits =
    subst (λ (ss : List Slot). AreFilled sub_size widths ss (row_made m (Some widths) s slots made)) (sym fits.split)
    (filled_after sub_size widths fits.front (live slots) made (empty_slots m (Some widths) s (live slots)) fits.filled
    (fill_empties m widths s (live slots)))

pub row_call_fits : {H A : Type 0} (laws : SeatLaws (List A)) (m : Marking H A) (widths : Option (List ℕ))
    (more : List (List Slot)) (slots : List Slot) (made : List (Sub H A × ℕ)) (s : Sub H A)
    → ((width : ℕ) → IsKeptWithin (part_of m.sub width s))
    → FitsCells widths more slots made s.width (seats_of s)
    → CallFits (row_call widths (row_made m widths s slots made)) s
row_call_fits {H} {A} laws m None more slots made s part fits =
    All-map (λ (c : Sub H A). IsKeptWithin c × (c.width ≤ s.width)) renderer_of (row_made m None s slots made)
    (All-append (λ (c : Sub H A × ℕ). IsKeptWithin c.0 × (c.0.width ≤ s.width)) made
    (empty_slots m None s (live slots)) fits (whole_empties m s (live slots) part))
row_call_fits {H} {A} laws m (Some widths) more slots made s part fits = (
  All-append (λ (c : Sub H A × ℕ). IsKeptWithin c.0) made (empty_slots m (Some widths) s (live slots)) fits.kept
      (empties_kept m (Some widths) s (live slots) part),
  row_fits laws widths (live fits.row) (row_made m (Some widths) s slots made) s
      (row_from widths more slots made s.width (seats_of s) fits)
      (row_filled m widths more slots made s (seats_of s) fits) fits.due (omega (arith, fits.fits)),
)

pub row_leaves : {H A : Type 0} (laws : SeatLaws (List A)) (m : Marking H A) (widths : Option (List ℕ))
    (more : List (List Slot)) (slots : List Slot) (made : List (Sub H A × ℕ)) (s new : Sub H A)
    → FitsCells widths more slots made s.width (seats_of s)
    → step m (row_call widths (row_made m widths s slots made)) s ≡ Some new
    → FitsRows widths more s.width (seats_of new)
row_leaves laws m None more slots made s new fits does = tt
row_leaves {H} {A} laws m (Some widths) more slots made s new fits does = (
  fits.fits,
  fits.next (seats_of new)
      (subst (λ (ss : List Slot). AreDue widths ss (seats_of new)) (live_covered fits.row)
      (some_known (λ (new : Sub H A). AreDue widths (covered_after (live fits.row)) (seats_of new))
      (step m (row_call (Some widths) (row_made m (Some widths) s slots made)) s) new does
      (after_row m laws widths (live fits.row) (row_made m (Some widths) s slots made) s
      (row_from widths more slots made s.width (seats_of s) fits)
      (row_filled m widths more slots made s (seats_of s) fits) fits.due))),
)
