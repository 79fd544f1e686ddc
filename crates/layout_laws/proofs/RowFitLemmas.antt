-- A row of cells that fills its slots fits its renderer, and what goes on from it is awaited in the rows below it.
use Rattle.std.proofs.Common.{◌≡◌, ◌+◌, ◌-◌, ◌≤◌, [], ◌∷◌, ◌∙◌, Bool, IfSome, List, None, Option, Some, ap, arith}
use Rattle.std.proofs.Common.{length, map, refl, subst, sum, sym, true, ℕ}
use Rattle.std.specs.Option.{option_and_then, option_map}
use Rattle.block_layout_laws.proofs.OptionLemmas.{chained, mapped}
use Rattle.block_layout.specs.Laid.{Laid, add_horizontal_border, add_text, flush, mark, start_awaited, start_table}
use Rattle.block_layout.specs.LaidRows.{add_row, last_border, row_laid}
use Rattle.block_layout.specs.declared.measure.Measure.{Measure}
use Rattle.block_trait.specs.Calls.{step}
use Rattle.block_trait.specs.Calls as calls
use Rattle.block_trait.specs.Renderers.{Marking, Sub, before_cells, cells_of_subs, measure_of, with_cells, with_laid}
use Rattle.block_laws.specs.RendererLaws.{RowFits}
use Rattle.text_borders.specs.Across.{Cell, Hanging, across, seated, width_across}
use Rattle.text_borders.specs.AcrossLaws.{AreSeatedIn, Seat, cells_width, seat_of, seats_after}
use Rattle.text_borders.specs.Borders.{Border}
use Rattle.text_pieces.specs.declared.white_space.WhiteSpace.{WhiteSpace}
use Rattle.table_widths.specs.Slots.{covered_after}
use Rattle.table_widths.specs.declared.slot.Slot.{Slot}
use Rattle.layout_laws.proofs.SeatLemmas.{AreFilled, IsRowFrom, cell_size, cells_seated, cells_within, seats_due}
use Rattle.layout_laws.proofs.SlotLemmas.{AreDue}

-- what the crates below say of cells that go on
pub record SeatLaws (S : Type 0) : Type 0 where
  pub flush_hangs : (m : Measure) (tag : S) (b : Laid S) → IfSome (flush m tag b) (λ new. new.hanging ≡ b.hanging)
  pub table_hangs : (m : Measure) (tag : S) (b : Laid S) → IfSome (start_table m tag b) (λ new. new.hanging ≡ [])
  pub awaited_hangs : (m : Measure) (tag : S) (b : Laid S)
      → IfSome (start_awaited m tag b) (λ new. new.hanging ≡ b.hanging)
  pub text_hangs : (m : Measure) (tag : S) (mode : WhiteSpace) (cs : List ℕ) (main further : S) (b : Laid S)
      → IfSome (add_text m tag mode cs main further b) (λ new. new.hanging ≡ b.hanging)
  pub border_hangs : (m : Measure) (tag : S) (width : ℕ) (b : Laid S)
      → IfSome (add_horizontal_border m tag width b) (λ new. new.hanging ≡ b.hanging)
  pub mark_hangs : (m : Measure) (tag : S) (name : List ℕ) (b : Laid S) → (mark m tag name b).hanging ≡ b.hanging
  pub row_hangs : (m : Measure) (tag : S) (draws collapse : Bool) (cells : List (Cell S)) (b flushed new : Laid S)
      → flush m tag b ≡ Some flushed → add_row m tag draws collapse cells b ≡ Some new
      → new.hanging ≡ (across draws collapse tag (last_border flushed.lines) cells flushed.hanging).hanging
  pub width : (collapse : Bool) (tag : S) (above : Option (Border S)) (cells : List (Cell S))
      (hanging : List (Hanging S)) → AreSeatedIn 0 cells hanging
      → width_across collapse tag above cells hanging ≡ cells_width cells
  pub seats : (draws collapse : Bool) (tag : S) (above : Option (Border S)) (cells : List (Cell S))
      (hanging : List (Hanging S)) → map (seat_of {S = S}) (across draws collapse tag above cells hanging).hanging
      ≡ seats_after 0 (seated 0 cells hanging)

-- what goes on in a renderer
abbrev pub seats_of : {H A : Type 0} → Sub H A → List Seat
seats_of s = map seat_of s.laid.hanging

abbrev pub sub_size : {H A : Type 0} → Sub H A × ℕ → ℕ × ℕ
sub_size c = (c.0.width, c.1)

-- Cells have the columns and the rows of their renderers.
pub cells_filled : {H A : Type 0} (widths : List ℕ) (slots : List Slot) (made : List (Sub H A × ℕ))
    → AreFilled sub_size widths slots made → IfSome (cells_of_subs made) (AreFilled cell_size widths slots)
cells_filled widths [] [] filled = tt
cells_filled widths [] (c ∷ made) filled = absurd filled
cells_filled widths (s ∷ slots) [] filled = absurd filled
cells_filled {H} {A} widths (s ∷ slots) (c ∷ made) filled =
    by (flush (measure_of c.0) c.0.annotations c.0.laid) (cells_of_subs made)
    (cells_filled widths slots made filled.1)
  where
    by : (o : Option (Laid (List A))) (rest : Option (List (Cell (List A))))
        → IfSome rest (AreFilled cell_size widths slots)
        → IfSome (option_and_then (before_cells c.1 rest) (option_map (with_laid c.0) o))
        (AreFilled cell_size widths (s ∷ slots))
    by None rest h = tt
    by (Some b) None h = tt
    by (Some b) (Some cells) h = (filled.0, h)

-- ---- the row

pub some_known : {X : Type 0} (P : X → Type 0) (o : Option X) (x : X) → o ≡ Some x → IfSome o P → P x
some_known {X = X} P o x is given = subst (λ (o : Option X). IfSome o P) is given

pub row_fits : {H A : Type 0} (laws : SeatLaws (List A)) (widths : List ℕ) (slots : List Slot)
    (made : List (Sub H A × ℕ)) (s : Sub H A) → IsRowFrom widths 0 0 slots → AreFilled sub_size widths slots made
    → AreDue widths slots (seats_of s) → sum widths + (length widths - 1) ≤ s.width → RowFits made true s
row_fits {H} {A} laws widths slots made s row filled due fits = λ flushed cells is are.
    let hangs : flushed.hanging ≡ s.laid.hanging =
    some_known (λ (b : Laid (List A)). b.hanging ≡ s.laid.hanging) (flush (measure_of s) s.annotations s.laid) flushed
    is (laws.flush_hangs (measure_of s) s.annotations s.laid) in
    let full : AreFilled cell_size widths slots cells =
    some_known (AreFilled cell_size widths slots) (cells_of_subs made) cells are
    (cells_filled widths slots made filled) in
    let awaited : AreDue widths slots (map seat_of flushed.hanging) =
    subst (λ (hs : List (Hanging (List A))). AreDue widths slots (map seat_of hs)) (sym hangs) due in
    omega (
      arith,
      fits,
      cells_within widths slots cells row full,
      laws.width true s.annotations (last_border flushed.lines) cells flushed.hanging
          (cells_seated widths 0 0 slots cells flushed.hanging row full awaited),
    )

-- ---- after the row

row_due : {S : Type 0} (laws : SeatLaws S) (widths : List ℕ) (slots : List Slot) (m : Measure) (tag : S) (draws : Bool)
    (cells : List (Cell S)) (b : Laid S) → IsRowFrom widths 0 0 slots → AreFilled cell_size widths slots cells
    → AreDue widths slots (map seat_of b.hanging)
    → IfSome (add_row m tag draws true cells b) (λ new. AreDue widths (covered_after slots) (map seat_of new.hanging))
row_due {S = S} laws widths slots m tag draws cells b row filled due =
    by (flush m tag b) refl (laws.flush_hangs m tag b)
  where
    by : (o : Option (Laid S)) → flush m tag b ≡ o → IfSome o (λ new. new.hanging ≡ b.hanging)
        → IfSome (option_map (row_laid m tag draws true cells) o)
        (λ new. AreDue widths (covered_after slots) (map seat_of new.hanging))
    by None e hangs = tt
    by (Some flushed) e hangs =
        let new : Laid S = row_laid m tag draws true cells flushed in
        let same : new.hanging ≡ (across draws true tag (last_border flushed.lines) cells flushed.hanging).hanging =
        laws.row_hangs m tag draws true cells b flushed new e
        (ap (λ (o : Option (Laid S)). option_map (row_laid m tag draws true cells) o) e) in
        subst (λ (seats : List Seat). AreDue widths (covered_after slots) seats)
        (sym (ap (λ (hs : List (Hanging S)). map seat_of hs) same
        ∙ laws.seats draws true tag (last_border flushed.lines) cells flushed.hanging))
        (seats_due widths 0 0 slots cells flushed.hanging row filled
        (subst (λ (hs : List (Hanging S)). AreDue widths slots (map seat_of hs)) (sym hangs) due))

pub after_row : {H A : Type 0} (m : Marking H A) (laws : SeatLaws (List A)) (widths : List ℕ) (slots : List Slot)
    (made : List (Sub H A × ℕ)) (s : Sub H A) → IsRowFrom widths 0 0 slots → AreFilled sub_size widths slots made
    → AreDue widths slots (seats_of s)
    → IfSome (step m (calls.adds_cells made true) s) (λ new. AreDue widths (covered_after slots) (seats_of new))
after_row {H} {A} m laws widths slots made s row filled due =
    chained (AreFilled cell_size widths slots) (λ (new : Sub H A). AreDue widths (covered_after slots) (seats_of new))
    (with_cells true s) (cells_of_subs made)
    (λ cells full. mapped (λ (b : Laid (List A)). AreDue widths (covered_after slots) (map seat_of b.hanging))
    (λ (new : Sub H A). AreDue widths (covered_after slots) (seats_of new)) (with_laid s)
    (add_row (measure_of s) s.annotations s.options.draw_borders true cells s.laid) (λ b d. d)
    (row_due laws widths slots (measure_of s) s.annotations s.options.draw_borders cells s.laid row full due))
    (cells_filled widths slots made filled)
