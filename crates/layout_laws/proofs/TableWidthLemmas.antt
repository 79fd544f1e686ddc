-- Tables keep the width: their rows, across and below one another, and the cells of these.
use Rattle.std.proofs.Common.{◌≡◌, [], ◌∷◌, ◌∙◌, Bool, IfSome, List, None, Option, Some, ap, arith, false, map, nat_lt}
use Rattle.std.proofs.Common.{refl, subst, sym, true, ℕ}
use Rattle.std.specs.Prelude.{codes, if◌then◌else◌}
use Rattle.std.specs.Option.{option_and_then}
use Rattle.block_layout_laws.proofs.OptionLemmas.{chained, mapped}
use Rattle.block_layout.specs.Laid.{Laid, add_horizontal_border, add_text, flush, is_ignored, start_awaited}
use Rattle.block_layout.specs.Laid.{start_table}
use Rattle.column_fits.specs.Across.{AreFits}
use Rattle.column_fits.specs.declared.fit.ColumnFit.{ColumnFit}
use Rattle.table_widths.specs.Across.{FitAcross}
use Rattle.render_sizes.specs.Extents.{capped}
use Rattle.block_trait.specs.Calls.{Call, step}
use Rattle.block_trait.specs.Calls as calls
use Rattle.block_trait.specs.Renderers.{Marking, Sub, begin_colour, finish_colour, measure_of, mode_of, on_laid}
use Rattle.block_trait.specs.Renderers.{one_under, popped, preformatted_added, pushed, struck_text, text_added}
use Rattle.block_trait.specs.Renderers.{with_held, with_laid}
use Rattle.block_trait.specs.declared.options.RenderOptions.{RenderOptions}
use Rattle.block_laws.specs.RendererLaws.{CallFits, StaysWithin}
use Rattle.text_borders.specs.AcrossLaws.{Seat, seat_of}
use Rattle.text_decorators.specs.Marks.{Mark, preformat_first, preformat_further}
use Rattle.table_grid.specs.declared.columns.Column.{Column}
use Rattle.table_widths.specs.Slots.{Table}
use Rattle.table_widths.specs.declared.slot.Slot.{Slot}
use Rattle.layout_state.specs.LayoutState.{LayoutState, Step, TablePlace, cells, goes_to, in_current, in_turn, outside}
use Rattle.layout_state.specs.LayoutState.{rows, says}
use Rattle.layout_state.specs.declared.around.Around.TheVariants.{Flow}
use Rattle.layout_tables.specs.Tables.{border_call, columns_laid, fence, is_fenced, rows_laid, rows_of, separated}
use Rattle.layout_tables.specs.Tables.{table_begun, table_ended, table_laid, table_widths, top_border, widths_by}
use Rattle.layout_laws.proofs.RowFitLemmas.{seats_of, some_known}
use Rattle.layout_laws.proofs.TableStates.{FitsCells, FitsRows, IsSoundTable, table_fits}
use Rattle.layout_laws.proofs.WidthLemmas.{AreCalm, AreSound, At, Keeps, Kept, Steps, WidthLaws, either_keeps, keeps_by}
use Rattle.layout_laws.proofs.WidthLemmas.{keeps_through, says_keeps, says_steps, stays, steps_by, steps_through}
use Rattle.layout_laws.proofs.WidthLemmas.{weaker}

-- ---- between values

-- The next value stands among rows, which fit.
pub record InRows {H A : Type 0} (widths : Option (List ℕ)) (x : LayoutState H A) : Type 0 where
  pub slots : List (List Slot)
  pub fragments : List (List ℕ)
  pub flows : x.around ≡ Flow
  pub is : x.table ≡ rows widths slots fragments
  pub fits : FitsRows widths slots x.parts.current.width (seats_of x.parts.current)

-- The next value stands among cells, which fit.
pub record InCells {H A : Type 0} (widths : Option (List ℕ)) (x : LayoutState H A) : Type 0 where
  pub more : List (List Slot)
  pub fragments : List (List ℕ)
  pub slots : List Slot
  pub made : List (Sub H A × ℕ)
  pub flows : x.around ≡ Flow
  pub is : x.table ≡ cells widths more fragments slots made
  pub fits : FitsCells widths more slots made x.parts.current.width (seats_of x.parts.current)

-- what hangs in a renderer stays as it was
abbrev Hangs : {H A : Type 0} → Sub H A → Sub H A → Type 0
Hangs s new = new.laid.hanging ≡ s.laid.hanging

pub rows_same : (widths : Option (List ℕ)) (slots : List (List Slot)) (width new : ℕ) (seats others : List Seat)
    → new ≡ width → others ≡ seats → FitsRows widths slots width seats → FitsRows widths slots new others
rows_same widths slots width new seats others e f fits =
    subst (λ (n : ℕ). FitsRows widths slots n others) (sym e)
    (subst (λ (ss : List Seat). FitsRows widths slots width ss) (sym f) fits)

cells_same : {H A : Type 0} (widths : Option (List ℕ)) (more : List (List Slot)) (slots : List Slot)
    (made : List (Sub H A × ℕ)) (width new : ℕ) (seats others : List Seat) → new ≡ width → others ≡ seats
    → FitsCells widths more slots made width seats → FitsCells widths more slots made new others
cells_same widths more slots made width new seats others e f fits =
    subst (λ (n : ℕ). FitsCells widths more slots made n others) (sym e)
    (subst (λ (ss : List Seat). FitsCells widths more slots made width ss) (sym f) fits)

rows_say : {H A : Type 0} {m : Marking H A} (laws : WidthLaws m) (widths : Option (List ℕ)) (c : Call (Sub H A))
    → ((s : Sub H A) → CallFits c s) → ((s : Sub H A) → IfSome (step m c s) (Hangs s))
    → Steps (InRows widths) (InRows widths) (says m c)
rows_say {H} {A} {m} laws widths c fits hangs = says_steps laws (InRows widths) (InRows widths) c
    (λ x at. fits x.parts.current) trailing
  where
    trailing : (x : LayoutState H A) (s : Sub H A) → InRows widths x → StaysWithin x.parts.current s
        → step m c x.parts.current ≡ Some s → InRows widths (in_current x s)
    trailing x s at inside does = record {
      slots = at.slots;
      fragments = at.fragments;
      flows = at.flows;
      is = at.is;
      fits = rows_same widths at.slots x.parts.current.width s.width (seats_of x.parts.current) (seats_of s)
          inside.1.0 (ap (map seat_of)
          (some_known (Hangs x.parts.current) (step m c x.parts.current) s does (hangs x.parts.current))) at.fits;
    }

cells_say : {H A : Type 0} {m : Marking H A} (laws : WidthLaws m) (widths : Option (List ℕ)) (c : Call (Sub H A))
    → ((s : Sub H A) → CallFits c s) → ((s : Sub H A) → IfSome (step m c s) (Hangs s))
    → Steps (InCells widths) (InCells widths) (says m c)
cells_say {H} {A} {m} laws widths c fits hangs = says_steps laws (InCells widths) (InCells widths) c
    (λ x at. fits x.parts.current) trailing
  where
    trailing : (x : LayoutState H A) (s : Sub H A) → InCells widths x → StaysWithin x.parts.current s
        → step m c x.parts.current ≡ Some s → InCells widths (in_current x s)
    trailing x s at inside does = record {
      more = at.more;
      fragments = at.fragments;
      slots = at.slots;
      made = at.made;
      flows = at.flows;
      is = at.is;
      fits = cells_same widths at.more at.slots at.made x.parts.current.width s.width (seats_of x.parts.current)
          (seats_of s) inside.1.0 (ap (map seat_of)
          (some_known (Hangs x.parts.current) (step m c x.parts.current) s does (hangs x.parts.current))) at.fits;
    }

-- ---- calls that leave what hangs

colour_hangs : {H A : Type 0} (m : Marking H A) (kind : Mark) (s : Sub H A) → Hangs s (begin_colour m kind s)
colour_hangs m kind s = by (m.has_tag s.held kind)
  where
    by : (b : Bool) → Hangs s (if b then pushed (m.mark_tag s.held kind) (with_held (m.after s.held kind) s)
        else with_held (m.after s.held kind) s)
    by true = refl
    by false = refl

colour_end_hangs : {H A : Type 0} (m : Marking H A) (kind : Mark) (s : Sub H A) → Hangs s (finish_colour m kind s)
colour_end_hangs m kind s = by (m.ends_tag s.held kind)
  where
    by : (b : Bool) → Hangs s (if b then popped (with_held (m.after s.held kind) s)
        else with_held (m.after s.held kind) s)
    by true = refl
    by false = refl

pub rows_calm : {H A : Type 0} {m : Marking H A} (laws : WidthLaws m) (widths : Option (List ℕ))
    → AreCalm {H = H} {A = A} m (InRows widths)
rows_calm {m = m} laws widths = record {
  colour = λ kind. rows_say laws widths (calls.starts_colour kind) (λ s. tt) (λ s. colour_hangs m kind s);
  colour_end = λ kind. rows_say laws widths (calls.ends_colour kind) (λ s. tt) (λ s. colour_end_hangs m kind s);
  mode = λ mode. rows_say laws widths (calls.starts_mode mode) (λ s. tt) (λ s. refl);
  mode_end = rows_say laws widths calls.ends_mode (λ s. tt) (λ s. refl);
}

pub cells_calm : {H A : Type 0} {m : Marking H A} (laws : WidthLaws m) (widths : Option (List ℕ))
    → AreCalm {H = H} {A = A} m (InCells widths)
cells_calm {m = m} laws widths = record {
  colour = λ kind. cells_say laws widths (calls.starts_colour kind) (λ s. tt) (λ s. colour_hangs m kind s);
  colour_end = λ kind. cells_say laws widths (calls.ends_colour kind) (λ s. tt) (λ s. colour_end_hangs m kind s);
  mode = λ mode. cells_say laws widths (calls.starts_mode mode) (λ s. tt) (λ s. refl);
  mode_end = cells_say laws widths calls.ends_mode (λ s. tt) (λ s. refl);
}

pub rows_named : {H A : Type 0} {m : Marking H A} (laws : WidthLaws m) (widths : Option (List ℕ)) (name : List ℕ)
    → Steps (InRows widths) (InRows widths) (says m (calls.starts_fragment name))
rows_named laws widths name = rows_say laws widths (calls.starts_fragment name) (λ s. tt)
    (λ s. laws.seats.mark_hangs (measure_of s) s.annotations name s.laid)

added_hangs : {H A : Type 0} {m : Marking H A} (laws : WidthLaws m) (cs : List ℕ) (s : Sub H A) (b : Laid (List A))
    → IfSome (text_added m cs s b) (λ new. new.hanging ≡ b.hanging)
added_hangs {H} {A} {m} laws cs s b = by (nat_lt 0 s.preformats)
  where
    by : (t : Bool) → IfSome (if t then preformatted_added m (struck_text s cs) s b
        else add_text (measure_of s) s.annotations (mode_of s) (struck_text s cs) s.annotations s.annotations b)
        (λ (new : Laid (List A)). new.hanging ≡ b.hanging)
    by true = laws.seats.text_hangs (measure_of s) s.annotations (mode_of s) (struck_text s cs)
        (one_under (m.mark_tag s.held preformat_first) s) (one_under (m.mark_tag s.held preformat_further) s) b
    by false = laws.seats.text_hangs (measure_of s) s.annotations (mode_of s) (struck_text s cs) s.annotations
        s.annotations b

text_hangs : {H A : Type 0} {m : Marking H A} (laws : WidthLaws m) (cs : List ℕ) (s : Sub H A)
    → IfSome (step m (calls.adds_text cs) s) (Hangs s)
text_hangs {H} {A} {m} laws cs s = by (is_ignored (mode_of s) cs s.laid)
  where
    by : (t : Bool) → IfSome (if t then Some s else on_laid s (option_and_then (text_added m cs s)
        (start_awaited (measure_of s) s.annotations s.laid))) (Hangs s)
    by true = refl
    by false = mapped (λ (b : Laid (List A)). b.hanging ≡ s.laid.hanging) (Hangs s) (with_laid s)
        (option_and_then (text_added m cs s) (start_awaited (measure_of s) s.annotations s.laid)) (λ b h. h)
        (chained (λ (b : Laid (List A)). b.hanging ≡ s.laid.hanging) (λ (b : Laid (List A)). b.hanging ≡ s.laid.hanging)
        (text_added m cs s) (start_awaited (measure_of s) s.annotations s.laid)
        (λ b h. weaker (λ (new : Laid (List A)). new.hanging ≡ b.hanging)
        (λ (new : Laid (List A)). new.hanging ≡ s.laid.hanging) (text_added m cs s b) (λ new k. k ∙ h)
        (added_hangs laws cs s b))
        (laws.seats.awaited_hangs (measure_of s) s.annotations s.laid))

line_hangs : {H A : Type 0} {m : Marking H A} (laws : WidthLaws m) (s : Sub H A)
    → IfSome (step m calls.ends_line s) (Hangs s)
line_hangs {H} {A} laws s = mapped (λ (b : Laid (List A)). b.hanging ≡ s.laid.hanging) (Hangs s) (with_laid s)
    (flush (measure_of s) s.annotations s.laid) (λ b h. h)
    (laws.seats.flush_hangs (measure_of s) s.annotations s.laid)

border_hangs : {H A : Type 0} {m : Marking H A} (laws : WidthLaws m) (widths : Option (List ℕ)) (s : Sub H A)
    → IfSome (step m (border_call widths) s) (Hangs s)
border_hangs {H} {A} laws None s = mapped (λ (b : Laid (List A)). b.hanging ≡ s.laid.hanging) (Hangs s) (with_laid s)
    (add_horizontal_border (measure_of s) s.annotations s.width s.laid) (λ b h. h)
    (laws.seats.border_hangs (measure_of s) s.annotations s.width s.laid)
border_hangs {H} {A} laws (Some widths) s =
    mapped (λ (b : Laid (List A)). b.hanging ≡ s.laid.hanging) (Hangs s) (with_laid s)
    (add_horizontal_border (measure_of s) s.annotations (separated widths) s.laid) (λ b h. h)
    (laws.seats.border_hangs (measure_of s) s.annotations (separated widths) s.laid)

table_hangs : {H A : Type 0} {m : Marking H A} (laws : WidthLaws m) (s : Sub H A)
    → IfSome (step m calls.starts_table s) (λ new. new.laid.hanging ≡ [])
table_hangs {H} {A} laws s = mapped (λ (b : Laid (List A)). b.hanging ≡ [])
    (λ (new : Sub H A). new.laid.hanging ≡ []) (with_laid s)
    (start_table (measure_of s) s.annotations s.laid) (λ b h. h)
    (laws.seats.table_hangs (measure_of s) s.annotations s.laid)

-- ---- a table

-- A table has begun in a renderer of so many columns, and nothing hangs in it.
record IsFresh {H A : Type 0} (in_cell : Bool) (width : ℕ) (x : LayoutState H A) : Type 0 where
  pub at : At in_cell Flow x
  pub wide : x.parts.current.width ≡ width
  pub none : x.parts.current.laid.hanging ≡ []

fresh_say : {H A : Type 0} {m : Marking H A} (laws : WidthLaws m) (in_cell : Bool) (width : ℕ) (c : Call (Sub H A))
    → ((s : Sub H A) → s.width ≡ width → CallFits c s) → ((s : Sub H A) → IfSome (step m c s) (Hangs s))
    → Steps (IsFresh in_cell width) (IsFresh in_cell width) (says m c)
fresh_say {H} {A} {m} laws in_cell width c fits hangs =
    says_steps laws (IsFresh in_cell width) (IsFresh in_cell width) c
    (λ x fresh. fits x.parts.current fresh.wide) trailing
  where
    trailing : (x : LayoutState H A) (s : Sub H A) → IsFresh in_cell width x → StaysWithin x.parts.current s
        → step m c x.parts.current ≡ Some s → IsFresh in_cell width (in_current x s)
    trailing x s fresh inside does = record {
      at = fresh.at;
      wide = inside.1.0 ∙ fresh.wide;
      none = some_known (Hangs x.parts.current) (step m c x.parts.current) s does (hangs x.parts.current) ∙ fresh.none;
    }

table_starts : {H A : Type 0} {m : Marking H A} (laws : WidthLaws m) (in_cell : Bool) (width : ℕ)
    → Steps (λ x. At in_cell Flow x × (x.parts.current.width ≡ width)) (IsFresh in_cell width)
    (says m calls.starts_table)
table_starts {H} {A} {m} laws in_cell width =
    says_steps laws (λ x. At in_cell Flow x × (x.parts.current.width ≡ width)) (IsFresh in_cell width)
    calls.starts_table (λ x at. tt) trailing
  where
    trailing : (x : LayoutState H A) (s : Sub H A) → At in_cell Flow x × (x.parts.current.width ≡ width)
        → StaysWithin x.parts.current s → step m calls.starts_table x.parts.current ≡ Some s
        → IsFresh in_cell width (in_current x s)
    trailing x s at inside does = record {
      at = at.0;
      wide = inside.1.0 ∙ at.1;
      none = some_known (λ (new : Sub H A). new.laid.hanging ≡ []) (step m calls.starts_table x.parts.current) s does
          (table_hangs laws x.parts.current);
    }

either_steps : {H A : Type 0} (P Q : LayoutState H A → Type 0) (t : Bool) (f g : Step H A) → Steps P Q f → Steps P Q g
    → Steps P Q (if t then f else g)
either_steps P Q true f g one other = one
either_steps P Q false f g one other = other

fence_begins : {H A : Type 0} {m : Marking H A} (laws : WidthLaws m) (in_cell : Bool) (width : ℕ) (asked : Bool)
    → Steps (IsFresh in_cell width) (IsFresh in_cell width) (fence m asked)
fence_begins {H} {A} {m} laws in_cell width asked =
    let P : LayoutState H A → Type 0 = IsFresh in_cell width in
    either_steps P P asked (in_turn (says m (calls.adds_text (codes "```"))) (says m calls.ends_line)) Some
    (steps_through P P P (says m (calls.adds_text (codes "```"))) (says m calls.ends_line)
    (fresh_say laws in_cell width (calls.adds_text (codes "```")) (λ s e. tt) (λ s. text_hangs laws (codes "```") s))
    (fresh_say laws in_cell width calls.ends_line (λ s e. tt) (λ s. line_hangs laws s))) (steps_by P)

fence_ends : {H A : Type 0} {m : Marking H A} (laws : WidthLaws m) (asked : Bool) → Keeps Flow Flow (fence m asked)
fence_ends {m = m} laws asked = either_keeps Flow asked
    (in_turn (says m (calls.adds_text (codes "```"))) (says m calls.ends_line)) Some
    (keeps_through Flow Flow Flow (says m (calls.adds_text (codes "```"))) (says m calls.ends_line)
    (says_keeps laws Flow (calls.adds_text (codes "```")) (λ s. tt))
    (says_keeps laws Flow calls.ends_line (λ s. tt))) (keeps_by Flow)

border_fits : {H A : Type 0} (widths : Option (List ℕ)) (columns : List Column) (width : ℕ) (s : Sub H A)
    → IfSome widths (FitAcross columns (capped width)) → s.width ≡ width → CallFits (border_call widths) s
border_fits None columns width s fits e = tt
border_fits (Some widths) columns width s fits e = omega (arith, fits.fit, e)

top_begins : {H A : Type 0} {m : Marking H A} (laws : WidthLaws m) (in_cell : Bool) (width : ℕ)
    (options : RenderOptions) (widths : Option (List ℕ)) (columns : List Column)
    → IfSome widths (FitAcross columns (capped width))
    → Steps (IsFresh in_cell width) (IsFresh in_cell width) (top_border m options widths)
top_begins {H} {A} {m} laws in_cell width options widths columns fits =
    let P : LayoutState H A → Type 0 = IsFresh in_cell width in
    either_steps P P options.draw_borders (says m (border_call widths)) Some
    (fresh_say laws in_cell width (border_call widths) (λ s e. border_fits widths columns width s fits e)
    (λ s. border_hangs laws widths s)) (steps_by P)

table_begins : {H A : Type 0} {m : Marking H A} (laws : WidthLaws m) (in_cell : Bool) (width : ℕ)
    (options : RenderOptions) (fenced : Bool) (widths : Option (List ℕ)) (t : Table) → IsSoundTable t
    → IfSome widths (FitAcross t.columns (capped width))
    → Steps (λ x. At in_cell Flow x × (x.parts.current.width ≡ width)) (InRows widths)
    (table_begun m options fenced widths (rows_of widths t))
table_begins {H} {A} {m} laws in_cell width options fenced widths t sound fits =
    let P : LayoutState H A → Type 0 = λ x. At in_cell Flow x × (x.parts.current.width ≡ width) in
    let Q : LayoutState H A → Type 0 = IsFresh in_cell width in
    steps_through P Q (InRows widths) (says m calls.starts_table)
    (in_turn (fence m fenced) (in_turn (top_border m options widths) (goes_to (rows widths (rows_of widths t) []))))
    (table_starts laws in_cell width)
    (steps_through Q Q (InRows widths) (fence m fenced)
    (in_turn (top_border m options widths) (goes_to (rows widths (rows_of widths t) [])))
    (fence_begins laws in_cell width fenced)
    (steps_through Q Q (InRows widths) (top_border m options widths) (goes_to (rows widths (rows_of widths t) []))
    (top_begins laws in_cell width options widths t.columns fits)
    (λ x kept fresh. (
      stays x.parts kept.kept,
      record {
        slots = rows_of widths t;
        fragments = [];
        flows = fresh.at.0;
        is = refl;
        fits = rows_same widths (rows_of widths t) width x.parts.current.width [] (seats_of x.parts.current) fresh.wide
            (ap (map seat_of) fresh.none) (table_fits t widths width sound fits);
      },
    ))))

table_ends : {H A : Type 0} {m : Marking H A} (laws : WidthLaws m) (in_cell : Bool) (widths : Option (List ℕ))
    (fenced : Bool) (place : TablePlace H A) → place ≡ outside in_cell
    → Steps (InRows widths) (At in_cell Flow) (table_ended m fenced place)
table_ends {m = m} laws in_cell widths fenced place is =
    steps_through (InRows widths) (At in_cell Flow) (At in_cell Flow) (goes_to place) (fence m fenced)
    (λ x sound at. (stays x.parts sound.kept, (at.flows, is))) (fence_ends laws fenced in_cell)

rows_keep : {H A : Type 0} {m : Marking H A} (laws : WidthLaws m) (t : Table) (widths : Option (List ℕ))
    (inside : Step H A) (in_cell : Bool) (x : LayoutState H A) → IsSoundTable t
    → IfSome widths (FitAcross t.columns (capped x.parts.current.width)) → Steps (InRows widths) (InRows widths) inside
    → AreSound x.parts → At in_cell Flow x → IfSome (rows_laid m t widths inside x) (Kept (At in_cell Flow) x)
rows_keep {H} {A} {m} laws t widths inside in_cell x table fits does sound at =
    let options = x.parts.current.options in
    let fenced = is_fenced options x.table in
    let P : LayoutState H A → Type 0 = λ y. At in_cell Flow y × (y.parts.current.width ≡ x.parts.current.width) in
    steps_through P (InRows widths) (At in_cell Flow) (table_begun m options fenced widths (rows_of widths t))
    (in_turn inside (table_ended m fenced x.table))
    (table_begins laws in_cell x.parts.current.width options fenced widths t table fits)
    (steps_through (InRows widths) (InRows widths) (At in_cell Flow) inside (table_ended m fenced x.table) does
    (table_ends laws in_cell widths fenced x.table at.1)) x sound (at, refl)

widths_fit : {H A : Type 0} {m : Marking H A} (laws : WidthLaws m) (options : RenderOptions)
    (fits : Option (List ColumnFit)) (width : ℕ) (columns : List Column) → IfSome fits (AreFits columns)
    → IfSome (table_widths options fits width columns) (FitAcross columns width)
widths_fit laws options fits width columns fit = by options.raw
  where
    by_fits : (f : Option (List ColumnFit)) → IfSome f (AreFits columns)
        → IfSome (widths_by f width columns) (FitAcross columns width)
    by_fits None h = laws.across columns width
    by_fits (Some f) h = laws.fitted columns f width h

    by : (b : Bool) → IfSome (if b then None else widths_by fits width columns) (FitAcross columns width)
    by true = tt
    by false = by_fits fits fit

columns_keep : {H A : Type 0} {m : Marking H A} (laws : WidthLaws m) (t : Table) (fits : Option (List ColumnFit))
    (columns : List Column) (inside : Step H A) → IsSoundTable t → IfSome fits (AreFits t.columns)
    → ((widths : Option (List ℕ)) → Steps (InRows widths) (InRows widths) inside)
    → Keeps Flow Flow (columns_laid m t fits columns inside)
columns_keep laws t fits [] inside table fit does = keeps_by Flow
columns_keep laws t fits (c ∷ columns) inside table fit does = λ in_cell x sound at.
    rows_keep laws t (table_widths x.parts.current.options fits (capped x.parts.current.width) t.columns) inside
    in_cell x table (widths_fit laws x.parts.current.options fits (capped x.parts.current.width) t.columns fit)
    (does (table_widths x.parts.current.options fits (capped x.parts.current.width) t.columns)) sound at

pub table_keeps : {H A : Type 0} {m : Marking H A} (laws : WidthLaws m) (t : Table) (fits : Option (List ColumnFit))
    (inside : Step H A) → IsSoundTable t → IfSome fits (AreFits t.columns)
    → ((widths : Option (List ℕ)) → Steps (InRows widths) (InRows widths) inside)
    → Keeps Flow Flow (table_laid m t fits inside)
unfolding table_laid
table_keeps laws t fits inside table fit does = columns_keep laws t fits t.columns inside table fit does
