-- What a pass over values comes to.
use Rattle.std.proofs.Common.{◌≡◌, ◌+◌, ◌∙◌, if◌then◌else◌, [], ◌∷◌, ◌++◌, Bool, List, None, Option, Some, ap}
use Rattle.std.proofs.Common.{append-nil}
use Rattle.std.proofs.Common.{append_assoc, arith, cond, false, filter, length, map, max, nat_lt, refl, set, subst, suc}
use Rattle.std.proofs.Common.{sym}
use Rattle.std.proofs.Common.{true, ℕ}
use Rattle.std.proofs.lemmas.List.{map-append}
use Rattle.std.proofs.lemmas.List.Elements.{filter-append}
use Rattle.block_trait.specs.declared.options.RenderOptions.{RenderOptions}
use Rattle.column_fits.specs.declared.fit.ColumnFit.{ColumnFit}
use Rattle.content_widths.specs.Flows.{FlowItem}
use Rattle.content_widths.specs.declared.widths.ContentWidths.{ContentWidths}
use Rattle.render_sizes.specs.Extents.{Measured, cells_by as asks_by, extent_by, extent_of, in_rows, lowered, measured}
use Rattle.render_sizes.specs.Extents.{nothing_measured, number, rows_by}
use Rattle.render_sizes.specs.RowCells.{cells_emitted}
use Rattle.render_values.specs.Values.{Values, none, value}
use Rattle.render_values.specs.declared.info.Head.{Head}
use Rattle.render_values.specs.declared.info.RenderInfo.{RenderInfo}
use Rattle.render_values.specs.declared.info.RenderInfo.TheVariants as infos
use Rattle.table_fits.specs.Flowing.{Fitting, following, items_prefix, leading, mode_in, placed, standing}
use Rattle.table_fits.specs.Flowing.{standing_flow}
use Rattle.table_fits.specs.Flowing.{value_flow, widths_of}
use Rattle.table_fits.specs.Pass.{State, TableRead, added, closes, enters, fits_read, flow_ended, inside_flow}
use Rattle.table_fits.specs.Pass.{inside_of}
use Rattle.table_fits.specs.Pass.{is_along, is_own, nothing_passed, on_page, opens, own_flow, passed}
use Rattle.table_fits.specs.Pass.{rows_begun}
use Rattle.table_fits.specs.Pass.{table_begun, table_ended, widths_emitted, with_cell}
use Rattle.table_fits.specs.TableFits.{Flowing, RowWidths, cells_by, fits_by, fits_in_grid, fits_of_value, flowing}
use Rattle.table_fits.specs.TableFits.{further, row_widths}
use Rattle.table_fits.specs.TableFits.{table_fits}
use Rattle.table_fits.specs.declared.standing.Around.{Around}
use Rattle.table_fits.specs.declared.standing.Standing.{Standing}
use Rattle.table_fits.specs.declared.standing.Standing.TheVariants.{AfterPrefix, Along, Cell, Table}
use Rattle.table_grid.specs.TheGrid.{grid}
use Rattle.table_grid.specs.declared.cell.Cell.{Cell as Ask}
use Rattle.text_pieces.specs.declared.white_space.WhiteSpace.{WhiteSpace}
use Rattle.text_pieces.specs.declared.white_space.WhiteSpace.TheVariants.{Normal}

none_on : (n : ℕ) → n + 0 ≡ n
none_on n = omega arith

from_none : (n : ℕ) → 0 + n ≡ n
from_none n = omega arith

on : (a b c : ℕ) → a + b + c ≡ a + (b + c)
on a b c = omega arith

-- ---- the flow around a value

-- a value that does not flow along adds nothing of its own
apart_adds_nothing : (options : RenderOptions) (mode : WhiteSpace) (info : RenderInfo)
    → is_along (standing info) ≡ false
    → (leading options mode info ≡ []) × (following options mode info ≡ [])
apart_adds_nothing options mode (infos.Heading level) h = (refl, refl)
apart_adds_nothing options mode infos.Quote h = (refl, refl)
apart_adds_nothing options mode infos.Details h = (refl, refl)
apart_adds_nothing options mode infos.Table h = (refl, refl)
apart_adds_nothing options mode (infos.TableCell columns rows) h = (refl, refl)
apart_adds_nothing options mode _ h = absurd (cc h)

in_turn : (a b c : List FlowItem) (items : List FlowItem) → ((items ++ a) ++ b) ++ c ≡ items ++ ((a ++ b) ++ c)
in_turn a b c items =
    append_assoc (items ++ a) b c ∙ (append_assoc items a (b ++ c) ∙ ap (λ l. items ++ l) (sym (append_assoc a b c)))

-- the flow around at the end of a value that adds more after what stands in it
abbrev ended_by : Fitting → RenderInfo → Option ℕ → Standing → (own : Bool) → (more : List FlowItem) → List ColumnFit
    → (outer inside : Option (List FlowItem)) → Option (List FlowItem)
ended_by f info prefix stands false more fits outer inside = added more inside
ended_by f info prefix stands true more fits outer inside =
    added (placed f prefix (standing_flow f info stands (inside_flow inside) fits ++ more)) outer

-- it goes on with what the value adds before that, with that, and with what the value adds after it
abbrev GoesOn : Fitting → RenderInfo → Option ℕ → Standing → (lead more inside : List FlowItem) → List ColumnFit
    → Option (List FlowItem) → Type 0
GoesOn f info prefix stands lead more inside fits flow =
    ended_by f info prefix stands (is_own prefix stands) more fits flow
    (added inside (added lead (own_flow stands (is_own prefix stands) flow)))
    ≡ added (placed f prefix (lead ++ standing_flow f info stands inside fits ++ more)) flow

along : (f : Fitting) (info : RenderInfo) (prefix : Option ℕ) (lead more inside : List FlowItem) (fits : List ColumnFit)
    (flow : Option (List FlowItem)) → GoesOn f info prefix Along lead more inside fits flow
along f info None lead more inside fits None = refl
along f info None lead more inside fits (Some items) = ap (λ l. Some l) (in_turn lead inside more items)
along f info (Some columns) lead more inside fits None = refl
along f info (Some columns) lead more inside fits (Some items) = refl

apart : (f : Fitting) (info : RenderInfo) (prefix : Option ℕ) (stands : Standing) (inside : List FlowItem)
    (fits : List ColumnFit) (flow : Option (List FlowItem)) → is_along stands ≡ false
    → GoesOn f info prefix stands [] [] inside fits flow
apart f info prefix Along inside fits flow h = absurd (cc h)
apart f info None AfterPrefix inside fits None h = refl
apart f info None AfterPrefix inside fits (Some items) h = refl
apart f info (Some columns) AfterPrefix inside fits None h = refl
apart f info (Some columns) AfterPrefix inside fits (Some items) h = refl
apart f info None Table inside fits None h = refl
apart f info None Table inside fits (Some items) h = refl
apart f info (Some columns) Table inside fits None h = refl
apart f info (Some columns) Table inside fits (Some items) h = refl
apart f info None Cell inside fits None h = refl
apart f info None Cell inside fits (Some items) h = refl
apart f info (Some columns) Cell inside fits None h = refl
apart f info (Some columns) Cell inside fits (Some items) h = refl

goes_on : (f : Fitting) (info : RenderInfo) (prefix : Option ℕ) (stands : Standing) (lead more inside : List FlowItem)
    (fits : List ColumnFit) (flow : Option (List FlowItem))
    → (is_along stands ≡ false → (lead ≡ []) × (more ≡ []))
    → GoesOn f info prefix stands lead more inside fits flow
goes_on f info prefix stands lead more inside fits flow h = by (is_along stands) refl
  where
    is_it : (s : Standing) → is_along s ≡ true → Along ≡ s
    is_it Along e = refl
    is_it AfterPrefix e = absurd (cc e)
    is_it Table e = absurd (cc e)
    is_it Cell e = absurd (cc e)

    by : (b : Bool) → is_along stands ≡ b → GoesOn f info prefix stands lead more inside fits flow
    by true e = subst (λ s. GoesOn f info prefix s lead more inside fits flow) (is_it stands e)
        (along f info prefix lead more inside fits flow)
    by false e = let none = h e in
        subst (λ l. GoesOn f info prefix stands l more inside fits flow) (sym none.0)
        (subst (λ m. GoesOn f info prefix stands [] m inside fits flow) (sym none.1)
        (apart f info prefix stands inside fits flow e))

same_end : (f : Fitting) (around : Around) (head : Head) (own : Bool) (fits : List ColumnFit)
    (outer inside : Option (List FlowItem)) → flow_ended f around head own fits outer inside
    ≡ ended_by f head.info around.prefix (standing head.info) own (following f.options
    (mode_in around.mode head) head.info)
    fits outer inside
same_end f around head false fits outer inside = refl
same_end f around head true fits outer inside = refl

flow_on : (f : Fitting) (around : Around) (head : Head) (fits : List ColumnFit) (inside : List FlowItem)
    (flow : Option (List FlowItem))
    → flow_ended f around head (is_own around.prefix (standing head.info)) fits flow
    (added inside (added (leading f.options (mode_in around.mode head) head.info)
    (own_flow (standing head.info) (is_own around.prefix (standing head.info)) flow)))
    ≡ added (value_flow f (mode_in around.mode head) around.prefix head.info inside fits) flow
flow_on f around head fits inside flow =
    let mode = mode_in around.mode head in
    let own = is_own around.prefix (standing head.info) in
    same_end f around head own fits flow (added inside (added (leading f.options mode head.info)
    (own_flow (standing head.info) own flow)))
    ∙ goes_on f head.info around.prefix (standing head.info) (leading f.options mode head.info)
    (following f.options mode head.info) inside fits flow (apart_adds_nothing f.options mode head.info)

-- ---- the table around a value

-- the cells that stand in rows, where so many rows came before
abbrev counted : ℕ → List Ask → List Ask
counted n cells = filter (λ (c : Ask). nat_lt 0 c.row) (map (lowered n) cells)

lowered_none : (cells : List Ask) → map (lowered 0) cells ≡ cells
lowered_none [] = refl
lowered_none (c ∷ cells) =
    ap (λ r. record { row = r; colspan = c.colspan; rowspan = c.rowspan; size = c.size; least = c.least }
    ∷ map (lowered 0) cells) (from_none c.row)
    ∙ ap (λ l. c ∷ l) (lowered_none cells)

lowered_twice : (a b : ℕ) (cells : List Ask) → map (lowered a) (map (lowered b) cells) ≡ map (lowered (a + b)) cells
lowered_twice a b [] = refl
lowered_twice a b (c ∷ cells) =
    ap (λ r. record { row = r; colspan = c.colspan; rowspan = c.rowspan; size = c.size; least = c.least }
    ∷ map (lowered a) (map (lowered b) cells)) (sym (on a b c.row))
    ∙ ap (λ l. lowered (a + b) c ∷ l) (lowered_twice a b cells)

further_none : (cells : List RowWidths) → map (further 0) cells ≡ cells
further_none [] = refl
further_none (c ∷ cells) =
    ap (λ r. record { row = r; widths = c.widths } ∷ map (further 0) cells) (from_none c.row)
    ∙ ap (λ l. c ∷ l) (further_none cells)

further_twice : (a b : ℕ) (cells : List RowWidths)
    → map (further a) (map (further b) cells) ≡ map (further (a + b)) cells
further_twice a b [] = refl
further_twice a b (c ∷ cells) =
    ap (λ r. record { row = r; widths = c.widths } ∷ map (further a) (map (further b) cells)) (sym (on a b c.row))
    ∙ ap (λ l. further (a + b) c ∷ l) (further_twice a b cells)

widths_then : (a b : List RowWidths) → row_widths (a ++ b) ≡ row_widths a ++ row_widths b
widths_then a b =
    ap (λ l. map (λ (c : RowWidths). c.widths) l) (filter-append (λ (c : RowWidths). nat_lt 0 c.row) a b)
    ∙ map-append (λ (c : RowWidths). c.widths) (filter (λ (c : RowWidths). nat_lt 0 c.row) a)
    (filter (λ (c : RowWidths). nat_lt 0 c.row) b)

-- a table in which further rows and cells are read
abbrev read_on : TableRead → (rows : ℕ) → List Ask → List RowWidths → TableRead
read_on t rows cells widths = record {
  rows = t.rows + rows;
  cells = t.cells ++ counted t.rows cells;
  widths = t.widths ++ row_widths (map (further t.rows) widths);
}

table_is : (a b : ℕ) (c d : List Ask) (e g : List ContentWidths) → a ≡ b → c ≡ d → e ≡ g
    → ◌≡◌ {A = TableRead} (record { rows = a; cells = c; widths = e }) (record { rows = b; cells = d; widths = g })
table_is a b c d e g x y z =
    ap (λ n. record { rows = n; cells = c; widths = e }) x
    ∙ (ap (λ l. record { rows = b; cells = l; widths = e }) y ∙ ap (λ l. record { rows = b; cells = d; widths = l }) z)

nothing_more : (t : TableRead) → t ≡ read_on t 0 [] []
nothing_more t = table_is t.rows (t.rows + 0) t.cells (t.cells ++ []) t.widths (t.widths ++ []) (sym (none_on t.rows))
    (sym (append-nil t.cells)) (sym (append-nil t.widths))

-- rows and cells of values, and of others after them
read_then : (t : TableRead) (a b : ℕ) (c d : List Ask) (e g : List RowWidths)
    → read_on (read_on t a c e) b d g ≡ read_on t (a + b) (c ++ map (lowered a) d) (e ++ map (further a) g)
read_then t a b c d e g = table_is (t.rows + a + b) (t.rows + (a + b))
    ((t.cells ++ counted t.rows c) ++ counted (t.rows + a) d) (t.cells ++ counted t.rows (c ++ map (lowered a) d))
    ((t.widths ++ row_widths (map (further t.rows) e)) ++ row_widths (map (further (t.rows + a)) g))
    (t.widths ++ row_widths (map (further t.rows) (e ++ map (further a) g)))
    (on t.rows a b)
    (append_assoc t.cells (counted t.rows c) (counted (t.rows + a) d) ∙ ap (λ l. t.cells ++ l) (sym cells_are))
    (append_assoc t.widths (row_widths (map (further t.rows) e)) (row_widths (map (further (t.rows + a)) g))
    ∙ ap (λ l. t.widths ++ l) (sym widths_are))
  where
    cells_are : counted t.rows (c ++ map (lowered a) d) ≡ counted t.rows c ++ counted (t.rows + a) d
    cells_are = ap (filter (λ (x : Ask). nat_lt 0 x.row)) (map-append (lowered t.rows) c (map (lowered a) d)
        ∙ ap (λ l. map (lowered t.rows) c ++ l) (lowered_twice t.rows a d))
        ∙ filter-append (λ (x : Ask). nat_lt 0 x.row) (map (lowered t.rows) c) (map (lowered (t.rows + a)) d)

    widths_are : row_widths (map (further t.rows) (e ++ map (further a) g))
        ≡ row_widths (map (further t.rows) e) ++ row_widths (map (further (t.rows + a)) g)
    widths_are = ap row_widths (map-append (further t.rows) e (map (further a) g)
        ∙ ap (λ l. map (further t.rows) e ++ l) (further_twice t.rows a g))
        ∙ widths_then (map (further t.rows) e) (map (further (t.rows + a)) g)

-- a value in a table, where it is among its rows
abbrev value_read : (among_rows : Bool) → Fitting → RenderInfo → (inside : Measured) → Flowing → TableRead → TableRead
value_read false f info m i t = t
value_read true f info m i t = read_on t (rows_by info m) (asks_by info m) (cells_by f info i)

-- values
abbrev values_read : (among_rows : Bool) → Measured → List RowWidths → TableRead → TableRead
values_read false m widths t = t
values_read true m widths t = read_on t m.rows m.cells widths

row_first : (n : ℕ) → 1 + n ≡ suc n
row_first n = omega arith

emitted_one : (b : Bool) (c : Ask) → (if b then c ∷ [] else []) ≡ cond b (c ∷ []) []
emitted_one true c = refl
emitted_one false c = refl

emitted_widths : (b : Bool) (n : ℕ) (w : ContentWidths)
    → (if b then w ∷ [] else []) ≡ map (λ (c : RowWidths). c.widths) (cond b (record { row = n; widths = w } ∷ []) [])
emitted_widths true n w = refl
emitted_widths false n w = refl

-- the table around goes on with what the value is in it
abbrev TableGoesOn : (among_rows : Bool) → Fitting → Around → RenderInfo → (inside : Values) → Flowing → List FlowItem
    → TableRead → Type 0
TableGoesOn among_rows f around info inside i within t =
    table_ended f.options around (standing info) info (extent_by f.measure info (measured f.measure inside)
    (number inside)) t
    within (values_read (enters among_rows info) (measured f.measure inside) i.cells
    (rows_begun among_rows info (table_begun (standing info) t)))
    ≡ value_read among_rows f info (measured f.measure inside) i t

aside : (f : Fitting) (around : Around) (info : RenderInfo) (inside : Values) (i : Flowing) (within : List FlowItem)
    (t : TableRead) → around.among_rows ≡ false → TableGoesOn false f around info inside i within t
aside f around infos.Table inside i within t h = refl
aside f around (infos.TableCell columns taken) inside i within t h =
    ap (λ b. with_cell b (infos.TableCell columns taken)
    (extent_by f.measure (infos.TableCell columns taken) (measured f.measure inside) (number inside))
    (widths_of f.options within) t) h
aside f around infos.TableGroup inside i within t h = refl
aside f around infos.TableRow inside i within t h = refl
aside f around (infos.Heading level) inside i within t h = refl
aside f around infos.Quote inside i within t h = refl
aside f around infos.Details inside i within t h = refl
aside f around _ inside i within t h = refl

no_row : (t : TableRead) → ◌≡◌ {A = TableRead} (record t { rows = t.rows + 0 }) (read_on t 0 [] [])
no_row t = table_is (t.rows + 0) (t.rows + 0) t.cells (t.cells ++ []) t.widths (t.widths ++ []) refl
    (sym (append-nil t.cells)) (sym (append-nil t.widths))

one_row : (t : TableRead) (n : ℕ) (cells : List Ask) (widths : List RowWidths)
    → read_on (record t { rows = t.rows + 1 }) n cells widths
    ≡ read_on t (suc n) (map (lowered 1) cells) (map (further 1) widths)
one_row t n cells widths =
    ap (λ x. read_on x n cells widths) (table_is (t.rows + 1) (t.rows + 1) t.cells (t.cells ++ []) t.widths
    (t.widths ++ []) refl (sym (append-nil t.cells)) (sym (append-nil t.widths)))
    ∙ (read_then t 1 n [] cells [] widths
    ∙ ap (λ k. read_on t k (map (lowered 1) cells) (map (further 1) widths)) (row_first n))

among : (f : Fitting) (around : Around) (info : RenderInfo) (inside : Values) (i : Flowing) (within : List FlowItem)
    (t : TableRead) → around.among_rows ≡ true → (standing info ≡ Cell → within ≡ i.flow)
    → TableGoesOn true f around info inside i within t
among f around infos.Table inside i within t h is = nothing_more t
among f around (infos.TableCell columns taken) inside i within t h is =
    let info = infos.TableCell columns taken in
    let m = measured f.measure inside in
    let e = extent_by f.measure info m (number inside) in
    ap (λ b. with_cell b info e (widths_of f.options within) (record t { rows = t.rows + 0 })) h
    ∙ (ap (λ l. with_cell true info e (widths_of f.options l) (record t { rows = t.rows + 0 })) (is refl)
    ∙ table_is (t.rows + 0) (t.rows + 0)
    (t.cells ++ cells_emitted info e (t.rows + 0)) (t.cells ++ counted t.rows (asks_by info m))
    (t.widths ++ widths_emitted info (widths_of f.options i.flow) (t.rows + 0))
    (t.widths ++ row_widths (map (further t.rows) (cells_by f info i))) refl
    (ap (λ l. t.cells ++ l) (emitted_one (nat_lt 0 (t.rows + 0)) (record {
      row = t.rows + 0;
      colspan = max columns 1;
      rowspan = max taken 1;
      size = e.size;
      least = e.least;
    })))
    (ap (λ l. t.widths ++ l) (emitted_widths (nat_lt 0 (t.rows + 0)) (t.rows + 0) (widths_of f.options i.flow))))
among f around infos.TableGroup inside i within t h is =
    let m = measured f.measure inside in
    ap (λ n. read_on (record t { rows = n }) m.rows m.cells i.cells) (none_on t.rows)
among f around infos.TableRow inside i within t h is =
    let m = measured f.measure inside in
    one_row t m.rows m.cells i.cells
among f around (infos.Heading level) inside i within t h is = no_row t
among f around infos.Quote inside i within t h is = no_row t
among f around infos.Details inside i within t h is = no_row t
among f around _ inside i within t h is = no_row t

table_on : (among_rows : Bool) (f : Fitting) (around : Around) (info : RenderInfo) (inside : Values) (i : Flowing)
    (within : List FlowItem) (t : TableRead) → around.among_rows ≡ among_rows
    → (standing info ≡ Cell → within ≡ i.flow) → TableGoesOn among_rows f around info inside i within t
table_on true f around info inside i within t h is = among f around info inside i within t h is
table_on false f around info inside i within t h is = aside f around info inside i within t h

-- ---- what columns ask for

read_of_table : (f : Fitting) (m : Measured) (cells : List RowWidths) (n : ℕ) → n ≡ 0
    → fits_in_grid (grid ([] ++ counted n m.cells)) ([] ++ row_widths (map (further n) cells))
    ≡ fits_in_grid (grid (in_rows m)) (row_widths cells)
read_of_table f m cells n e =
    ap (λ k. fits_in_grid (grid (counted k m.cells)) (row_widths (map (further k) cells))) e
    ∙ (ap (λ l. fits_in_grid (grid (filter (λ (c : Ask). nat_lt 0 c.row) l)) (row_widths (map (further 0) cells)))
    (lowered_none m.cells)
    ∙ ap (λ l. fits_in_grid (grid (in_rows m)) (row_widths l)) (further_none cells))

fits_on : (f : Fitting) (among_rows : Bool) (info : RenderInfo) (inside : Values) (i : Flowing) (t : TableRead)
    → fits_read (standing info) (values_read (enters among_rows info) (measured f.measure inside) i.cells
    (rows_begun among_rows info (table_begun (standing info) t)))
    ≡ fits_by f info inside i.cells
fits_on f false infos.Table inside i t = read_of_table f (measured f.measure inside) i.cells 0 refl
fits_on f true infos.Table inside i t = read_of_table f (measured f.measure inside) i.cells (0 + 0) (none_on 0)
fits_on f among_rows (infos.TableCell columns taken) inside i t = refl
fits_on f among_rows (infos.Heading level) inside i t = refl
fits_on f among_rows infos.Quote inside i t = refl
fits_on f among_rows infos.Details inside i t = refl
fits_on f among_rows _ inside i t = refl

set_seam : (xs ys : List (List ColumnFit)) (a b : List ColumnFit)
    → set ((xs ++ a ∷ []) ++ ys) (length xs) b ≡ (xs ++ b ∷ []) ++ ys
set_seam [] ys a b = refl
set_seam (x ∷ xs) ys a b = ap (λ l. x ∷ l) (set_seam xs ys a b)

-- ---- values

state_is : (a b : Option (List FlowItem)) (t u : TableRead) (c d : List (List ColumnFit)) → a ≡ b → t ≡ u → c ≡ d
    → ◌≡◌ {A = State} (record { flow = a; table = t; fits = c }) (record { flow = b; table = u; fits = d })
state_is a b t u c d x y z =
    ap (λ n. record { flow = n; table = t; fits = c }) x
    ∙ (ap (λ l. record { flow = b; table = l; fits = c }) y ∙ ap (λ l. record { flow = b; table = u; fits = l }) z)

nothing_added : (flow : Option (List FlowItem)) → flow ≡ added [] flow
nothing_added None = refl
nothing_added (Some items) = ap (λ l. Some l) (sym (append-nil items))

none_read : (among_rows : Bool) (t : TableRead) → t ≡ values_read among_rows nothing_measured [] t
none_read false t = refl
none_read true t = nothing_more t

added_on : (a b : List FlowItem) (flow : Option (List FlowItem)) → added b (added a flow) ≡ added (a ++ b) flow
added_on a b None = refl
added_on a b (Some items) = ap (λ l. Some l) (append_assoc items a b)

read_after : (among_rows : Bool) (f : Fitting) (info : RenderInfo) (m r : Measured) (i rest : Flowing) (t : TableRead)
    → values_read among_rows r rest.cells (value_read among_rows f info m i t)
    ≡ values_read among_rows (record {
      extent = r.extent;
      rows = rows_by info m + r.rows;
      cells = asks_by info m ++ map (lowered (rows_by info m)) r.cells;
    }) (cells_by f info i ++ map (further (rows_by info m)) rest.cells) t
read_after false f info m r i rest t = refl
read_after true f info m r i rest t =
    read_then t (rows_by info m) r.rows (asks_by info m) r.cells (cells_by f info i) rest.cells

-- a cell's flow begins with nothing
cell_flow : (prefix : Option ℕ) (stands : Standing) (lead inside : List FlowItem) (flow : Option (List FlowItem))
    → stands ≡ Cell → lead ≡ []
    → inside_flow (added inside (added lead (own_flow stands (is_own prefix stands) flow))) ≡ inside
cell_flow None stands lead inside flow e n =
    ap (λ s. inside_flow (added inside (added lead (own_flow s (is_own None s) flow)))) e ∙ ap (λ l. l ++ inside) n
cell_flow (Some columns) stands lead inside flow e n =
    ap (λ s. inside_flow (added inside (added lead (own_flow s (is_own (Some columns) s) flow)))) e
    ∙ ap (λ l. l ++ inside) n

-- the extent of what was measured is no part of a table that is read
read_same : (among_rows : Bool) (r whole : Measured) (rows : ℕ) (cells : List Ask) (widths : List RowWidths)
    (t : TableRead)
    → rows + r.rows ≡ whole.rows → cells ++ map (lowered rows) r.cells ≡ whole.cells
    → values_read among_rows (record {
      extent = r.extent;
      rows = rows + r.rows;
      cells = cells ++ map (lowered rows) r.cells;
    }) widths t ≡ values_read among_rows whole widths t
read_same false r whole rows cells widths t a b = refl
read_same true r whole rows cells widths t a b =
    ap (λ n. read_on t n (cells ++ map (lowered rows) r.cells) widths) a ∙ ap (λ l. read_on t whole.rows l widths) b

abbrev After : Fitting → Around → Values → State → State
After f around values s = record {
  flow = added (flowing f around.mode around.prefix values).flow s.flow;
  table = values_read around.among_rows (measured f.measure values) (flowing f around.mode around.prefix values).cells
      s.table;
  fits = s.fits ++ table_fits f around.mode values;
}

-- a value ends, after what stands in it has passed
closed : (f : Fitting) (around : Around) (head : Head) (inside : Values) (s : State)
    → closes f around head (extent_of f.measure head inside) s
    (After f (inside_of f around head (number inside)) inside (opens f around head s))
    ≡ record {
      flow = added (value_flow f (mode_in around.mode head) around.prefix head.info
          (flowing f (mode_in around.mode head) (items_prefix f head.info (number inside)) inside).flow
          (fits_of_value f around.mode head inside)) s.flow;
      table = value_read around.among_rows f head.info (measured f.measure inside)
          (flowing f (mode_in around.mode head) (items_prefix f head.info (number inside)) inside) s.table;
      fits = (s.fits ++ fits_of_value f around.mode head inside ∷ []) ++ table_fits f (mode_in around.mode head) inside;
    }
closed f around head inside s =
    let mode = mode_in around.mode head in
    let i = flowing f mode (items_prefix f head.info (number inside)) inside in
    let within = After f (inside_of f around head (number inside)) inside (opens f around head s) in
    let read = fits_on f around.among_rows head.info inside i s.table in
    let end = closes f around head (extent_of f.measure head inside) s within in
    state_is end.flow (added (value_flow f mode around.prefix head.info i.flow
    (fits_by f head.info inside i.cells)) s.flow)
    end.table (value_read around.among_rows f head.info (measured f.measure inside) i s.table)
    end.fits ((s.fits ++ fits_by f head.info inside i.cells ∷ []) ++ table_fits f mode inside)
    (flow_on f around head (fits_read (standing head.info) within.table) i.flow s.flow
    ∙ ap (λ l. added (value_flow f mode around.prefix head.info i.flow l) s.flow) read)
    (table_on around.among_rows f around head.info inside i (inside_flow within.flow) s.table refl
    (λ e. cell_flow around.prefix (standing head.info) (leading f.options mode head.info) i.flow s.flow e
    (apart_adds_nothing f.options mode head.info (cell_is_apart (standing head.info) e)).0))
    (ap (λ l. set ((s.fits ++ [] ∷ []) ++ table_fits f mode inside) (length s.fits) l) read
    ∙ set_seam s.fits (table_fits f mode inside) [] (fits_by f head.info inside i.cells))
  where
    cell_is_apart : (stands : Standing) → stands ≡ Cell → is_along stands ≡ false
    cell_is_apart stands e = ap is_along e

passed_is : (f : Fitting) (around : Around) (values : Values) (s : State)
    → passed f around values s ≡ After f around values s
passed_is f around none s =
    state_is s.flow (added [] s.flow) s.table (values_read around.among_rows nothing_measured [] s.table) s.fits
    (s.fits ++ []) (nothing_added s.flow) (none_read around.among_rows s.table) (sym (append-nil s.fits))
passed_is f around (value head inside rest) s =
    let mode = mode_in around.mode head in
    let i = flowing f mode (items_prefix f head.info (number inside)) inside in
    let r = flowing f around.mode around.prefix rest in
    let m = measured f.measure inside in
    let own = fits_of_value f around.mode head inside in
    let here = value_flow f mode around.prefix head.info i.flow own in
    ap (λ x. passed f around rest (closes f around head (extent_of f.measure head inside) s x))
    (passed_is f (inside_of f around head (number inside)) inside (opens f around head s))
    ∙ (ap (passed f around rest) (closed f around head inside s)
    ∙ (passed_is f around rest (record {
      flow = added here s.flow;
      table = value_read around.among_rows f head.info m i s.table;
      fits = (s.fits ++ own ∷ []) ++ table_fits f mode inside;
    })
    ∙ state_is (added r.flow (added here s.flow)) (added (here ++ r.flow) s.flow)
    (values_read around.among_rows (measured f.measure rest) r.cells
    (value_read around.among_rows f head.info m i s.table))
    (values_read around.among_rows (measured f.measure (value head inside rest))
    (flowing f around.mode around.prefix (value head inside rest)).cells s.table)
    (((s.fits ++ own ∷ []) ++ table_fits f mode inside) ++ table_fits f around.mode rest)
    (s.fits ++ table_fits f around.mode (value head inside rest))
    (added_on here r.flow s.flow)
    (read_after around.among_rows f head.info m (measured f.measure rest) i r s.table
    ∙ read_same around.among_rows (measured f.measure rest) (measured f.measure (value head inside rest))
    (rows_by head.info m) (asks_by head.info m) (flowing f around.mode around.prefix
    (value head inside rest)).cells s.table
    refl refl)
    (append_assoc (s.fits ++ own ∷ []) (table_fits f mode inside) (table_fits f around.mode rest)
    ∙ append_assoc s.fits (own ∷ []) (table_fits f mode inside ++ table_fits f around.mode rest))))

pub passed_gives : (f : Fitting) (values : Values)
    → (passed f on_page values nothing_passed).fits ≡ table_fits f Normal values
passed_gives f values = ap (λ (x : State). x.fits) (passed_is f on_page values nothing_passed)
