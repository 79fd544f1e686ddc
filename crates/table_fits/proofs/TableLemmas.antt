-- Tables as they are read.
use Rattle.std.proofs.Common.{◌≡◌, ◌+◌, ◌≤◌, ◌∙◌, ◌++◌, ◌∷◌, [], ℕ, Bool, List, Vec, ap, append-nil, append_assoc}
use Rattle.std.proofs.Common.{arith, if◌then◌else◌, false, filter, max, nat_lt, refl, set, subst, suc, sym}
use Rattle.std.proofs.Common.{true}
use Rattle.std.proofs.Common.{zero}
use Rattle.std.proofs.lemmas.Bool.Decides.{nat_tests}
use Rattle.std.proofs.lemmas.List.{map-append}
use Rattle.std.specs.declared.alloc.Global.{Global}
use Rattle.block_trait.specs.declared.options.RenderOptions.{RenderOptions}
use Rattle.column_fits.specs.declared.fit.ColumnFit.{ColumnFit}
use Rattle.content_widths.specs.Flows.{FlowItem}
use Rattle.render_sizes.proofs.SoundLemmas.{table_cells}
use Rattle.render_sizes.specs.Extents.{Measured, nothing_wide}
use Rattle.render_sizes.specs.RowCells.{cells_emitted, rows_emitted}
use Rattle.render_sizes.specs.Sound.{AreCells, AreTableCells, IsCell, IsSound}
use Rattle.render_sizes.specs.declared.extent.Extent.{Extent}
use Rattle.render_values.specs.declared.info.RenderInfo.{RenderInfo}
use Rattle.render_values.specs.declared.info.RenderInfo.TheVariants as infos
use Rattle.table_fits.specs.Pass.{TableRead, rows_begun, table_begun, table_ended, with_cell}
use Rattle.table_fits.specs.Seen.{IsTable, fits_seen}
use Rattle.table_fits.specs.declared.standing.Around.{Around}
use Rattle.table_fits.specs.declared.standing.Standing.{Standing}
use Rattle.table_fits.specs.declared.standing.Standing.TheVariants as stands_in
use Rattle.table_grid.specs.declared.cell.Cell.{Cell}
use Rattle.column_fits.specs.declared.cell.CellWidths.{CellWidths}
use Rattle.content_widths.specs.declared.widths.ContentWidths.{ContentWidths}
use Rattle.table_fits.specs.Flowing.{widths_of}
use Rattle.table_fits.specs.TableFits.{in_grid}
use Rattle.table_grid.specs.declared.grid.GridCell.{GridCell}

pub grid_next : (placed all : List CellWidths) (cells cells_left : List GridCell) (widths left : List ContentWidths)
    (g : GridCell) (w : ContentWidths) → cells ≡ g ∷ cells_left → widths ≡ w ∷ left
    → placed ++ in_grid cells widths ≡ all
    → (placed ++ record { first = g.first; last = g.last; narrowest = w.narrowest; widest = w.widest } ∷ [])
    ++ in_grid cells_left left ≡ all
grid_next placed all cells cells_left widths left g w e f h =
    append_assoc placed (record { first = g.first; last = g.last; narrowest = w.narrowest; widest = w.widest } ∷ [])
    (in_grid cells_left left)
    ∙ (ap (λ l. placed ++ in_grid l (w ∷ left)) (sym e) ∙ (ap (λ l. placed ++ in_grid cells l) (sym f) ∙ h))

pub grid_done : (placed all : List CellWidths) (cells : List GridCell) (widths : List ContentWidths)
    → cells ≡ [] → placed ++ in_grid cells widths ≡ all → placed ≡ all
grid_done placed all cells widths e h =
    sym (append-nil placed) ∙ (ap (λ l. placed ++ in_grid l widths) (sym e) ∙ h)

pub grid_over : (placed all : List CellWidths) (cells : List GridCell) (widths : List ContentWidths)
    → widths ≡ [] → placed ++ in_grid cells widths ≡ all → placed ≡ all
grid_over placed all cells widths e h = by cells (ap (λ l. placed ++ in_grid cells l) (sym e) ∙ h)
  where
    by : (cells : List GridCell) → placed ++ in_grid cells [] ≡ all → placed ≡ all
    by [] k = sym (append-nil placed) ∙ k
    by (g ∷ cells) k = sym (append-nil placed) ∙ k

-- ---- rows and cells

cells_up : (from to most : ℕ) (cells : List Cell) → to ≤ most → AreCells from to cells → AreCells from most cells
cells_up from to most [] h are = tt
cells_up from to most (c ∷ cells) h are = (
  record {
    trailing = are.0.trailing;
    within = let a = are.0.within in omega arith;
    some = are.0.some;
    tall = are.0.tall;
    content = are.0.content;
  },
  cells_up c.row to most cells h are.1,
)

cells_low : (low from to : ℕ) (cells : List Cell) → low ≤ from → AreCells from to cells → AreCells low to cells
cells_low low from to [] h are = tt
cells_low low from to (c ∷ cells) h are = (
  record {
    trailing = let a = are.0.trailing in omega arith;
    within = are.0.within;
    some = are.0.some;
    tall = are.0.tall;
    content = are.0.content;
  },
  are.1,
)

cells_more : (from to : ℕ) (cells : List Cell) (c : Cell) → from ≤ to → IsCell to to c → AreCells from to cells
    → AreCells from to (cells ++ c ∷ [])
cells_more from to [] c h is are = (
  record {
    trailing = let a = is.trailing in omega arith;
    within = is.within;
    some = is.some;
    tall = is.tall;
    content = is.content;
  },
  tt,
)
cells_more from to (x ∷ cells) c h is are = (are.0, cells_more x.row to cells c are.0.within is are.1)

few_rows : (info : RenderInfo) → rows_emitted info ≤ 1
few_rows infos.TableRow = omega arith
few_rows _ = omega arith

rows_begin : (among_rows : Bool) (info : RenderInfo) (n : ℕ) (t : TableRead) → IsTable n t
    → IsTable (n + 1) (rows_begun among_rows info t)
rows_begin false info n t h = record { cells = h.cells; few = let a = h.few in omega arith }
rows_begin true info n t h = record {
  cells = cells_up 1 t.rows (t.rows + rows_emitted info) t.cells (omega arith) h.cells;
  few = let a = h.few in let b = few_rows info in omega arith;
}

pub table_begins : (among_rows : Bool) (stands : Standing) (info : RenderInfo) (n m : ℕ) (t : TableRead) → m ≡ n + 1
    → IsTable n t → IsTable m (rows_begun among_rows info (table_begun stands t))
table_begins among_rows stands info n m t e h =
    subst (λ k. IsTable k (rows_begun among_rows info (table_begun stands t))) (sym e)
    (rows_begin among_rows info n (table_begun stands t) (by stands))
  where
    by : (stands : Standing) → IsTable n (table_begun stands t)
    by stands_in.Table = record { cells = tt; few = omega arith }
    by _ = h

pub rows_fit : (stands : Standing) (t : TableRead) (n : ℕ) → t.rows ≤ n → (table_begun stands t).rows ≤ n
rows_fit stands_in.Table t n h = omega arith
rows_fit _ t n h = h

with_cell_is : (among_rows : Bool) (info : RenderInfo) (e : Extent) (w : ContentWidths) (n : ℕ) (t : TableRead)
    → e.least ≤ e.size → IsTable n t → IsTable n (with_cell among_rows info e w t)
with_cell_is false info e w n t content h = h
with_cell_is true info e w n t content h = record { cells = by info; few = h.few }
  where
    one : (columns taken : ℕ) (b : Bool) → nat_lt 0 t.rows ≡ b → AreCells 1 t.rows (t.cells ++ cells_emitted
        (infos.TableCell columns taken) e t.rows)
    one columns taken true is = subst (λ b. AreCells 1 t.rows (t.cells ++ (if b then record {
      row = t.rows;
      colspan = max columns 1;
      rowspan = max taken 1;
      size = e.size;
      least = e.least;
    } ∷ [] else []))) (sym is) (cells_more 1 t.rows t.cells (record {
      row = t.rows;
      colspan = max columns 1;
      rowspan = max taken 1;
      size = e.size;
      least = e.least;
    }) (grind (arith, nat_tests)) (record {
      trailing = omega arith;
      within = omega arith;
      some = omega arith;
      tall = omega arith;
      content = content;
    }) h.cells)
    one columns taken false is = subst (λ b. AreCells 1 t.rows (t.cells ++ (if b then record {
      row = t.rows;
      colspan = max columns 1;
      rowspan = max taken 1;
      size = e.size;
      least = e.least;
    } ∷ [] else []))) (sym is) (subst (AreCells 1 t.rows) (sym (append-nil t.cells)) h.cells)

    by : (info : RenderInfo) → AreCells 1 t.rows (t.cells ++ cells_emitted info e t.rows)
    by (infos.TableCell columns taken) = one columns taken (nat_lt 0 t.rows) refl
    by _ = subst (AreCells 1 t.rows) (sym (append-nil t.cells)) h.cells

more_passed : (n m : ℕ) (t : TableRead) → n ≤ m → IsTable n t → IsTable m t
more_passed n m t h is = record { cells = is.cells; few = let a = is.few in omega arith }

pub table_ends : (options : RenderOptions) (around : Around) (stands : Standing) (info : RenderInfo) (e : Extent)
    (outer t : TableRead) (inside : List FlowItem) (before passed n : ℕ) → e.least ≤ e.size → before ≤ passed
    → n ≡ passed → IsTable before outer → IsTable passed t
    → IsTable n (table_ended options around stands info e outer inside t)
table_ends options around stands info e outer t inside before passed n content order same was is =
    subst (λ k. IsTable k (table_ended options around stands info e outer inside t)) (sym same) (by stands)
  where
    by : (stands : Standing) → IsTable passed (table_ended options around stands info e outer inside t)
    by stands_in.Table = more_passed before passed outer order was
    by stands_in.Cell = with_cell_is around.among_rows info e (widths_of options inside) passed t content is
    by _ = is

-- ---- cells of a grid

all_begun : (from to : ℕ) (cells : List Cell) → 1 ≤ from → AreCells from to cells
    → filter (λ (c : Cell). nat_lt 0 c.row) cells ≡ cells
all_begun from to [] h are = refl
all_begun from to (c ∷ cells) h are =
    let a = are.0.trailing in
    let begun : nat_lt 0 c.row ≡ true = grind (arith, nat_tests) in
    ap (λ b. if b then c ∷ filter (λ (x : Cell). nat_lt 0 x.row) cells else filter (λ
    (x : Cell). nat_lt 0 x.row) cells) begun
    ∙ ap (λ l. c ∷ l) (all_begun c.row to cells (omega arith) are.1)

pub cells_of_table : (rows : ℕ) (cells seen : List Cell) → seen ≡ cells → AreCells 1 rows cells
    → AreTableCells seen rows
cells_of_table rows cells seen e are =
    let x : Measured = record { extent = nothing_wide; rows = rows; cells = cells } in
    let sound : IsSound x = record {
      content = omega arith;
      fits = omega arith;
      cells = cells_low 0 1 rows cells (omega arith) are;
    } in
    subst (λ l. AreTableCells l rows) (all_begun 1 rows cells (omega arith) are ∙ sym e) (table_cells x sound)

-- ---- what columns ask for

pub fits_set : (fits : List (Vec ColumnFit Global)) (at : ℕ) (v : Vec ColumnFit Global)
    → fits_seen (set fits at v) ≡ set (fits_seen fits) at v.items
fits_set [] at v = refl
fits_set (f ∷ fits) zero v = refl
fits_set (f ∷ fits) (suc at) v = ap (λ l. f.items ∷ l) (fits_set fits at v)

pub begun_fits : (fits new : List (Vec ColumnFit Global)) (v : Vec ColumnFit Global) (seen : List (List ColumnFit))
    → new ≡ fits ++ v ∷ [] → v.items ≡ [] → fits_seen fits ≡ seen → fits_seen new ≡ seen ++ [] ∷ []
begun_fits fits new v seen pushed empty are =
    ap fits_seen pushed ∙ (map-append (λ (x : Vec ColumnFit Global). x.items) fits (v ∷ [])
    ∙ (ap (λ l. l ++ v.items ∷ []) are ∙ ap (λ e. seen ++ e ∷ []) empty))
