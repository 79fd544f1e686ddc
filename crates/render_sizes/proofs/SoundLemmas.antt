-- What is measured is sound.
use Rattle.std.proofs.Common.{◌≡◌, ◌+◌, ◌-◌, ◌^◌, ◌<◌, ◌≤◌, [], ◌∷◌, ◌++◌, All, List, arith, filter, get_or, length}
use Rattle.std.proofs.Common.{map, nat_lt, suc, true, zero, ℕ}
use Rattle.std.specs.List.Sorted.{IsNonDecreasingBy}
use Rattle.std.proofs.lemmas.Bool.Decides.{nat_tests}
use Rattle.std.proofs.lemmas.List.Elements.{All-cons, All-filter, All-nil, All-weaker, filter_passes}
use Rattle.std.proofs.lemmas.List.Kept.{IsNonDecreasingBy-filter}
use Rattle.table_widths.specs.Shares.{AreSized, table_asks, total_of}
use Rattle.render_values.specs.Values.{Values, none, value}
use Rattle.render_values.specs.declared.info.RenderInfo.{RenderInfo}
use Rattle.render_values.specs.declared.info.RenderInfo.TheVariants as infos
use Rattle.render_sizes.specs.Extents.{Measure, Measured, beside, capped, cells_by, extent_by, in_rows, lowered}
use Rattle.render_sizes.specs.Extents.{measured, measured_by, number, rows_by, then_measured}
use Rattle.render_sizes.specs.Sound.{AreCells, AreTableCells, IsCell, IsSound}
use Rattle.render_sizes.specs.TextSizes.{text_size}
use Rattle.render_sizes.specs.declared.extent.Extent.{Extent}
use Rattle.table_grid.specs.TheGrid.{grid}
use Rattle.table_grid.specs.declared.columns.Column.{Column}
use Rattle.table_grid.specs.declared.cell.Cell.{Cell}

abbrev row_of : Cell → ℕ
row_of c = c.row

cell_kept : (from to low high : ℕ) (c : Cell) → low ≤ from → to ≤ high → IsCell from to c → IsCell low high c
cell_kept from to low high c le more h = record {
  trailing = let a = h.trailing in omega arith;
  within = let a = h.within in omega arith;
  some = h.some;
  tall = h.tall;
  content = h.content;
}

cells_kept : (from to low high : ℕ) (cells : List Cell) → low ≤ from → to ≤ high → AreCells from to cells
    → AreCells low high cells
cells_kept from to low high [] le more h = tt
cells_kept from to low high (c ∷ cells) le more h = (
  cell_kept from to low high c le more h.0,
  cells_kept c.row to c.row high cells (omega arith) more h.1,
)

cells_then : (from between to : ℕ) (a b : List Cell) → from ≤ between → between ≤ to → AreCells from between a
    → AreCells between to b → AreCells from to (a ++ b)
cells_then from between to [] b le more h k = cells_kept between to from to b le (omega arith) k
cells_then from between to (c ∷ a) b le more h k = (
  cell_kept from between from to c (omega arith) more h.0,
  cells_then c.row between to a b (let w = h.0.within in omega arith) more h.1 k,
)

cells_lowered : (n from to low high : ℕ) (cells : List Cell) → low ≤ n + from → n + to ≤ high → AreCells from to cells
    → AreCells low high (map (lowered n) cells)
cells_lowered n from to low high [] le more h = tt
cells_lowered n from to low high (c ∷ cells) le more h = (
  record {
    trailing = let a = h.0.trailing in omega arith;
    within = let a = h.0.within in omega arith;
    some = h.0.some;
    tall = h.0.tall;
    content = h.0.content;
  },
  cells_lowered n c.row to (n + c.row) high cells (omega arith) more h.1,
)

-- ---- of what stands in a value

abbrev TablesAsk : Type 0
TablesAsk = (columns : List Column) → All (λ c. c.least ≤ c.size) columns
    → (table_asks columns).least ≤ (table_asks columns).size

abbrev GridsAreSized : Type 0
GridsAreSized = (cells : List Cell) → IsNonDecreasingBy (λ c. c.row) cells → All (λ c. 0 < c.colspan) cells
    → All (λ c. c.least ≤ c.size) cells
    → All (λ c. 0 < c.size) (grid cells).columns × All (λ c. c.least ≤ c.size) (grid cells).columns

by_cell : (from to : ℕ) (P : Cell → Type 0) → ((low : ℕ) (c : Cell) → IsCell low to c → P c) → (cells : List Cell)
    → AreCells from to cells → All P cells
by_cell from to P says [] h = All-nil P
by_cell from to P says (c ∷ cells) h = All-cons P c cells (says from c h.0) (by_cell c.row to P says cells h.1)

rows_rise : (from to : ℕ) (cells : List Cell) → AreCells from to cells → IsNonDecreasingBy (λ c. c.row) cells
rows_rise from to [] h i j d le lt = absurd (omega arith)
rows_rise from to (c ∷ cells) h zero zero d le lt = omega arith
rows_rise from to (c ∷ cells) h zero (suc j) d le lt = above c.row cells h.1 j (omega arith)
  where
    above : (low : ℕ) (xs : List Cell) → AreCells low to xs → (k : ℕ) → k < length xs → low ≤ (get_or xs k d).row
    above low [] g k lt = absurd (omega arith)
    above low (x ∷ xs) g zero lt = g.0.trailing
    above low (x ∷ xs) g (suc k) lt =
        let a = g.0.trailing in let b = above x.row xs g.1 k (omega arith) in omega arith
rows_rise from to (c ∷ cells) h (suc i) zero d le lt = absurd (omega arith)
rows_rise from to (c ∷ cells) h (suc i) (suc j) d le lt =
    rows_rise c.row to cells h.1 i j d (omega arith) (omega arith)

pub table_cells : (x : Measured) → IsSound x → AreTableCells (in_rows x) x.rows
table_cells x h =
    let stands = λ (c : Cell). nat_lt 0 c.row in
    record {
      rows = IsNonDecreasingBy-filter row_of stands x.cells (rows_rise 0 x.rows x.cells h.cells);
      some = All-filter stands (λ c. 0 < c.colspan) x.cells
          (by_cell 0 x.rows (λ c. 0 < c.colspan) (λ low c k. k.some) x.cells h.cells);
      tall = All-filter stands (λ c. 0 < c.rowspan) x.cells
          (by_cell 0 x.rows (λ c. 0 < c.rowspan) (λ low c k. k.tall) x.cells h.cells);
      content = All-filter stands (λ c. c.least ≤ c.size) x.cells
          (by_cell 0 x.rows (λ c. c.least ≤ c.size) (λ low c k. k.content) x.cells h.cells);
      begun = All-weaker (λ (c : Cell). nat_lt 0 c.row ≡ true) (λ c. 0 < c.row) (λ c e. grind (arith, nat_tests))
          (filter stands x.cells) (filter_passes stands x.cells);
      within = All-filter stands (λ c. c.row ≤ x.rows) x.cells
          (by_cell 0 x.rows (λ c. c.row ≤ x.rows) (λ low c k. k.within) x.cells h.cells);
    }

pub sized_columns : GridsAreSized → (x : Measured) → IsSound x → AreSized (grid (in_rows x)).columns
sized_columns grids x h =
    let cells = table_cells x h in
    let both = grids (in_rows x) cells.rows cells.some cells.content in
    record { some = both.0; within = both.1 }

content_by : TablesAsk → GridsAreSized → (m : Measure) (info : RenderInfo) (x : Measured) (items : ℕ) → IsSound x
    → (extent_by m info x items).least ≤ (extent_by m info x items).size
content_by asks grids m infos.Nothing x items h = omega arith
content_by asks grids m (infos.Text cs) x items h = omega arith
content_by asks grids m (infos.Image source title) x items h = omega arith
content_by asks grids m infos.Break x items h = omega arith
content_by asks grids m infos.Rule x items h = omega arith
content_by asks grids m (infos.Link target) x items h = let a = h.content in omega arith
content_by asks grids m (infos.Heading level) x items h = let a = h.content in omega arith
content_by asks grids m infos.Quote x items h = let a = h.content in omega arith
content_by asks grids m infos.Bullets x items h = let a = h.content in omega arith
content_by asks grids m (infos.Numbers from) x items h = let a = h.content in omega arith
content_by asks grids m infos.Details x items h = let a = h.content in omega arith
content_by asks grids m infos.Table x items h = asks (grid (in_rows x)).columns (sized_columns grids x h).within
content_by asks grids m _ x items h = h.content

cells_sound : (info : RenderInfo) (x : Measured) → IsSound x → AreCells 0 (rows_by info x) (cells_by info x)
cells_sound infos.TableGroup x h = h.cells
cells_sound infos.TableRow x h = cells_lowered 1 0 x.rows 0 (suc x.rows) x.cells (omega arith) (omega arith) h.cells
cells_sound (infos.TableCell columns taken) x h = (
  record {
    trailing = omega arith;
    within = omega arith;
    some = omega arith;
    tall = omega arith;
    content = h.content;
  },
  tt,
)
cells_sound _ x h = tt

capped_fits : (n : ℕ) → capped n ≤ 2 ^ 64 - 1
capped_fits n = omega arith

size_fits : (m : Measure) (info : RenderInfo) (x : Measured) (items : ℕ) → IsSound x
    → (extent_by m info x items).size ≤ 2 ^ 64 - 1
size_fits m infos.Nothing x items h = omega arith
size_fits m (infos.Text cs) x items h = capped_fits (text_size cs)
size_fits m (infos.Image source title) x items h = capped_fits (text_size title + 2)
size_fits m infos.Break x items h = omega arith
size_fits m infos.Rule x items h = omega arith
size_fits m (infos.Link target) x items h = capped_fits (x.extent.size + 5)
size_fits m (infos.Heading level) x items h = capped_fits (x.extent.size + m.prefixes.heading level)
size_fits m infos.Quote x items h = capped_fits (x.extent.size + m.prefixes.quote)
size_fits m infos.Bullets x items h = capped_fits (x.extent.size + m.prefixes.bullet)
size_fits m (infos.Numbers from) x items h = capped_fits (x.extent.size + m.prefixes.numbers from items)
size_fits m infos.Details x items h = capped_fits (x.extent.size + 2)
size_fits m infos.Table x items h =
    let columns = (grid (in_rows x)).columns in
    capped_fits (total_of columns + (length columns - 1))
size_fits m _ x items h = h.fits

-- ---- of all values

beside_content : (a b : Extent) → a.least ≤ a.size → b.least ≤ b.size → a.size ≤ 2 ^ 64 - 1 → b.size ≤ 2 ^ 64 - 1
    → (beside a b).least ≤ (beside a b).size
beside_content a b h k fits too = omega arith

then_sound : (a b : Measured) → IsSound a → IsSound b → IsSound (then_measured a b)
then_sound a b h k = record {
  content = beside_content a.extent b.extent h.content k.content h.fits k.fits;
  fits = capped_fits (a.extent.size + b.extent.size);
  cells = cells_then 0 a.rows (a.rows + b.rows) a.cells (map (lowered a.rows) b.cells) (omega arith) (omega arith)
      h.cells (cells_lowered a.rows 0 b.rows a.rows (a.rows + b.rows) b.cells (omega arith) (omega arith) k.cells);
}

by_sound : TablesAsk → GridsAreSized → (m : Measure) (info : RenderInfo) (x : Measured) (items : ℕ) → IsSound x
    → IsSound (measured_by m info x items)
by_sound asks grids m info x items h = record {
  content = content_by asks grids m info x items h;
  fits = size_fits m info x items h;
  cells = cells_sound info x h;
}

pub all_sound : TablesAsk → GridsAreSized → (m : Measure) (values : Values) → IsSound (measured m values)
all_sound asks grids m none = record { content = omega arith; fits = omega arith; cells = tt }
all_sound asks grids m (value head inside rest) =
    then_sound (measured_by m head.info (measured m inside) (number inside)) (measured m rest)
    (by_sound asks grids m head.info (measured m inside) (number inside) (all_sound asks grids m inside))
    (all_sound asks grids m rest)
