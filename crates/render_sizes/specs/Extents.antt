-- How many columns values take: on one line, and at least.
use Rattle.std.specs.Prelude.{ℕ, suc, ◌+◌, ◌-◌, ◌^◌, List, [], ◌∷◌, ◌++◌, filter, map, max, min, nat_lt, ℤ}
use Rattle.table_widths.specs.Shares.{table_asks}
use Rattle.table_grid.specs.TheGrid.{grid}
use Rattle.table_grid.specs.declared.columns.Column.{Column}
use Rattle.table_grid.specs.declared.cell.Cell.{Cell}
use Rattle.table_widths.specs.Slots.{Table, table}
use Rattle.render_values.specs.Values.{Values, none, value}
use Rattle.render_values.specs.declared.info.Head.{Head}
use Rattle.render_values.specs.declared.info.RenderInfo.{RenderInfo}
use Rattle.render_values.specs.declared.info.RenderInfo.TheVariants as infos
use Rattle.render_sizes.specs.TextSizes.{text_size}
use Rattle.render_sizes.specs.declared.extent.Extent.{Extent}

-- the columns of prefixes: of a heading by its level, of a list with numbers by the first and how many there are
pub record PrefixColumns : Type 0 where
  pub heading : ℕ → ℕ
  pub quote : ℕ
  pub bullet : ℕ
  pub numbers : ℤ → ℕ → ℕ

-- what columns depend on: so narrow may text be wrapped, and the prefixes
pub record Measure : Type 0 where
  pub min_wrap : ℕ
  pub prefixes : PrefixColumns

abbrev pub measure_of : (min_wrap : ℕ) → PrefixColumns → Measure
measure_of min_wrap prefixes = record { min_wrap = min_wrap; prefixes = prefixes }

-- a sum stops at the greatest number of 64 bits
abbrev pub capped : ℕ → ℕ
capped n = min n (2 ^ 64 - 1)

abbrev pub nothing_wide : Extent
nothing_wide = record { size = 0; least = 0 }

-- side by side sizes add up, and the greatest least holds
abbrev pub beside : Extent → Extent → Extent
beside a b = record { size = capped (a.size + b.size); least = max a.least b.least }

-- after a prefix
abbrev pub prefixed : ℕ → Extent → Extent
prefixed n e = record { size = capped (e.size + n); least = capped (e.least + n) }

abbrev pub of_columns : (min_wrap : ℕ) → ℕ → Extent
of_columns min_wrap n = record { size = n; least = min n min_wrap }

-- how many stand side by side
abbrev pub number : Values → ℕ
number none = 0
number (value head inside rest) = suc (number rest)

-- What is measured of values side by side: their columns, how many rows of a table are among them, and its cells, each
-- with the number of its row, from 1 on.
pub record Measured : Type 0 where
  pub extent : Extent
  pub rows : ℕ
  pub cells : List Cell

abbrev pub nothing_measured : Measured
nothing_measured = record { extent = nothing_wide; rows = 0; cells = [] }

-- so many rows further down
abbrev pub lowered : ℕ → Cell → Cell
lowered n c =
    record { row = n + c.row; colspan = c.colspan; rowspan = c.rowspan; size = c.size; least = c.least }

abbrev pub then_measured : Measured → Measured → Measured
then_measured a b = record {
  extent = beside a.extent b.extent;
  rows = a.rows + b.rows;
  cells = a.cells ++ map (lowered a.rows) b.cells;
}

-- the cells that stand in rows
abbrev pub in_rows : Measured → List Cell
in_rows inside = filter (λ c. nat_lt 0 c.row) inside.cells

-- a table asks for what its columns ask for together, separators included
abbrev pub table_extent : List Column → Extent
table_extent columns = record { size = (table_asks columns).size; least = (table_asks columns).least }

-- of a value by what is measured in it: an image adds 2 to its title, a link 5 to its size, a description two spaces
abbrev pub extent_by : Measure → RenderInfo → (inside : Measured) → (items : ℕ) → Extent
extent_by m infos.Nothing inside items = nothing_wide
extent_by m (infos.Text cs) inside items = of_columns m.min_wrap (capped (text_size cs))
extent_by m (infos.Image source title) inside items = of_columns m.min_wrap (capped (text_size title + 2))
extent_by m infos.Break inside items = record { size = 1; least = 1 }
extent_by m infos.Rule inside items = record { size = 1; least = 1 }
extent_by m (infos.Link target) inside items =
    record { size = capped (inside.extent.size + 5); least = inside.extent.least }
extent_by m (infos.Heading level) inside items = prefixed (m.prefixes.heading level) inside.extent
extent_by m infos.Quote inside items = prefixed m.prefixes.quote inside.extent
extent_by m infos.Bullets inside items = prefixed m.prefixes.bullet inside.extent
extent_by m (infos.Numbers first) inside items = prefixed (m.prefixes.numbers first items) inside.extent
extent_by m infos.Details inside items = prefixed 2 inside.extent
extent_by m infos.Table inside items = table_extent (grid (in_rows inside)).columns
extent_by m _ inside items = inside.extent

-- the rows of a table are those of its groups, the cells of a row those in it
abbrev pub rows_by : RenderInfo → (inside : Measured) → ℕ
rows_by infos.TableGroup inside = inside.rows
rows_by infos.TableRow inside = suc inside.rows
rows_by _ inside = 0

abbrev pub cells_by : RenderInfo → (inside : Measured) → List Cell
cells_by infos.TableGroup inside = inside.cells
cells_by infos.TableRow inside = map (lowered 1) inside.cells
cells_by (infos.TableCell columns rows) inside = record {
  row = 0;
  colspan = max columns 1;
  rowspan = max rows 1;
  size = inside.extent.size;
  least = inside.extent.least;
} ∷ []
cells_by _ inside = []

abbrev pub measured_by : Measure → RenderInfo → (inside : Measured) → (items : ℕ) → Measured
measured_by m info inside items =
    record { extent = extent_by m info inside items; rows = rows_by info inside; cells = cells_by info inside }

abbrev pub measured : Measure → Values → Measured
measured m none = nothing_measured
measured m (value head inside rest) =
    then_measured (measured_by m head.info (measured m inside) (number inside)) (measured m rest)

abbrev pub extent : Measure → Values → Extent
extent m values = (measured m values).extent

-- of a value with what stands in it
abbrev pub extent_of : Measure → Head → (inside : Values) → Extent
extent_of m head inside = extent_by m head.info (measured m inside) (number inside)

-- of each value, in the order of their nodes
abbrev pub extents : Measure → Values → List Extent
extents m none = []
extents m (value head inside rest) = extent_of m head inside ∷ extents m inside ++ extents m rest

-- of the first
abbrev pub first_extent : Measure → Values → Extent
first_extent m none = nothing_wide
first_extent m (value head inside rest) = extent_of m head inside

-- the table that values are in which its rows stand
abbrev pub table_in : Measure → Values → Table
table_in m inside = table (in_rows (measured m inside)) (measured m inside).rows
