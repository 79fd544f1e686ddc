-- What contracts see of the pass.
use Rattle.std.specs.Prelude.{◌≡◌, ◌≤◌, ℕ, true, List, None, Option, Some, Vec, length, map}
use Rattle.std.specs.declared.alloc.Global.{Global}
use Rattle.block_trait.specs.declared.options.RenderOptions.{RenderOptions}
use Rattle.column_fits.specs.declared.fit.ColumnFit.{ColumnFit}
use Rattle.content_widths.specs.Flows.{FlowItem}
use Rattle.content_widths.specs.Reading.{Measures}
use Rattle.content_widths.specs.declared.flow.FlowWidths.{FlowWidths}
use Rattle.render_sizes.specs.Sound.{AreCells}
use Rattle.table_fits.specs.Pass.{State, TableRead, is_own}
use Rattle.table_fits.specs.declared.values.Kept.{Kept}
use Rattle.table_fits.specs.declared.standing.Around.{Around}
use Rattle.table_fits.specs.declared.standing.Standing.{Standing}
use Rattle.table_fits.specs.declared.standing.Standing.TheVariants.{Table}
use Rattle.table_fits.specs.declared.reading.OpenTable.{OpenTable}
use Rattle.table_fits.specs.declared.reading.Reading.{Reading}

abbrev pub fits_seen : List (Vec ColumnFit Global) → List (List ColumnFit)
fits_seen fits = map (λ v. v.items) fits

abbrev pub table_seen : OpenTable → TableRead
table_seen t = record { rows = t.rows; cells = t.cells.items; widths = t.widths.items }

-- a flow is measured, if there is one
abbrev pub FlowIs : RenderOptions → Option FlowWidths → Option (List FlowItem) → Type 0
FlowIs options None None = Unit {0}
FlowIs options None (Some items) = ⊥
FlowIs options (Some flow) None = ⊥
FlowIs options (Some flow) (Some items) = Measures flow options.wrap_width items

-- cells in rows from the first on, each in the last that had begun, and no more rows than values were passed
pub record IsTable (passed : ℕ) (t : TableRead) : Type 0 where
  pub cells : AreCells 1 t.rows t.cells
  pub few : t.rows ≤ passed

pub record IsPassing (options : RenderOptions) (r : Reading) (s : State) : Type 0 where
  pub flow : FlowIs options r.flow s.flow
  pub table : table_seen r.table ≡ s.table
  pub fits : fits_seen r.fits.items ≡ s.fits
  pub is_table : IsTable (length s.fits) s.table

-- what is kept of what was around a value that ends at a place: its flow, where the value has one of its own, and its
-- table, where the value is one
pub record IsKept (options : RenderOptions) (around : Around) (stands : Standing) (kept : Kept) (s : State) : Type 0
  where
    pub flow : is_own around.prefix stands ≡ true → FlowIs options kept.flow s.flow
    pub table : stands ≡ Table → table_seen kept.table ≡ s.table
    pub is_table : IsTable (length s.fits) s.table
