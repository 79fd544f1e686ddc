-- What columns ask for is sound.
use Rattle.std.proofs.Common.{◌≡◌, ◌∙◌, IfSome, List, None, Option, Some, ap, subst, sym}
use Rattle.std.specs.Option.{option_map}
use Rattle.block_trait.specs.declared.options.RenderOptions.{RenderOptions}
use Rattle.column_fits.specs.Across.{AreFits}
use Rattle.column_fits.specs.declared.fit.ColumnFit.{ColumnFit}
use Rattle.content_widths.specs.declared.widths.ContentWidths.{ContentWidths}
use Rattle.layout_values.specs.Lay.{table_of}
use Rattle.layout_values.specs.Sizing.{Sizing, fits_in}
use Rattle.render_sizes.specs.Extents.{Measure, in_rows, measured, table_in}
use Rattle.render_values.specs.Values.{Values}
use Rattle.render_values.specs.declared.info.Head.{Head}
use Rattle.render_values.specs.declared.info.RenderInfo.{RenderInfo}
use Rattle.render_values.specs.declared.info.RenderInfo.TheVariants as infos
use Rattle.table_fits.specs.Flowing.{fitting}
use Rattle.table_fits.specs.TableFits.{RowWidths, fits_by, fits_in_grid, fits_of_value}
use Rattle.table_grid.specs.TheGrid.{grid}
use Rattle.table_widths.specs.Slots.{Table}

-- what is known of the columns of every table
abbrev pub FitsLaw : Type 0
FitsLaw = (w : Measure) (inside : Values) (widths : List ContentWidths)
    → AreFits (grid (in_rows (measured w inside))).columns (fits_in_grid (grid (in_rows (measured w inside))) widths)

by_info : FitsLaw → (options : RenderOptions) (w : Measure) (info : RenderInfo) (inside : Values)
    (cells : List RowWidths)
    → AreFits (table_of w info inside).columns (fits_by (fitting options w) info inside cells)
by_info law options w infos.Nothing inside cells = tt
by_info law options w (infos.Text cs) inside cells = tt
by_info law options w (infos.Image source title) inside cells = tt
by_info law options w infos.Break inside cells = tt
by_info law options w infos.Rule inside cells = tt
by_info law options w infos.Container inside cells = tt
by_info law options w (infos.Link target) inside cells = tt
by_info law options w infos.Emphasis inside cells = tt
by_info law options w infos.Strong inside cells = tt
by_info law options w infos.Strikeout inside cells = tt
by_info law options w infos.Code inside cells = tt
by_info law options w infos.Superscript inside cells = tt
by_info law options w infos.Block inside cells = tt
by_info law options w infos.Division inside cells = tt
by_info law options w (infos.Heading level) inside cells = tt
by_info law options w infos.Quote inside cells = tt
by_info law options w infos.Preformatted inside cells = tt
by_info law options w infos.Bullets inside cells = tt
by_info law options w (infos.Numbers first) inside cells = tt
by_info law options w infos.Descriptions inside cells = tt
by_info law options w infos.Details inside cells = tt
by_info law options w infos.Term inside cells = tt
by_info law options w infos.Table inside cells = law w inside _
by_info law options w infos.TableGroup inside cells = tt
by_info law options w infos.TableRow inside cells = tt
by_info law options w (infos.TableCell columns taken) inside cells = tt

-- each column of a value that is a table asks for something; of others nothing is asked
pub content_fits : FitsLaw → (w : Sizing) (head : Head) (inside : Values)
    → IfSome (fits_in w head inside) (AreFits (table_of w.measure head.info inside).columns)
content_fits law w head inside = by w.fitted
  where
    by : (o : Option RenderOptions)
        → IfSome (option_map (λ options. fits_of_value (fitting options w.measure) w.mode head inside) o)
        (AreFits (table_of w.measure head.info inside).columns)
    by None = tt
    by (Some options) = by_info law options w.measure head.info inside _

pub columns_fit : FitsLaw → (w : Sizing) (head : Head) (inside : Values) → head.info ≡ infos.Table → (t : Table)
    (fits : Option (List ColumnFit)) → t ≡ table_in w.measure inside → fits ≡ fits_in w head inside
    → IfSome fits (AreFits t.columns)
columns_fit law w head inside is t fits same found =
    subst (λ (f : Option (List ColumnFit)). IfSome f (AreFits t.columns)) (sym found)
    (subst (λ (u : Table). IfSome (fits_in w head inside) (AreFits u.columns))
    (ap (λ i. table_of w.measure i inside) is ∙ sym same) (content_fits law w head inside))
