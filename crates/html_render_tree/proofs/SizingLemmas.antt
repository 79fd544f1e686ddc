-- Where columns of tables are fitted, and where they are not.
use Rattle.std.proofs.Common.{◌≡◌, if◌then◌else◌, List, None, Option, Some, ap, false, sym, true}
use Rattle.std.specs.Option.{option_map}
use Rattle.block_trait.specs.declared.options.RenderOptions.{RenderOptions}
use Rattle.column_fits.specs.declared.fit.ColumnFit.{ColumnFit}
use Rattle.html_render_tree.specs.PageLines.{sizing_by}
use Rattle.layout_values.specs.Sizing.{all_fits}
use Rattle.render_sizes.specs.Extents.{Measure}
use Rattle.render_values.specs.Values.{Values}
use Rattle.table_fits.specs.Flowing.{fitting}
use Rattle.table_fits.specs.TableFits.{table_fits}
use Rattle.text_pieces.specs.declared.white_space.WhiteSpace.TheVariants.{Normal}

pub unfitted : (o : RenderOptions) (w : Measure) (values : Values) → o.fit_columns ≡ false
    → ◌≡◌ {A = Option (List (List ColumnFit))} None (all_fits (sizing_by o w) values)
unfitted o w values off = ap (λ b. option_map (λ options. table_fits (fitting options w) Normal values)
    (if b then Some o else None)) (sym off)

pub fitted : (o : RenderOptions) (w : Measure) (values : Values) → o.fit_columns ≡ true
    → Some (table_fits (fitting o w) Normal values) ≡ all_fits (sizing_by o w) values
fitted o w values on = ap (λ b. option_map (λ options. table_fits (fitting options w) Normal values)
    (if b then Some o else None)) (sym on)
