-- How many columns values take and ask for.
use Rattle.std.specs.Prelude.{List, Option}
use Rattle.std.specs.Option.{option_map}
use Rattle.block_trait.specs.declared.options.RenderOptions.{RenderOptions}
use Rattle.column_fits.specs.declared.fit.ColumnFit.{ColumnFit}
use Rattle.render_sizes.specs.Extents.{Measure}
use Rattle.render_values.specs.Values.{Values}
use Rattle.render_values.specs.declared.info.Head.{Head}
use Rattle.table_fits.specs.Flowing.{fitting, mode_in}
use Rattle.table_fits.specs.TableFits.{fits_of_value, table_fits}
use Rattle.text_pieces.specs.declared.white_space.WhiteSpace.{WhiteSpace}

-- `measure` says how many columns values ask for. Where columns of tables are fitted, they are so for a page that is
-- rendered with these options. `mode` is that of white space around the values.
pub record Sizing : Type 0 where
  pub measure : Measure
  pub fitted : Option RenderOptions
  pub mode : WhiteSpace

-- around values where that mode is in force
abbrev pub in_mode : Sizing → WhiteSpace → Sizing
in_mode w mode = record { measure = w.measure; fitted = w.fitted; mode = mode }

-- around what stands in a value
abbrev pub within : Sizing → Head → Sizing
within w head = in_mode w (mode_in w.mode head)

-- what the columns of a value ask for that is a table, where they are fitted
abbrev pub fits_in : Sizing → Head → (inside : Values) → Option (List ColumnFit)
fits_in w head inside = option_map (λ options. fits_of_value (fitting options w.measure) w.mode head inside) w.fitted

-- of each value, in the order of their nodes
abbrev pub all_fits : Sizing → Values → Option (List (List ColumnFit))
all_fits w values = option_map (λ options. table_fits (fitting options w.measure) w.mode values) w.fitted
