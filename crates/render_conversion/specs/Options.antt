-- How pages are converted where nothing else is asked for.
use Rattle.std.specs.Prelude.{Bool, false, if◌then◌else◌}
use Rattle.render_conversion.specs.declared.options.ConversionOptions.{ConversionOptions}
use Rattle.render_conversion.specs.declared.options.Pages.{Pages}
use Rattle.render_conversion.specs.declared.options.Pages.TheVariants.{Complete, Plain}

abbrev pub default_conversion : ConversionOptions
default_conversion = record { pages = Plain; skip_hidden = false }

abbrev pub pages_of : (complete : Bool) → Pages
pages_of complete = if complete then Complete else Plain
