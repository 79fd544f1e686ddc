-- How text is rendered where nothing else is asked for.
use Rattle.std.specs.Prelude.{true, false, None}
use Rattle.block_trait.specs.declared.options.RenderOptions.{RenderOptions}
use Rattle.block_trait.specs.declared.options.ImageRenderMode.TheVariants.{IgnoreEmpty}

abbrev pub default_options : RenderOptions
default_options = record {
  wrap_width = None;
  allow_width_overflow = false;
  pad_block_width = false;
  raw = false;
  draw_borders = true;
  fence_tables = false;
  fit_columns = false;
  wrap_links = true;
  include_link_footnotes = false;
  shared_footnotes = false;
  printable_targets = false;
  use_unicode_strikeout = true;
  img_mode = IgnoreEmpty;
}
