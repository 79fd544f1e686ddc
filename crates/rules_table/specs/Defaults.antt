-- The options of a tree builder that nothing else is said of.
use Rattle.std.specs.Prelude.{false, true}
use Rattle.tree_forest.specs.declared.sink.QuirksMode.TheVariants.{NoQuirks}
use Rattle.rules_table.specs.declared.options.TreeBuilderOpts.{TreeBuilderOpts}

abbrev pub default_options : TreeBuilderOpts
default_options = record {
  exact_errors = false;
  scripting_enabled = true;
  iframe_srcdoc = false;
  drop_doctype = false;
  quirks_mode = NoQuirks;
}
