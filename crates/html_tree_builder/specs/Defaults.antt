-- The options of a parser that nothing else is said of.
use Rattle.token_grammar.specs.FirstMode.{default_options as default_reading}
use Rattle.html_tree_builder.specs.declared.options.ParseOpts.{ParseOpts}
use Rattle.rules_table.specs.Defaults.{default_options as default_building}

abbrev pub default_parse : ParseOpts
default_parse = record { tokenizer = default_reading; tree_builder = default_building }
