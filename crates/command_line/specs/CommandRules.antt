-- What clap reads of this program's command.
use Rattle.std.specs.Prelude.{ℕ, List, pos, true, Some, codes}
use Rattle.clap.specs.Words.{App, Rule, new_app, new_rule, with_rule}
use Rattle.clap.specs.declared.builder.action.ArgAction.TheVariants.{Set, SetTrue}
use Rattle.clap.specs.declared.builder.value_parser.ValueParser.TheVariants as vp

-- an option with a number from 0 to the most in 32 bits
abbrev pub number_rule : List ℕ → Rule
number_rule name = record (new_rule name) {
  long = Some name;
  value_names = 1;
  action = Some Set;
  parser = Some (vp.Signed (pos 0) (pos 4294967295));
}

-- one with a text
abbrev pub text_rule : List ℕ → Rule
text_rule name = record (new_rule name) { long = Some name; value_names = 1; action = Some Set }

-- one without a value
abbrev pub flag_rule : List ℕ → Rule
flag_rule name = record (new_rule name) { long = Some name; action = Some SetTrue }

-- a text without an option
abbrev pub file_rule : Rule
file_rule = record (new_rule (codes "file")) { value_names = 1; action = Some Set }

abbrev pub without_rules : App
without_rules = record (new_app (codes "html2text")) {
  top = record (new_app (codes "html2text")).top { no_binary_name = true };
}

abbrev pub with_numbers : App
with_numbers = with_rule (with_rule without_rules (number_rule (codes "width"))) (number_rule (codes "max-bytes"))

abbrev pub with_flags : App
with_flags = with_rule (with_rule (with_rule (with_rule with_numbers (flag_rule (codes "rich")))
    (flag_rule (codes "no-decorate"))) (flag_rule (codes "footnotes"))) (flag_rule (codes "shared-footnotes"))

abbrev pub program : App
program = with_rule (with_rule with_flags (text_rule (codes "references"))) file_rule
