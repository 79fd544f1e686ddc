-- Classes of characters that slices are made of.
use Rattle.std.specs.Prelude.{ℕ, Bool, not, ◌==◌, ◌||◌}
use Rattle.token_grammar.specs.declared.slices.CharacterClass.{CharacterClass}
use Rattle.token_grammar.specs.declared.slices.CharacterClass.TheVariants.{AttributeName, DecimalDigit, Gap}
use Rattle.token_grammar.specs.declared.slices.CharacterClass.TheVariants.{HexadecimalDigit, Identifier, Letter}
use Rattle.token_grammar.specs.declared.slices.CharacterClass.TheVariants.{Lowered, Space, TagName, Unquoted}
use Rattle.token_grammar.specs.Characters.{is_between, is_digit, is_letter, is_space}
use Rattle.token_grammar.specs.Doctypes.{ends_identifier}
use Rattle.token_grammar.specs.Tags.{ends_attribute_name, ends_tag_name, ends_unquoted, is_gap}

abbrev pub is_of : CharacterClass → ℕ → Bool
is_of Space c = is_space c
is_of Gap c = is_gap c
is_of Letter c = is_letter c
is_of DecimalDigit c = is_digit 10 c
is_of HexadecimalDigit c = is_digit 16 c
is_of TagName c = not (ends_tag_name c)
is_of AttributeName c = not (ends_attribute_name c)
is_of Unquoted c = not (ends_unquoted c)
is_of Lowered c = not (is_between 65 90 c || c == 0)
is_of (Identifier quote) c = not (ends_identifier quote c)
