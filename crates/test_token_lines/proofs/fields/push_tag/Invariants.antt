use Rattle.std.proofs.Common.{◌≡◌, ◌++◌, chars, drop, flat_map, string_bytes}
use Rattle.test_token_lines.specs.TokenLines.{attribute_line, tag_lines}
use Rattle.test_token_lines.proofs.fields.push_tag.Given as goal

abbrev pub invariant-loop-attribute : goal.invariant-loop-attribute
invariant-loop-attribute l =
    chars (string_bytes l.lines) ++ flat_map attribute_line (drop l.attribute-index l.attribute-items)
    ≡ chars (string_bytes l.fn.lines) ++ tag_lines l.tag
