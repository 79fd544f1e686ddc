use Rattle.std.proofs.Common.{◌≡◌, ◌++◌, length, take, chars, string_bytes}
use Rattle.text_lines.specs.Tagged.{elements_items, line_elements, characters}
use Rattle.block_trait.proofs.texts.push_characters.Given as goal

abbrev pub invariant-loop-element : goal.invariant-loop-element
invariant-loop-element g l =
    chars (string_bytes l.text) ≡ chars (string_bytes l.fn.text) ++ characters (elements_items g.T.EqualCopy.seen
    (take (length l.yielded) (line_elements l.line)))
