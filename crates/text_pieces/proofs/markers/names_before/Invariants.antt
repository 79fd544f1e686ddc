use Rattle.std.proofs.Common.{◌≡◌, ◌++◌, [], length, take}
use Rattle.text_lines.specs.Tagged.{elements_items, line_elements}
use Rattle.text_pieces.specs.Items.{markers_of}
use Rattle.text_pieces.specs.Sources.{names}
use Rattle.text_pieces.proofs.markers.names_before.Given as goal

abbrev pub invariant-loop-element : goal.invariant-loop-element
invariant-loop-element g l =
    names l.all.items ≡ [] ++ markers_of (elements_items g.T.EqualCopy.seen
    (take (length l.yielded) (line_elements l.line)))
