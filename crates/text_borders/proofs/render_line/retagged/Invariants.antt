use Rattle.std.proofs.Common.{◌≡◌, ◌++◌, [], length, take}
use Rattle.text_lines.specs.Tagged.{line_items, elements_items, line_elements, IsJoined}
use Rattle.text_borders.specs.Across.{retagged}
use Rattle.text_borders.proofs.render_line.retagged.Given as goal

abbrev pub invariant-loop-element : goal.invariant-loop-element
invariant-loop-element g l =
    record {
      items : line_items g.T.EqualCopy.seen l.made ≡ [] ++ retagged (g.T.EqualCopy.seen l.tag)
          (elements_items g.T.EqualCopy.seen (take (length l.yielded) (line_elements l.line)));
      joined : IsJoined g.T.EqualCopy.seen l.made;
    }
