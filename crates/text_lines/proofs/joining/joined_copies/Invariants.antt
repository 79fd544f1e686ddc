use Rattle.std.proofs.Common.{◌≡◌, take}
use Rattle.text_lines.specs.Elements.{elements_items, AreJoined}
use Rattle.text_lines.proofs.joining.joined_copies.Given as goal

abbrev pub invariant-loop-element : goal.invariant-loop-element
invariant-loop-element g l = record {
  items : elements_items g.T.EqualCopy.seen l.copies.items ≡ elements_items g.T.EqualCopy.seen
      (take l.element-index l.elements);
  joined : AreJoined g.T.EqualCopy.seen l.copies.items;
}
