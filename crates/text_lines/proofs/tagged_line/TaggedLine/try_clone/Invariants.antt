use Rattle.std.proofs.Common.{take}
use Rattle.text_lines.specs.Elements.{CopiesAll}
use Rattle.text_lines.proofs.tagged_line.TaggedLine.try_clone.Given as goal

abbrev pub invariant-loop-element : goal.invariant-loop-element
invariant-loop-element g l = CopiesAll g.T.EqualCopy.seen (take l.element-index l.element-items) l.elements.items
