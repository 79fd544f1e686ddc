use Rattle.text_lines.specs.Elements.{MapsTags}
use Rattle.text_lines.proofs.tagged_line.TaggedLine.map_tag.Given as goal

abbrev pub invariant-loop-element : goal.invariant-loop-element
invariant-loop-element g l = MapsTags (λ tag new. goal.F-post g l.f tag new) l.yielded l.mapped.items
