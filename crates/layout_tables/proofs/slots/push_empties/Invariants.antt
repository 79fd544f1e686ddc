use Rattle.std.proofs.Common.{◌≡◌, ◌++◌, ◌-◌, length}
use Rattle.block_renderer.specs.Seen.{marking}
use Rattle.layout_state.specs.Seen.{IsWorking, laying_of, made_of, slots_left, widths_seen}
use Rattle.layout_tables.specs.Tables.{empties_before, empty_slots, from_cell}
use Rattle.layout_tables.proofs.slots.push_empties.Given as goal

abbrev pub invariant-slots : goal.invariant-slots
invariant-slots g l = record {
  made : (tag : _) → made_of g.D.Annotation.EqualCopy.seen g.D.TextDecorator.view.held l.made.items
      ++ empty_slots (marking g.D.TextDecorator.view tag) (widths_seen l.widths) (laying_of
      g.D.Annotation.EqualCopy.seen
      g.D.TextDecorator.view.held l.fn.laying).parts.current (empties_before (slots_left l.slots))
      ≡ made_of g.D.Annotation.EqualCopy.seen g.D.TextDecorator.view.held l.fn.made.items
      ++ empty_slots (marking g.D.TextDecorator.view tag) (widths_seen l.widths) (laying_of
      g.D.Annotation.EqualCopy.seen
      g.D.TextDecorator.view.held l.fn.laying).parts.current (empties_before (slots_left l.fn.slots));
  left : from_cell (slots_left l.slots) ≡ from_cell (slots_left l.fn.slots);
  stays : laying_of g.D.Annotation.EqualCopy.seen g.D.TextDecorator.view.held l.laying
      ≡ laying_of g.D.Annotation.EqualCopy.seen g.D.TextDecorator.view.held l.fn.laying;
  works : IsWorking g.D.Annotation.EqualCopy.seen g.D.TextDecorator.view.held l.laying;
}

abbrev pub decreases-slots : goal.decreases-slots
decreases-slots g l = length l.slots.slots.items - l.slots.next
