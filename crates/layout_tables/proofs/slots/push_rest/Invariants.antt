use Rattle.std.proofs.Common.{◌≡◌, ◌++◌, ◌-◌, drop, filter, length}
use Rattle.block_renderer.specs.Seen.{marking}
use Rattle.layout_state.specs.Seen.{IsWorking, laying_of, made_of, slots_left, widths_seen}
use Rattle.layout_tables.specs.Tables.{empty_slots}
use Rattle.table_widths.specs.Slots.{has_columns}
use Rattle.layout_tables.proofs.slots.push_rest.Given as goal

abbrev pub invariant-slots : goal.invariant-slots
invariant-slots g l = record {
  made : (tag : _) → made_of g.D.Annotation.EqualCopy.seen g.D.TextDecorator.view.held l.made.items
      ++ empty_slots (marking g.D.TextDecorator.view tag) (widths_seen l.widths) (laying_of
      g.D.Annotation.EqualCopy.seen
      g.D.TextDecorator.view.held l.fn.laying).parts.current (filter has_columns (drop l.at l.slots.slots.items))
      ≡ made_of g.D.Annotation.EqualCopy.seen g.D.TextDecorator.view.held l.fn.made.items
      ++ empty_slots (marking g.D.TextDecorator.view tag) (widths_seen l.widths) (laying_of
      g.D.Annotation.EqualCopy.seen
      g.D.TextDecorator.view.held l.fn.laying).parts.current (filter has_columns (slots_left l.fn.slots));
  stays : laying_of g.D.Annotation.EqualCopy.seen g.D.TextDecorator.view.held l.laying
      ≡ laying_of g.D.Annotation.EqualCopy.seen g.D.TextDecorator.view.held l.fn.laying;
  works : IsWorking g.D.Annotation.EqualCopy.seen g.D.TextDecorator.view.held l.laying;
}

abbrev pub decreases-slots : goal.decreases-slots
decreases-slots g l = length l.slots.slots.items - l.at
