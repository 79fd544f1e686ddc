use Rattle.std.proofs.Common.{arith, ap, ◌∙◌}
use Rattle.block_renderer.specs.Seen.{marking, sub_of}
use Rattle.layout_state.specs.LayoutState.{LayoutState}
use Rattle.layout_state.specs.Seen.{widths_seen}
use Rattle.layout_tables.specs.Tables.{empty_slot}
use Rattle.table_widths.specs.Slots.{has_columns}
use Rattle.layout_tables.proofs.TableSlotLemmas.{filled_end, filled_kept}
use Rattle.layout_tables.proofs.slots.push_rest.Goals as goal

pub slots-preserved : goal.slots-preserved
slots-preserved g c = record {
  made = λ tag. filled_kept (empty_slot (marking g.D.TextDecorator.view tag) (widths_seen c.args.widths.now))
      has_columns _ _ c.index.result.now _ _ _ c.args.slots.now.slots.items c.slots.at c.index.ensures (omega arith)
      (ap (λ (l : LayoutState _ _). l.parts.current) c.slots.invariant.stays) (c.in_ok-push_kept.ensures.made tag)
      (c.slots.invariant.made tag);
  stays = c.in_ok-push_kept.ensures.stays ∙ c.slots.invariant.stays;
  works = c.in_ok-push_kept.ensures.works;
}

pub returns-clause-made : goal.returns-clause-made
returns-clause-made g c = λ tag. filled_end (empty_slot (marking g.D.TextDecorator.view tag) (widths_seen
    c.args.widths.now)
    (sub_of g.D.Annotation.EqualCopy.seen g.D.TextDecorator.view.held c.args.laying.now.text.current)) has_columns _ _
    c.args.slots.now.slots.items c.slots.at (omega arith) (c.slots.invariant.made tag)
