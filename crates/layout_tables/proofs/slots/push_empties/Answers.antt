use Rattle.std.proofs.Common.{◌≡◌, arith, ap, rules, sym, true, ◌∙◌}
use Rattle.std.proofs.lemmas.List.{get_or_read}
use Rattle.block_renderer.specs.Seen.{marking, sub_of}
use Rattle.layout_state.specs.LayoutState.{LayoutState}
use Rattle.layout_state.specs.Seen.{widths_seen}
use Rattle.layout_tables.specs.Tables.{empty_slot, is_empty_slot}
use Rattle.layout_tables.proofs.TableSlotLemmas.{cell_more, empty_filled, made_whole, no_empties_at, no_empties_end}
use Rattle.layout_tables.proofs.slots.push_empties.Goals as goal

pub slots-preserved : goal.slots-preserved
slots-preserved g c =
    let tested : is_empty_slot c.index.result.now ≡ true = search rules in
    let same : c.index.result.now ≡ c.index-in-slots.result.now = get_or_read c.slots.slots.slots.items
    c.slots.slots.next c.index.result.now (omega arith) c.index.ensures c.index-in-slots.result.now
    ∙ sym c.index-in-slots.ensures in
    let empty : is_empty_slot c.index-in-slots.result.now ≡ true = ap is_empty_slot (sym same) ∙ tested in
    record {
      made = λ tag. empty_filled (empty_slot (marking g.D.TextDecorator.view tag) (widths_seen c.args.widths.now))
          is_empty_slot _ _ c.index-in-slots.result.now _ _ _ c.slots.slots.slots.items c.slots.slots.next
          c.index-in-slots.ensures (omega arith) empty
          (ap (λ (l : LayoutState _ _). l.parts.current) c.slots.invariant.stays) (c.in_ok-push_empty.ensures.made tag)
          (c.slots.invariant.made tag);
      left = sym (cell_more is_empty_slot c.slots.slots.slots.items c.slots.slots.next
          c.index-in-slots.result.now c.index-in-slots.ensures (omega arith) empty) ∙ c.slots.invariant.left;
      stays = c.in_ok-push_empty.ensures.stays ∙ c.slots.invariant.stays;
      works = c.in_ok-push_empty.ensures.works;
    }

pub returns-else-not-index-clause-made : goal.returns-else-not-index-clause-made
returns-else-not-index-clause-made g c = λ tag. made_whole (empty_slot (marking g.D.TextDecorator.view tag)
    (widths_seen c.args.widths.now) (sub_of g.D.Annotation.EqualCopy.seen g.D.TextDecorator.view.held
    c.args.laying.now.text.current)) _ _ _
    (no_empties_at is_empty_slot c.slots.slots.slots.items c.slots.slots.next c.index.result.now c.index.ensures
    (omega arith) (search rules)) (c.slots.invariant.made tag)

pub returns-after-slots-clause-made : goal.returns-after-slots-clause-made
returns-after-slots-clause-made g c = λ tag. made_whole (empty_slot (marking g.D.TextDecorator.view tag)
    (widths_seen c.args.widths.now) (sub_of g.D.Annotation.EqualCopy.seen g.D.TextDecorator.view.held
    c.args.laying.now.text.current)) _ _ _
    (no_empties_end is_empty_slot c.slots.slots.slots.items c.slots.slots.next (omega arith))
    (c.slots.invariant.made tag)
