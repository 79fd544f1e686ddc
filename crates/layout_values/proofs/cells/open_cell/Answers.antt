use Rattle.block_renderer.specs.Seen.{marking}
use Rattle.layout_state.proofs.CallLemmas.{if_ok_by}
use Rattle.layout_state.specs.Seen.{laying_of, made_of, slots_left, widths_seen}
use Rattle.table_widths.specs.Tables.{rows_left}
use Rattle.layout_values.proofs.TableOpenLemmas.{cell_after}
use Rattle.layout_values.proofs.cells.open_cell.Goals as goal

pub returns-clause-opened : goal.returns-clause-opened
returns-clause-opened g c = if_ok_by _ _ c.open_slot.result (λ x h. λ tag p nodes w inside.
    cell_after (marking g.D.TextDecorator.view tag) (widths_seen c.args.rows.widths) (rows_left c.args.rows.rows)
    c.args.rows.fragments.items (slots_left c.args.slots) (slots_left c.push_empties.new.slots)
    (made_of g.D.Annotation.EqualCopy.seen g.D.TextDecorator.view.held c.args.made.items)
    (made_of g.D.Annotation.EqualCopy.seen g.D.TextDecorator.view.held c.push_empties.new.made.items) inside
    (laying_of g.D.Annotation.EqualCopy.seen g.D.TextDecorator.view.held c.args.laying.now)
    (laying_of g.D.Annotation.EqualCopy.seen g.D.TextDecorator.view.held c.push_empties.new.laying) _
    c.in_ok-push_empties.ensures.stays c.in_ok-push_empties.ensures.left (c.in_ok-push_empties.ensures.made tag)
    (h tag p nodes w inside)) c.open_slot.ensures.opened

pub returns-clause-narrow : goal.returns-clause-narrow
returns-clause-narrow g c = λ e. λ tag p inside.
    cell_after (marking g.D.TextDecorator.view tag) (widths_seen c.args.rows.widths) (rows_left c.args.rows.rows)
    c.args.rows.fragments.items (slots_left c.args.slots) (slots_left c.push_empties.new.slots)
    (made_of g.D.Annotation.EqualCopy.seen g.D.TextDecorator.view.held c.args.made.items)
    (made_of g.D.Annotation.EqualCopy.seen g.D.TextDecorator.view.held c.push_empties.new.made.items) inside
    (laying_of g.D.Annotation.EqualCopy.seen g.D.TextDecorator.view.held c.args.laying.now)
    (laying_of g.D.Annotation.EqualCopy.seen g.D.TextDecorator.view.held c.push_empties.new.laying) _
    c.in_ok-push_empties.ensures.stays c.in_ok-push_empties.ensures.left (c.in_ok-push_empties.ensures.made tag)
    (c.open_slot.ensures.narrow e tag p inside)
