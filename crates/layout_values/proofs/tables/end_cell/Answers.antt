use Rattle.std.proofs.Common.{refl}
use Rattle.block_renderer.specs.Seen.{marking, sub_of}
use Rattle.layout_state.specs.Seen.{laying_of, made_of, slots_left, widths_seen}
use Rattle.table_widths.specs.Tables.{rows_left}
use Rattle.layout_values.specs.Seen.{open_cell_of}
use Rattle.layout_values.proofs.OpenLemmas.{unboxed}
use Rattle.layout_tables.proofs.TableSlotLemmas.{made_more}
use Rattle.layout_tables.proofs.TableStepLemmas.{cell_ends_as}
use Rattle.layout_values.proofs.ValueLemmas.{any_sizing}
use Rattle.layout_values.proofs.tables.end_cell.Goals as goal

pub returns-clause-done : goal.returns-clause-done
returns-clause-done g c = λ tag p.
    unboxed (marking g.D.TextDecorator.view tag) any_sizing
    (open_cell_of g.D.Annotation.EqualCopy.seen g.D.TextDecorator.view.held) c.args.cell.value
    c.into_inner-outer.result _ _ c.into_inner-outer.ensures (cell_ends_as
    (sub_of g.D.Annotation.EqualCopy.seen g.D.TextDecorator.view.held c.into_inner-outer.result.outer)
    (sub_of g.D.Annotation.EqualCopy.seen g.D.TextDecorator.view.held c.replace_current-part.result)
    (widths_seen c.into_inner-outer.result.rows.widths) (rows_left c.into_inner-outer.result.rows.rows)
    c.new.result.items (slots_left c.into_inner-outer.result.slots)
    (made_of g.D.Annotation.EqualCopy.seen g.D.TextDecorator.view.held c.into_inner-outer.result.made.items)
    (made_of g.D.Annotation.EqualCopy.seen g.D.TextDecorator.view.held c.push.new.self.items)
    c.into_inner-outer.result.taken
    (laying_of g.D.Annotation.EqualCopy.seen g.D.TextDecorator.view.held c.args.laying.now) _
    c.replace_current-part.ensures.outer c.replace_current-part.ensures.new
    (made_more g.D.Annotation.EqualCopy.seen g.D.TextDecorator.view.held c.into_inner-outer.result.made.items
    c.push.new.self.items c.replace_current-part.result c.into_inner-outer.result.taken _ c.in_ok-push.ensures.items
    refl) c.new.ensures.items)
