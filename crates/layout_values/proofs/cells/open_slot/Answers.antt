use Rattle.std.proofs.Common.{◌≡◌, ℕ, ◌+◌, ◌∷◌, List, Vec, Global, Err, ap, arith, drop, false, rules, sym, true, ◌∙◌}
use Rattle.std.proofs.lemmas.List.{drop_all, drop_more}
use Rattle.std.proofs.lemmas.Result.{err_from_is_err_and}
use Rattle.text_pieces.specs.declared.fault.BlockError.TheVariants.{TooNarrow}
use Rattle.block_renderer.specs.Seen.{marking, sub_of}
use Rattle.layout_state.specs.Seen.{laying_of, made_of, slots_left, widths_seen}
use Rattle.layout_values.specs.Seen.{open_cell_of}
use Rattle.layout_tables.specs.Tables.{slot_width}
use Rattle.table_widths.specs.Slots.{has_columns}
use Rattle.table_widths.specs.Tables.{rows_left}
use Rattle.table_widths.specs.declared.slot.Slot.{Slot}
use Rattle.layout_values.proofs.OpenLemmas.{box_waits}
use Rattle.layout_values.proofs.TableOpenLemmas.{cell_waits, slot_ended, slot_skipped, slot_taken}
use Rattle.layout_values.proofs.cells.open_slot.Goals as goal

pub returns-then-slots-len-clause-opened : goal.returns-then-slots-len-clause-opened
returns-then-slots-len-clause-opened g c = λ tag p nodes w inside.
    slot_ended (marking g.D.TextDecorator.view tag) w (widths_seen c.args.rows.widths) (rows_left c.args.rows.rows)
    c.args.rows.fragments.items c.replace-fragments.new.dest.items (slots_left c.args.slots)
    (made_of g.D.Annotation.EqualCopy.seen g.D.TextDecorator.view.held c.args.made.items) inside
    (laying_of g.D.Annotation.EqualCopy.seen g.D.TextDecorator.view.held c.args.laying.now)
    (drop_all c.args.slots.next c.args.slots.slots.items (omega arith))
    (ap (λ (v : Vec (List ℕ) Global). v.items) c.replace-fragments.ensures.after ∙ c.new.ensures.items)

pub returns-then-not-has_columns-clause-opened : goal.returns-then-not-has_columns-clause-opened
returns-then-not-has_columns-clause-opened g c = λ tag p nodes w inside.
    let narrow : has_columns c.index-slot.result.now ≡ false = search rules in
    slot_skipped (marking g.D.TextDecorator.view tag) w (widths_seen c.args.rows.widths) (rows_left c.args.rows.rows)
    c.args.rows.fragments.items c.replace-fragments.new.dest.items (slots_left c.args.slots)
    (drop (c.args.slots.next + 1) c.args.slots.slots.items) c.index-slot.result.now
    (made_of g.D.Annotation.EqualCopy.seen g.D.TextDecorator.view.held c.args.made.items) inside
    (laying_of g.D.Annotation.EqualCopy.seen g.D.TextDecorator.view.held c.args.laying.now)
    (drop_more c.args.slots.slots.items c.args.slots.next c.index-slot.result.now (omega arith)
    ∙ ap (λ (x : Slot). x ∷ drop (c.args.slots.next + 1) c.args.slots.slots.items) (sym c.index-slot.ensures))
    narrow (ap (λ (v : Vec (List ℕ) Global). v.items) c.replace-fragments.ensures.after ∙ c.new.ensures.items)

pub returns-in_err-outer-clause-narrow : goal.returns-in_err-outer-clause-narrow
returns-in_err-outer-clause-narrow g c = λ e. λ tag p inside.
    let q = err_from_is_err_and c.from_residual.result c.from_residual.ensures.1 in
    let same : c.in_err-outer.field-0.0 ≡ TooNarrow = cc (q.1, q.2, e) in
    let broad : has_columns c.index-slot.result.now ≡ true = search rules in
    let whole : c.width.result ≡ (sub_of g.D.Annotation.EqualCopy.seen g.D.TextDecorator.view.held
    c.args.laying.now.text.current).width = search rules in
    slot_taken (marking g.D.TextDecorator.view tag) (widths_seen c.args.rows.widths) (rows_left c.args.rows.rows)
    c.args.rows.fragments.items c.as_slice.result.now (slots_left c.args.slots)
    (drop (c.args.slots.next + 1) c.args.slots.slots.items) c.index-slot.result.now c.slot_width-width.result
    (made_of g.D.Annotation.EqualCopy.seen g.D.TextDecorator.view.held c.args.made.items) inside
    (laying_of g.D.Annotation.EqualCopy.seen g.D.TextDecorator.view.held c.args.laying.now) _
    (drop_more c.args.slots.slots.items c.args.slots.next c.index-slot.result.now (omega arith)
    ∙ ap (λ (x : Slot). x ∷ drop (c.args.slots.next + 1) c.args.slots.slots.items) (sym c.index-slot.ensures))
    broad (c.slot_width-width.ensures
    ∙ ap (λ (n : ℕ). slot_width (widths_seen c.args.rows.widths) n c.index-slot.result.now) whole)
    (c.as_slice.ensures.value ∙ ap (λ (v : Vec (List ℕ) Global). v.items) c.replace-fragments.ensures.value)
    (c.in_err-outer.ensures.narrow (ap Err same) tag p)

pub returns-clause-opened : goal.returns-clause-opened
returns-clause-opened g c = λ tag p nodes w inside.
    let broad : has_columns c.index-slot.result.now ≡ true = search rules in
    let whole : c.width.result ≡ (sub_of g.D.Annotation.EqualCopy.seen g.D.TextDecorator.view.held
    c.args.laying.now.text.current).width = search rules in
    box_waits _ w (open_cell_of g.D.Annotation.EqualCopy.seen g.D.TextDecorator.view.held) _ _ _ _
    c.in_ok-cell.ensures.ok
    (slot_taken (marking g.D.TextDecorator.view tag) (widths_seen c.args.rows.widths) (rows_left c.args.rows.rows)
    c.args.rows.fragments.items c.as_slice.result.now (slots_left c.args.slots)
    (drop (c.args.slots.next + 1) c.args.slots.slots.items) c.index-slot.result.now c.slot_width-width.result
    (made_of g.D.Annotation.EqualCopy.seen g.D.TextDecorator.view.held c.args.made.items) inside
    (laying_of g.D.Annotation.EqualCopy.seen g.D.TextDecorator.view.held c.args.laying.now) _
    (drop_more c.args.slots.slots.items c.args.slots.next c.index-slot.result.now (omega arith)
    ∙ ap (λ (x : Slot). x ∷ drop (c.args.slots.next + 1) c.args.slots.slots.items) (sym c.index-slot.ensures))
    broad (c.slot_width-width.ensures
    ∙ ap (λ (n : ℕ). slot_width (widths_seen c.args.rows.widths) n c.index-slot.result.now) whole)
    (c.as_slice.ensures.value ∙ ap (λ (v : Vec (List ℕ) Global). v.items) c.replace-fragments.ensures.value)
    (c.in_ok-outer.ensures.done tag p)
    ∙ cell_waits _ w inside _ _ _ _ _ _ _ _ c.in_ok-outer.ensures.outer)
