use Rattle.std.proofs.Common.{◌+◌, ap, arith, subst, sym, ◌∙◌}
use Rattle.table_widths.specs.Slots.{merged}
use Rattle.table_widths.proofs.FormLemmas.{AreFormed, formed_more}
use Rattle.table_widths.proofs.forming.rows_of.Goals as goal

pub rows-preserved : goal.rows-preserved
rows-preserved c =
    subst (AreFormed c.args.cells.now c.args.placed.now c.args.gaps.now c.args.count c.in_ok-own.trailing
    c.in_ok-empty.after) (sym c.in_ok-push.ensures.items)
    (formed_more c.args.cells.now c.args.placed.now c.args.gaps.now c.args.count c.rows.cell c.rows.gap
    c.in_ok-own.trailing c.in_ok-empty.after (c.len-row.result + 1) c.rows.rows.items c.in_ok-own.own.items
    c.in_ok-empty.empty.items c.in_ok-merged.field-0 (omega (arith, c.rows.rows.ok.0))
    (omega (arith, c.rows.rows.ok.0)) c.rows.invariant c.in_ok-own.ensures.slots c.in_ok-empty.ensures.slots
    (c.in_ok-merged.ensures ∙ ap (merged c.in_ok-own.own.items) c.as_slice.ensures.value)
    c.in_ok-own.ensures.trailing c.in_ok-empty.ensures.trailing)
