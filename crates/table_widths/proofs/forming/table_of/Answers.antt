use Rattle.std.proofs.Common.{List, ap, length, subst, sym, ◌∙◌}
use Rattle.std.specs.List.Sorted.{IsNonDecreasingBy}
use Rattle.table_grid.specs.declared.grid.GridCell.{GridCell}
use Rattle.table_widths.proofs.FormLemmas.{gaps_rise, places_are}
use Rattle.table_widths.proofs.forming.table_of.Goals as goal

pub rows_of-requires-clause-same : goal.rows_of-requires-clause-same
rows_of-requires-clause-same c =
    ap (λ (xs : List GridCell). length xs) c.as_slice.ensures.value
    ∙ places_are c.args.cells.now c.in_ok-columns.field-0.columns.items c.in_ok-columns.field-0.cells.items
    c.in_ok-columns.field-0.gaps.items c.in_ok-columns.ensures.grid

pub rows_of-requires-clause-gap_rows : goal.rows_of-requires-clause-gap_rows
rows_of-requires-clause-gap_rows c =
    subst (IsNonDecreasingBy (λ g. g.row)) (sym c.as_slice-2.ensures.value)
    (gaps_rise c.args.cells.now c.in_ok-columns.field-0.columns.items c.in_ok-columns.field-0.cells.items
    c.in_ok-columns.field-0.gaps.items c.in_ok-columns.ensures.grid)
