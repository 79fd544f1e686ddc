use Rattle.std.proofs.Common.{◌≡◌, ◌∙◌, List, ap, arith, filter, subst, take_all}
use Rattle.std.specs.List.Sorted.{IsPermutation, IsStableByKey}
use Rattle.std.specs.Ordering.{nat_cmp}
use Rattle.column_fits.specs.Fits.{span_of}
use Rattle.column_fits.specs.declared.cell.CellWidths.{CellWidths}
use Rattle.column_fits.proofs.SpanLemmas.{is_spanning, spanning_sorted}
use Rattle.column_fits.proofs.spanning.spanning_cells.Goals as goal

pub returns : goal.returns
returns c count within =
    let e : c.loop-cell.spanning.items ≡ filter is_spanning c.args.cells.now =
    c.loop-cell.invariant ∙ ap (filter is_spanning) (take_all c.loop-cell.cell-index c.args.cells.now (omega arith)) in
    spanning_sorted c.args.cells.now c.sort_by_span.new.cells.items
    (subst (λ (xs : List CellWidths). IsPermutation xs c.sort_by_span.new.cells.items) e c.sort_by_span.ensures.moved)
    (subst (λ (xs : List CellWidths). IsStableByKey span_of nat_cmp xs c.sort_by_span.new.cells.items) e
    c.sort_by_span.ensures.stable)
    c.in_ok-sort_by_span.ensures.rising count within
