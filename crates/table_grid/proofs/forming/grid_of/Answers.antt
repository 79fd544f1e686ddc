use Rattle.std.proofs.Common.{◌≡◌, ◌-◌, ◌<◌, ◌≤◌, ◌∙◌, All, List, ap, arith, filter, length, map, subst, sym, ℕ}
use Rattle.std.specs.List.Sorted.{IsStrictlyIncreasing}
use Rattle.std.proofs.lemmas.List.FromFn.{length-map-range_with_len}
use Rattle.table_grid.specs.declared.edges.SpannedCell.{SpannedCell}
use Rattle.table_grid.specs.declared.columns.Column.{Column}
use Rattle.table_grid.specs.Grid.{AreEdges, IsGrid, column_at, columns_between, gap_left, grid_cell, has_size}
use Rattle.table_grid.specs.Grid.{rows_with_cells, span_in, span_left}
use Rattle.table_grid.specs.TheGrid.{grid}
use Rattle.table_grid.proofs.GridLemmas.{gaps_left_within, gaps_right, put_together, rows_rise, spanned_some}
use Rattle.table_grid.proofs.GridLemmas.{spanned_within}
use Rattle.table_grid.proofs.SizeLemmas.{grid_sized}
use Rattle.table_grid.proofs.forming.grid_of.Goals as goal

pub columns_of-requires-clause-some : goal.columns_of-requires-clause-some
columns_of-requires-clause-some c =
    let edges : AreEdges c.in_ok-placed.field-0.cells.items c.in_ok-edges.edges.items =
    rw (sym c.as_slice.ensures.value) c.in_ok-edges.ensures in
    let spanned : c.as_slice-4.result.now ≡ map (span_in c.in_ok-edges.edges.items) c.in_ok-placed.field-0.cells.items =
    c.as_slice-4.ensures.value ∙ c.in_ok-spanned.ensures
    ∙ ap (λ (xs : List ℕ). map (span_in xs) c.as_slice-2.result.now) c.as_slice-3.ensures.value
    ∙ ap (map (span_in c.in_ok-edges.edges.items)) c.as_slice-2.ensures.value in
    subst (All (λ s. s.first < s.last)) (sym spanned)
    (spanned_some c.args.cells.now c.in_ok-placed.field-0.cells.items c.in_ok-edges.edges.items
    c.in_ok-placed.ensures.placed c.requires.some edges)

pub columns_of-requires-clause-within : goal.columns_of-requires-clause-within
columns_of-requires-clause-within c =
    let edges : AreEdges c.in_ok-placed.field-0.cells.items c.in_ok-edges.edges.items =
    rw (sym c.as_slice.ensures.value) c.in_ok-edges.ensures in
    let spanned : c.as_slice-4.result.now ≡ map (span_in c.in_ok-edges.edges.items) c.in_ok-placed.field-0.cells.items =
    c.as_slice-4.ensures.value ∙ c.in_ok-spanned.ensures
    ∙ ap (λ (xs : List ℕ). map (span_in xs) c.as_slice-2.result.now) c.as_slice-3.ensures.value
    ∙ ap (map (span_in c.in_ok-edges.edges.items)) c.as_slice-2.ensures.value in
    let count : c.saturating_sub.result ≡ length c.in_ok-edges.edges.items - 1 = omega arith in
    subst (λ (n : ℕ). All (λ s. s.last ≤ n) c.as_slice-4.result.now) (sym count)
    (subst (All (λ s. s.last ≤ length c.in_ok-edges.edges.items - 1)) (sym spanned)
    (spanned_within c.in_ok-placed.field-0.cells.items c.in_ok-edges.edges.items edges))

pub spans_left-requires-clause-some : goal.spans_left-requires-clause-some
spans_left-requires-clause-some c =
    let edges : AreEdges c.in_ok-placed.field-0.cells.items c.in_ok-edges.edges.items =
    rw (sym c.as_slice.ensures.value) c.in_ok-edges.ensures in
    let spanned : c.as_slice-5.result.now ≡ map (span_in c.in_ok-edges.edges.items) c.in_ok-placed.field-0.cells.items =
    c.as_slice-5.ensures.value ∙ c.in_ok-spanned.ensures
    ∙ ap (λ (xs : List ℕ). map (span_in xs) c.as_slice-2.result.now) c.as_slice-3.ensures.value
    ∙ ap (map (span_in c.in_ok-edges.edges.items)) c.as_slice-2.ensures.value in
    subst (All (λ s. s.first < s.last)) (sym spanned)
    (spanned_some c.args.cells.now c.in_ok-placed.field-0.cells.items c.in_ok-edges.edges.items
    c.in_ok-placed.ensures.placed c.requires.some edges)

pub spans_left-requires-clause-within : goal.spans_left-requires-clause-within
spans_left-requires-clause-within c =
    let edges : AreEdges c.in_ok-placed.field-0.cells.items c.in_ok-edges.edges.items =
    rw (sym c.as_slice.ensures.value) c.in_ok-edges.ensures in
    let spanned : c.as_slice-5.result.now ≡ map (span_in c.in_ok-edges.edges.items) c.in_ok-placed.field-0.cells.items =
    c.as_slice-5.ensures.value ∙ c.in_ok-spanned.ensures
    ∙ ap (λ (xs : List ℕ). map (span_in xs) c.as_slice-2.result.now) c.as_slice-3.ensures.value
    ∙ ap (map (span_in c.in_ok-edges.edges.items)) c.as_slice-2.ensures.value in
    let count : c.saturating_sub.result ≡ length c.in_ok-edges.edges.items - 1 = omega arith in
    let same : length c.as_slice-6.result.now ≡ length c.in_ok-edges.edges.items - 1 =
    ap (λ (xs : List Column). length xs) (c.as_slice-6.ensures.value ∙ c.in_ok-columns.ensures)
    ∙ length-map-range_with_len (column_at c.as_slice-4.result.now) 0 c.saturating_sub.result ∙ count in
    subst (λ (n : ℕ). All (λ s. s.last ≤ n) c.as_slice-5.result.now) (sym same)
    (subst (All (λ s. s.last ≤ length c.in_ok-edges.edges.items - 1)) (sym spanned)
    (spanned_within c.in_ok-placed.field-0.cells.items c.in_ok-edges.edges.items edges))

pub grid_cells-requires : goal.grid_cells-requires
grid_cells-requires c = record {
  rising =
      let spanned : c.as_slice-5.result.now ≡ map (span_in c.in_ok-edges.edges.items)
      c.in_ok-placed.field-0.cells.items =
      c.as_slice-5.ensures.value ∙ c.in_ok-spanned.ensures
      ∙ ap (λ (xs : List ℕ). map (span_in xs) c.as_slice-2.result.now) c.as_slice-3.ensures.value
      ∙ ap (map (span_in c.in_ok-edges.edges.items)) c.as_slice-2.ensures.value in
      let left : c.as_slice-7.result.now ≡ map (span_left c.as_slice-6.result.now)
      (map (span_in c.in_ok-edges.edges.items) c.in_ok-placed.field-0.cells.items) =
      c.as_slice-7.ensures.value ∙ c.in_ok-spans.ensures ∙ ap (map (span_left c.as_slice-6.result.now)) spanned in
      let rows : c.as_slice-9.result.now
      ≡ rows_with_cells
      (map (span_left c.as_slice-6.result.now)
      (map (span_in c.in_ok-edges.edges.items) c.in_ok-placed.field-0.cells.items)) =
      c.as_slice-9.ensures.value ∙ c.in_ok-rows.ensures ∙ ap rows_with_cells left in
      subst IsStrictlyIncreasing (sym rows)
      (rows_rise c.args.cells.now c.in_ok-placed.field-0.cells.items c.in_ok-edges.edges.items
      c.as_slice-6.result.now c.in_ok-placed.ensures.placed c.requires.rows);
}

pub returns : goal.returns
returns c =
    let edges : AreEdges c.in_ok-placed.field-0.cells.items c.in_ok-edges.edges.items =
    rw (sym c.as_slice.ensures.value) c.in_ok-edges.ensures in
    let spanned : c.in_ok-spanned.spanned.items ≡ map (span_in c.in_ok-edges.edges.items)
    c.in_ok-placed.field-0.cells.items =
    c.in_ok-spanned.ensures ∙ ap (λ (xs : List ℕ). map (span_in xs) c.as_slice-2.result.now) c.as_slice-3.ensures.value
    ∙ ap (map (span_in c.in_ok-edges.edges.items)) c.as_slice-2.ensures.value in
    let count : c.saturating_sub.result ≡ length c.in_ok-edges.edges.items - 1 = omega arith in
    let columns : c.in_ok-columns.columns.items
    ≡ columns_between (map (span_in c.in_ok-edges.edges.items) c.in_ok-placed.field-0.cells.items)
    (length c.in_ok-edges.edges.items - 1) =
    c.in_ok-columns.ensures ∙ ap (λ (n : ℕ). columns_between c.as_slice-4.result.now n) count ∙
    ap (λ (xs : List SpannedCell). columns_between xs (length c.in_ok-edges.edges.items - 1))
    (c.as_slice-4.ensures.value ∙ spanned) in
    let whole : IsGrid c.args.cells.now c.in_ok-columns-2.columns.items c.in_ok-cells.cells.items
    c.in_ok-gaps.gaps.items =
    put_together c.args.cells.now c.in_ok-placed.field-0.cells.items c.in_ok-edges.edges.items
    c.in_ok-spanned.spanned.items c.in_ok-columns.columns.items c.in_ok-spans.spans.items c.in_ok-rows.rows.items
    c.in_ok-cells.cells.items c.in_ok-columns-2.columns.items c.in_ok-placed.field-0.gaps.items c.in_ok-gaps.gaps.items
    c.in_ok-placed.ensures.placed edges c.in_ok-placed.ensures.gaps spanned columns
    (c.in_ok-spans.ensures ∙ ap (λ (xs : List Column). map (span_left xs) c.as_slice-5.result.now)
    c.as_slice-6.ensures.value ∙ ap (map (span_left c.in_ok-columns.columns.items)) c.as_slice-5.ensures.value)
    (c.in_ok-rows.ensures ∙ ap rows_with_cells c.as_slice-7.ensures.value)
    (c.in_ok-cells.ensures ∙ ap (λ (xs : List ℕ). map (grid_cell xs) c.as_slice-8.result.now) c.as_slice-9.ensures.value
    ∙ ap (map (grid_cell c.in_ok-rows.rows.items)) c.as_slice-8.ensures.value)
    (c.in_ok-columns-2.ensures ∙ ap (filter has_size) c.as_slice-13.ensures.value)
    (c.in_ok-gaps.ensures ∙ ap (λ (xs : List ℕ). map (gap_left xs c.as_slice-12.result.now) c.as_slice-10.result.now)
    c.as_slice-11.ensures.value ∙
    ap (λ (xs : List Column). map (gap_left c.in_ok-edges.edges.items xs) c.as_slice-10.result.now)
    c.as_slice-12.ensures.value ∙
    ap (map (gap_left c.in_ok-edges.edges.items c.in_ok-columns.columns.items)) c.as_slice-10.ensures.value) in
    let same = c.one_grid.ensures c.args.cells.now c.in_ok-columns-2.columns.items (grid c.args.cells.now).columns
    c.in_ok-cells.cells.items (grid c.args.cells.now).cells c.in_ok-gaps.gaps.items (grid c.args.cells.now).gaps whole
    (c.cells_have_a_grid.ensures c.args.cells.now c.requires.rows) in
    record {
      grid = whole;
      exact = (same.0, (same.1, same.2));
      sized = grid_sized c.args.cells.now c.in_ok-columns-2.columns.items c.in_ok-cells.cells.items
          c.in_ok-gaps.gaps.items c.requires.some c.requires.content whole;
    }

pub gaps_left-requires-clause-lefts : goal.gaps_left-requires-clause-lefts
gaps_left-requires-clause-lefts c =
    let edges : AreEdges c.in_ok-placed.field-0.cells.items c.in_ok-edges.edges.items =
    rw (sym c.as_slice.ensures.value) c.in_ok-edges.ensures in
    let count : c.saturating_sub.result ≡ length c.in_ok-edges.edges.items - 1 = omega arith in
    let same : length c.as_slice-12.result.now ≡ length c.in_ok-edges.edges.items - 1 =
    ap (λ (xs : List Column). length xs) (c.as_slice-12.ensures.value ∙ c.in_ok-columns.ensures)
    ∙ length-map-range_with_len (column_at c.as_slice-4.result.now) 0 c.saturating_sub.result ∙ count in
    rw (same, c.as_slice-10.ensures.value, c.as_slice-11.ensures.value)
    (gaps_left_within c.in_ok-placed.field-0.cells.items c.in_ok-edges.edges.items c.in_ok-placed.field-0.gaps.items
    edges c.in_ok-placed.ensures.gaps)

pub gaps_left-requires-clause-rights : goal.gaps_left-requires-clause-rights
gaps_left-requires-clause-rights c =
    let edges : AreEdges c.in_ok-placed.field-0.cells.items c.in_ok-edges.edges.items =
    rw (sym c.as_slice.ensures.value) c.in_ok-edges.ensures in
    let count : c.saturating_sub.result ≡ length c.in_ok-edges.edges.items - 1 = omega arith in
    let same : length c.as_slice-12.result.now ≡ length c.in_ok-edges.edges.items - 1 =
    ap (λ (xs : List Column). length xs) (c.as_slice-12.ensures.value ∙ c.in_ok-columns.ensures)
    ∙ length-map-range_with_len (column_at c.as_slice-4.result.now) 0 c.saturating_sub.result ∙ count in
    rw (same, c.as_slice-10.ensures.value, c.as_slice-11.ensures.value)
    (gaps_right c.in_ok-placed.field-0.cells.items c.in_ok-edges.edges.items c.in_ok-placed.field-0.gaps.items edges
    c.in_ok-placed.ensures.gaps)
