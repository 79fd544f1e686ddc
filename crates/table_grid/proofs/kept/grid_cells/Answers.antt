use Rattle.std.proofs.Common.{◌≡◌, ◌+◌, ◌-◌, ◌++◌, ◌∷◌, [], ◌∙◌, List, ap, arith, get_or, map, sym, take, ℕ}
use Rattle.table_grid.specs.declared.edges.SpannedCell.{SpannedCell}
use Rattle.std.proofs.lemmas.List.{take_more, map-append}
use Rattle.table_grid.specs.declared.grid.GridCell.{GridCell}
use Rattle.table_grid.specs.Grid.{rank, rows_reached, grid_cell}
use Rattle.table_grid.proofs.PartLemmas.{ranks_between}
use Rattle.table_grid.proofs.kept.grid_cells.Goals as goal

pub loop-s-preserved : goal.loop-s-preserved
loop-s-preserved c =
    let s : SpannedCell = get_or c.args.cells.now c.loop-s.s-index
    (record { cell = record { row = 0; colspan = 0; rowspan = 0; size = 0; least = 0 }; first = 0; last = 0 }) in
    let n : rows_reached c.args.rows.now s ≡ rank c.args.rows.now (s.cell.row + s.cell.rowspan) - rank c.args.rows.now
    s.cell.row =
    ranks_between c.args.rows.now s.cell.row (s.cell.row + s.cell.rowspan) (omega arith) in
    let r : c.saturating_sub.result ≡ rows_reached c.args.rows.now s =
    c.saturating_sub.ensures ∙ ap (λ (n : ℕ). n - c.rank_in-above.result) c.rank_in-bottom.ensures ∙
    ap (λ (n : ℕ). rank c.args.rows.now (s.cell.row + s.cell.rowspan) - n) c.rank_in-above.ensures ∙ sym n in
    c.in_ok-push.ensures.items
    ∙ ap (λ (xs : List GridCell). xs ++ record { first = s.first; last = s.last; rows = c.saturating_sub.result } ∷
    []) c.loop-s.invariant ∙
    ap (λ (n : ℕ). map (grid_cell c.args.rows.now) (take c.loop-s.s-index c.args.cells.now)
    ++ record { first = s.first; last = s.last; rows = n } ∷ []) r ∙
    sym
    (ap (map (grid_cell c.args.rows.now))
    (take_more c.args.cells.now c.loop-s.s-index
    (record { cell = record { row = 0; colspan = 0; rowspan = 0; size = 0; least = 0 }; first = 0; last = 0 })
    (omega arith)) ∙
    map-append (grid_cell c.args.rows.now) (take c.loop-s.s-index c.args.cells.now) (s ∷ []))
