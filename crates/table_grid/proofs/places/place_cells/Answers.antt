use Rattle.std.proofs.Common.{◌≡◌, ℕ, List, length, get_or, ap, subst, arith}
use Rattle.table_grid.specs.declared.cell.PlacedCell.{PlacedCell}
use Rattle.table_grid.specs.declared.covers.Cover.{Cover}
use Rattle.table_grid.specs.declared.ends.RowEnd.{RowEnd}
use Rattle.table_grid.specs.Covers.{IsAfterRow}
use Rattle.table_grid.specs.Ends.{HasNextCovers}
use Rattle.table_grid.specs.RowGaps.{AreGapsIn}
use Rattle.table_grid.proofs.GapLemmas.{gaps_more, row_grows}
use Rattle.table_grid.proofs.RowLemmas.{no_place}
use Rattle.table_grid.proofs.StateLemmas.{after_up_to}
use Rattle.table_grid.proofs.places.place_cells.Goals as goal

pub rows-preserved : goal.rows-preserved
rows-preserved c =
    let at : (get_or c.args.cells.now c.len-in-rows.result no_place).row
    ≡ (get_or c.args.cells.now (length c.rows.placed.items) no_place).row =
    ap (λ (n : ℕ). (get_or c.args.cells.now n no_place).row)
    (let e : c.len-in-rows.result ≡ length c.rows.placed.items = omega arith in e) in
    let next : HasNextCovers c.args.cells.now c.in_ok-ends.ends.items c.in_ok-above.passed
    (get_or c.args.cells.now c.len-in-rows.result no_place).row c.in_ok-above.above.items c.rows.placed.items =
    subst (λ (xs : List RowEnd). HasNextCovers c.args.cells.now xs c.in_ok-above.passed
    (get_or c.args.cells.now c.len-in-rows.result no_place).row c.in_ok-above.above.items c.rows.placed.items)
    c.as_slice.ensures.value
    (subst (λ (xs : List PlacedCell). HasNextCovers c.args.cells.now c.as_slice.result.now c.in_ok-above.passed
    (get_or c.args.cells.now c.len-in-rows.result no_place).row c.in_ok-above.above.items xs)
    c.as_slice-in-rows-3.ensures.value
    c.in_ok-above.ensures) in
    let trailing : IsAfterRow c.args.cells.now (get_or c.args.cells.now c.len-in-rows.result no_place).row
    c.in_ok-above.above.items c.in_ok-own.own.items c.rows.placed.items c.place_row.new.placed.items =
    subst (λ (xs : List Cover). IsAfterRow c.args.cells.now (get_or c.args.cells.now c.len-in-rows.result no_place).row
    xs c.in_ok-own.own.items c.rows.placed.items c.place_row.new.placed.items) c.as_slice-in-rows-4.ensures.value
    c.in_ok-own.ensures in
    let gaps : AreGapsIn (get_or c.args.cells.now c.len-in-rows.result no_place).row c.in_ok-above.above.items
    c.in_ok-own.own.items c.rows.gaps.items c.row_gaps.new.gaps.items =
    subst (λ (xs : List Cover). AreGapsIn (get_or c.args.cells.now c.len-in-rows.result no_place).row xs
    c.in_ok-own.own.items c.rows.gaps.items c.row_gaps.new.gaps.items) c.as_slice-in-rows-5.ensures.value
    (subst (λ (xs : List Cover). AreGapsIn (get_or c.args.cells.now c.len-in-rows.result no_place).row
    c.as_slice-in-rows-5.result.now xs c.rows.gaps.items c.row_gaps.new.gaps.items)
    c.as_slice-in-rows-6.ensures.value
    c.in_ok-row_gaps.ensures) in
    record {
      ends = c.rows.invariant.ends;
      state = after_up_to c.args.cells.now c.in_ok-ends.ends.items c.in_ok-above.passed
          (get_or c.args.cells.now c.len-in-rows.result no_place).row c.in_ok-above.above.items c.in_ok-own.own.items
          c.rows.placed.items c.place_row.new.placed.items
          c.requires.rows at (omega arith) next.above next.between.whole next.between.ends trailing;
      gaps = gaps_more (get_or c.args.cells.now c.len-in-rows.result no_place).row c.args.cells.now
          c.in_ok-above.above.items c.in_ok-own.own.items c.rows.placed.items c.place_row.new.placed.items
          c.rows.gaps.items c.row_gaps.new.gaps.items
          (row_grows (get_or c.args.cells.now c.len-in-rows.result no_place).row c.args.cells.now
          c.in_ok-above.above.items c.in_ok-own.own.items c.rows.placed.items c.place_row.new.placed.items no_place
          trailing (omega arith) at)
          next.between.above trailing c.rows.invariant.gaps gaps;
    }
