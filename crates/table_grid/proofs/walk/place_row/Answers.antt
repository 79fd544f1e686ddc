use Rattle.std.proofs.Common.{◌≡◌, [], ◌∷◌, List, ap, arith, get_or, length, length-append, rules, subst, sym, take_all}
use Rattle.std.proofs.Common.{ℕ}
use Rattle.table_grid.specs.declared.covers.Cover.{Cover}
use Rattle.table_grid.specs.declared.cell.PlacedCell.{PlacedCell}
use Rattle.table_grid.proofs.RowLemmas.{IsInRow, fresh_more, left_fits, no_place, placed_here, row_first, row_more}
use Rattle.table_grid.proofs.RowLemmas.{stays_more}
use Rattle.table_grid.proofs.walk.place_row.Goals as goal

pub loop-placed-init : goal.loop-placed-init
loop-placed-init c = record {
  state =
      subst (λ (xs : List Cover). IsInRow c.args.cells.now c.args.row c.args.covers.now xs
      c.args.placed.now.items 0 0) (sym c.clear.ensures.items)
      (row_first c.args.cells.now c.args.row c.args.covers.now c.args.placed.now.items c.requires.start);
  farther = omega arith;
  stays = take_all (length c.args.placed.now.items) c.args.placed.now.items (omega arith);
  fresh = λ k d from lt. absurd (omega arith);
}

pub cover-requires : goal.cover-requires
cover-requires c = record {
  small = left_fits c.args.cells.now c.args.row c.args.covers.now c.loop-placed.own.items
      c.loop-placed.placed.items c.loop-placed.passed c.loop-placed.trailing
      (get_or c.args.cells.now c.len-in-loop-placed-2.result no_place).colspan c.place-left.result.0
      c.loop-placed.invariant.state (search rules) (omega arith) c.place-left.ensures.place;
}

pub loop-placed-preserved : goal.loop-placed-preserved
loop-placed-preserved c =
    let index : c.len-in-loop-placed-2.result ≡ length c.loop-placed.placed.items = omega arith in
    let same : (get_or c.args.cells.now c.len-in-loop-placed-2.result no_place).row ≡ c.args.row =
    let e : c.len-in-loop-placed.result ≡ c.len-in-loop-placed-2.result = omega arith in
    subst (λ (n : ℕ). (get_or c.args.cells.now n no_place).row ≡ c.args.row) e c.if-cells-len.true in
    record {
      state = rw (c.in_ok-push.ensures.items, c.in_ok-push-2.ensures.items, c.cover.ensures)
          (row_more c.args.cells.now c.args.row c.args.covers.now c.loop-placed.own.items
          c.loop-placed.placed.items c.loop-placed.passed c.loop-placed.trailing c.place-left.result.1
          (get_or c.args.cells.now c.len-in-loop-placed-2.result no_place) c.place-left.result.0 c.requires.start.whole
          c.loop-placed.invariant.state (omega arith)
          (ap (λ (n : ℕ). get_or c.args.cells.now n no_place) index) same
          (c.requires.some c.len-in-loop-placed-2.result no_place (omega arith)) (search rules)
          (c.requires.tall c.len-in-loop-placed-2.result no_place (omega arith))
          c.place-left.ensures.place c.place-left.ensures.passed);
      farther = let e = ap (λ (xs : List PlacedCell). length xs) c.in_ok-push.ensures.items in let n =
          length-append c.loop-placed.placed.items
          (placed_here (get_or c.args.cells.now c.len-in-loop-placed-2.result no_place) c.place-left.result.0 ∷ []) in
          let f = c.loop-placed.invariant.farther in omega arith;
      stays = rw c.in_ok-push.ensures.items
          (stays_more c.args.placed.now.items c.loop-placed.placed.items
          (placed_here (get_or c.args.cells.now c.len-in-loop-placed-2.result no_place) c.place-left.result.0)
          c.loop-placed.invariant.farther c.loop-placed.invariant.stays);
      fresh = rw c.in_ok-push.ensures.items
          (fresh_more c.args.placed.now.items c.loop-placed.placed.items c.args.row
          (get_or c.args.cells.now c.len-in-loop-placed-2.result no_place) c.place-left.result.0 same
          c.loop-placed.invariant.farther c.loop-placed.invariant.fresh);
    }
