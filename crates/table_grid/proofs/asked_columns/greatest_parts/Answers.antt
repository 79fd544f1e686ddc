use Rattle.std.proofs.Common.{◌≡◌, ℕ, arith, subst}
use Rattle.table_grid.specs.Windows.{IsSpread}
use Rattle.table_grid.proofs.WindowLemmas.{split_spread, spread_all, spread_end}
use Rattle.table_grid.proofs.asked_columns.greatest_parts.Goals as goal

pub put_parts-requires-clause-spread : goal.put_parts-requires-clause-spread
put_parts-requires-clause-spread c =
    split_spread c.args.parts.now c.div_ceil-small.result c.loop-width.width c.loop-width.windows.items
    c.split_windows.new.windows.items
    (omega arith) (omega arith) (omega arith) c.loop-width.invariant.spread c.split_windows.ensures

pub loop-width-preserved : goal.loop-width-preserved
loop-width-preserved c = record {
  spread = spread_all c.args.parts.now c.div_ceil-small.result c.loop-width.width c.put_parts.new.windows.items
      c.put_parts.ensures.spread;
  same = let a = c.put_parts.ensures.same in let b = c.split_windows.ensures.same in let d =
      c.loop-width.invariant.same in omega arith;
  some = omega arith;
  within = let w = c.loop-width.invariant.within in omega arith;
}

pub returns : goal.returns
returns c =
    let one : c.loop-width.width ≡ 1 = let s = c.loop-width.invariant.some in omega arith in
    spread_end c.args.parts.now c.args.count c.loop-width.windows.items c.requires.within c.loop-width.invariant.same
    (subst (λ (n : ℕ). IsSpread c.args.parts.now n n 0 c.loop-width.windows.items) one c.loop-width.invariant.spread)
