use Rattle.std.proofs.Common.{ℕ, arith, subst, sym}
use Rattle.table_grid.specs.Columns.{AreWithin}
use Rattle.table_grid.proofs.WindowLemmas.{put_more}
use Rattle.table_grid.proofs.windows.put_parts.Goals as goal

pub loop-part-preserved : goal.loop-part-preserved
loop-part-preserved c = record {
  spread = put_more c.args.parts.now c.args.small c.args.width c.loop-part.part-index c.loop-part.windows.items
      c.put_part.new.windows.items c.requires.close
      (subst (λ (n : ℕ). AreWithin c.args.parts.now n) (sym c.loop-part.invariant.same) c.requires.within) (omega arith)
      c.requires.some c.loop-part.invariant.spread c.put_part.ensures;
  same = let a = c.put_part.ensures.same in let b = c.loop-part.invariant.same in omega arith;
}
