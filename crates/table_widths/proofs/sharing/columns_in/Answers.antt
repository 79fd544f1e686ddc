use Rattle.std.proofs.Common.{arith, take_all}
use Rattle.table_widths.specs.Widths.{columns_of}
use Rattle.table_widths.proofs.ListLemmas.{columns_more}
use Rattle.table_widths.proofs.sharing.columns_in.Goals as goal

pub loop-i-init : goal.loop-i-init
unfolding columns_of
loop-i-init c = c.new-columns.ensures.items

pub loop-i-preserved : goal.loop-i-preserved
loop-i-preserved c =
    let pushed = c.in_ok-push.ensures.items in
    let more = columns_more c.loop-i.i c.args.least.now c.args.shares.now (omega arith) (omega arith) in
    cc

pub returns : goal.returns
returns c =
    let a = take_all c.loop-i.i c.args.least.now (omega arith) in
    let b = take_all c.loop-i.i c.args.shares.now (omega arith) in
    cc
