use Rattle.std.proofs.Common.{◌-◌, arith}
use Rattle.std.proofs.lemmas.Result.{IfOk-weaker}
use Rattle.table_widths.proofs.CutLemmas.{fits_now, cut_now}
use Rattle.table_widths.proofs.sharing.widths_of.Goals as goal

pub returns-then-slack_sum-room : goal.returns-then-slack_sum-room
returns-then-slack_sum-room c =
    IfOk-weaker c.shares_of.result _ _
    (λ w e. fits_now c.args.columns.now c.args.width c.room_in-room.result c.requires.within c.requires.fit
    c.room_in-room.ensures w.items (omega arith) e)
    c.shares_of.ensures

pub returns-else-slack_sum-room : goal.returns-else-slack_sum-room
returns-else-slack_sum-room c =
    IfOk-weaker c.lowered.result _ _
    (λ w e. cut_now c.args.columns.now c.args.width c.room_in-room.result c.requires.within c.requires.fit
    c.room_in-room.ensures w.items
    c.level_of-level.result (c.filled_at.result - c.room_in-room.result) (omega arith) c.level_of-level.ensures
    (omega arith) e)
    c.lowered.ensures
