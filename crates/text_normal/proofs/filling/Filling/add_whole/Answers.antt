use Rattle.std.proofs.Common.{refl}
use Rattle.text_normal.proofs.NormalFilling.{unit_pushed}
use Rattle.text_normal.proofs.filling.Filling.add_whole.Goals as goal

pub returns-clause-laid : goal.returns-clause-laid
returns-clause-laid g c =
    unit_pushed g.T.EqualCopy.seen c.args.self.now c.make_room.new.self _ _ _ _ _ c.space_columns.ensures
    c.width.ensures c.in_ok-make_room.ensures.laid refl refl refl c.in_ok-push_after.ensures.pushed
    c.push_after.ensures.joined
