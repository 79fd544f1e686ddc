use Rattle.std.proofs.Common.{refl}
use Rattle.text_normal.proofs.NormalItems.{columns_read}
use Rattle.text_normal.proofs.NormalFilling.{cuts_letter}
use Rattle.text_normal.proofs.filling.Filling.add_char.Goals as goal

pub returns-clause-laid : goal.returns-clause-laid
returns-clause-laid g c =
    cuts_letter g.T.EqualCopy.seen c.args.self.now c.make_room.new.self _ c.args.c (g.T.EqualCopy.seen c.args.tag.now) _
    (columns_read c.args.c _ _ c.columns.ensures c.unwrap_or-columns.ensures) c.in_ok-make_room.ensures.laid refl refl
    refl c.in_ok-push_char.ensures.ok c.push_char.ensures.joined
