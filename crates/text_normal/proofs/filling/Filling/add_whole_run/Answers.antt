use Rattle.std.proofs.Common.{refl, chars, ◌∙◌}
use Rattle.text_normal.proofs.NormalItems.{run_counted}
use Rattle.text_normal.proofs.NormalFilling.{unit_pushed}
use Rattle.text_normal.proofs.filling.Filling.add_whole_run.Goals as goal

pub returns-clause-laid : goal.returns-clause-laid
returns-clause-laid g c =
    unit_pushed g.T.EqualCopy.seen c.args.self.now c.make_room.new.self _ _ _ _ c.args.columns c.space_columns.ensures
    (c.requires ∙ run_counted (chars c.args.run.now) (g.T.EqualCopy.seen c.args.tag.now)) c.in_ok-make_room.ensures.laid
    refl refl refl c.in_ok-push_run_after.ensures.pushed c.push_run_after.ensures.joined
