use Rattle.std.proofs.Common.{sym, ◌∙◌}
use Rattle.std.proofs.lemmas.Result.{on_ok_weaker}
use Rattle.text_normal.proofs.NormalFilling.{roomy, without_room}
use Rattle.text_normal.proofs.filling.Filling.make_room.Goals as goal

pub returns-then-fits-clause-laid : goal.returns-then-fits-clause-laid
returns-then-fits-clause-laid g c = roomy g.T.EqualCopy.seen c.args.self.now _ (sym c.if-fits.true ∙ c.fits.ensures)

pub returns-else-fits-clause-laid : goal.returns-else-fits-clause-laid
returns-else-fits-clause-laid g c =
    on_ok_weaker c.end_line.result (λ h. without_room g.T.EqualCopy.seen c.args.self.now _ _ (sym c.if-fits.false
    ∙ c.fits.ensures) h) c.end_line.ensures.laid
