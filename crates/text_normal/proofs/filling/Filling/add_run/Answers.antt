use Rattle.std.proofs.Common.{chars, ◌∙◌}
use Rattle.std.proofs.lemmas.Result.{on_ok_weaker}
use Rattle.text_normal.proofs.NormalItems.{run_counted}
use Rattle.text_normal.proofs.NormalFilling.{whole_unit, cut_unit}
use Rattle.text_normal.proofs.filling.Filling.add_run.Goals as goal

pub returns-then-columns-self-clause-laid : goal.returns-then-columns-self-clause-laid
returns-then-columns-self-clause-laid g c =
    on_ok_weaker c.add_cut_run.result (λ h. cut_unit g.T.EqualCopy.seen c.args.self.now _ _ _ c.args.columns
    (c.requires ∙ run_counted (chars c.args.run.now) (g.T.EqualCopy.seen c.args.tag.now)) c.if-columns-self.true h)
    c.add_cut_run.ensures.laid

pub returns-else-columns-self-clause-laid : goal.returns-else-columns-self-clause-laid
returns-else-columns-self-clause-laid g c =
    on_ok_weaker c.add_whole_run.result (λ h. whole_unit g.T.EqualCopy.seen c.args.self.now _ _ _ c.args.columns
    (c.requires ∙ run_counted (chars c.args.run.now) (g.T.EqualCopy.seen c.args.tag.now)) c.if-columns-self.false h)
    c.add_whole_run.ensures.laid
