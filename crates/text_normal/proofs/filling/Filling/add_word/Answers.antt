use Rattle.std.proofs.lemmas.Result.{on_ok_weaker}
use Rattle.text_normal.proofs.NormalFilling.{whole_unit, cut_unit}
use Rattle.text_normal.proofs.filling.Filling.add_word.Goals as goal

pub returns-then-width-self-clause-laid : goal.returns-then-width-self-clause-laid
returns-then-width-self-clause-laid g c =
    on_ok_weaker c.add_cut.result (λ h. cut_unit g.T.EqualCopy.seen c.args.self.now _ _ _ _ c.width.ensures
    c.if-width-self.true h) c.add_cut.ensures.laid

pub returns-else-width-self-clause-laid : goal.returns-else-width-self-clause-laid
returns-else-width-self-clause-laid g c =
    on_ok_weaker c.add_whole.result (λ h. whole_unit g.T.EqualCopy.seen c.args.self.now _ _ _ _ c.width.ensures
    c.if-width-self.false h) c.add_whole.ensures.laid
