use Rattle.std.proofs.lemmas.Result.{on_ok_weaker}
use Rattle.text_normal.proofs.NormalFilling.{cut_laid}
use Rattle.text_normal.proofs.filling.Filling.add_cut.Goals as goal

pub returns-clause-laid : goal.returns-clause-laid
returns-clause-laid g c =
    on_ok_weaker c.cut_word.result (λ h. cut_laid g.T.EqualCopy.seen c.args.self.now c.end_line.new.self _ _
    c.in_ok-end_line.ensures.laid h) c.cut_word.ensures.laid
