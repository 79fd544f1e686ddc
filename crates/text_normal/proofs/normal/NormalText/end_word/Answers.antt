use Rattle.std.proofs.lemmas.Result.{on_ok_weaker}
use Rattle.text_normal.proofs.NormalReading.{no_columns, some_columns}
use Rattle.text_normal.proofs.normal.NormalText.end_word.Goals as goal

pub returns-then-width-eq0-clause-read : goal.returns-then-width-eq0-clause-read
returns-then-width-eq0-clause-read g c = no_columns g.T.EqualCopy.seen c.args.self.now _ c.width.ensures
    c.if-width-eq0.true

pub returns-else-width-eq0-clause-read : goal.returns-else-width-eq0-clause-read
returns-else-width-eq0-clause-read g c =
    on_ok_weaker c.lay_word.result (λ h. some_columns g.T.EqualCopy.seen c.args.self.now _ _ c.width.ensures
    c.if-width-eq0.false h) c.lay_word.ensures.read
