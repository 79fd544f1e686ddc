use Rattle.text_normal.proofs.NormalReading.{text_read, text_wider}
use Rattle.text_normal.proofs.normal.NormalText.add_text.Goals as goal

pub returns-clause-read : goal.returns-clause-read
returns-clause-read g c =
    text_read g.T.EqualCopy.seen c.add_normal.result c.args.self.now c.add_normal.new.self _ c.add_normal.ensures.read

pub returns-clause-narrow : goal.returns-clause-narrow
returns-clause-narrow g c = λ e width overflow read h.
    text_wider g.T.EqualCopy.seen c.args.self.now _ (c.add_normal.ensures.narrow e) width overflow read h
