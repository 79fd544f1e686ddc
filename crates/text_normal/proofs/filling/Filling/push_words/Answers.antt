use Rattle.std.proofs.Common.{refl, chars}
use Rattle.std.proofs.lemmas.Result.{on_ok_weaker}
use Rattle.text_normal.proofs.SpacedLaying.{words_pushed}
use Rattle.text_normal.proofs.filling.Filling.push_words.Goals as goal

pub returns : goal.returns
returns g c =
    on_ok_weaker c.push_counted.result (λ pushed. words_pushed g.T.EqualCopy.seen c.args.self.now _
    (chars c.args.words.now) (g.T.EqualCopy.seen c.args.tag.now) refl refl refl pushed c.push_counted.ensures.joined)
    c.push_counted.ensures.ok
