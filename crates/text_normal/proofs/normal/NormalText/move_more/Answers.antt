use Rattle.std.proofs.Common.{refl, chars, string_bytes}
use Rattle.std.proofs.lemmas.Result.{on_ok_weaker}
use Rattle.text_normal.proofs.SpacedMoved.{words_end_in_space, more_moved}
use Rattle.text_normal.proofs.normal.NormalText.move_more.Goals as goal

pub move_words-requires : goal.move_words-requires
move_words-requires g c = words_end_in_space (chars (string_bytes c.args.text)) c.args.columns c.requires.words

pub returns : goal.returns
returns g c =
    on_ok_weaker c.move_words.result (λ goes_on. more_moved g.T.EqualCopy.seen c.args.self.now _
    (chars (string_bytes c.args.text)) c.args.columns (g.T.EqualCopy.seen c.args.tag) c.requires goes_on refl refl refl)
    c.move_words.ensures
