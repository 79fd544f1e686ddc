use Rattle.std.proofs.Common.{refl, ap, chars, string_bytes}
use Rattle.std.specs.Prelude.{Some}
use Rattle.text_normal.proofs.SpacedMoved.{line_ends_in_space, line_moved}
use Rattle.text_normal.proofs.normal.NormalText.begin_line.Goals as goal

pub move_words-requires : goal.move_words-requires
move_words-requires g c = line_ends_in_space (chars (string_bytes c.args.text)) c.args.columns c.requires.words

pub returns : goal.returns
returns g c =
    line_moved g.T.EqualCopy.seen c.args.self.now _ (chars (string_bytes c.args.text)) c.args.columns
    (g.T.EqualCopy.seen c.args.tag) c.requires c.in_ok-move_words.ensures refl (ap Some c.in_ok-space.ensures) refl
