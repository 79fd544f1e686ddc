use Rattle.std.proofs.Common.{refl, sym, ap, ◌∙◌, chars, string_bytes}
use Rattle.std.proofs.lemmas.Result.{on_ok_weaker}
use Rattle.text_lines.specs.Columns.{text_columns}
use Rattle.text_normal.proofs.SpacedMoved.{text_pushed}
use Rattle.text_normal.proofs.filling.Filling.move_words.Goals as goal

pub push_string-requires : goal.push_string-requires
push_string-requires g c =
    c.requires.counted ∙ sym (ap text_columns (c.without_last.ensures c.requires.front 0x20 c.requires.whole))

pub returns : goal.returns
returns g c =
    on_ok_weaker c.push_string.result (λ added. λ front whole.
    text_pushed g.T.EqualCopy.seen c.args.self.now _ front (chars (string_bytes c.without_last.result))
    (g.T.EqualCopy.seen c.args.tag) refl refl refl added c.push_string.ensures.joined
    (c.without_last.ensures front 0x20 whole)) c.push_string.ensures.ok
