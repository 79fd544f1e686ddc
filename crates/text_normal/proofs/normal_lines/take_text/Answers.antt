use Rattle.std.proofs.Common.{sym, ◌++◌, subst, chars, string_bytes, ◌≡◌}
use Rattle.std.proofs.lemmas.Result.{on_ok_weaker}
use Rattle.text_pieces.specs.Sources.{text_sources, wrap_seen}
use Rattle.text_normal.specs.Units.{lettered}
use Rattle.text_normal.specs.NormalStates.{HasRead}
use Rattle.text_normal.specs.Letters.{letters_of}
use Rattle.text_normal.proofs.PieceLemmas.{letters_of_sourced}
use Rattle.text_normal.proofs.MarkedLemmas.{wide_sourced}
use Rattle.text_normal.proofs.normal_lines.take_text.Goals as goal

pub returns-clause-read : goal.returns-clause-read
returns-clause-read g c =
    let seen = g.T.EqualCopy.seen in
    let letters : letters_of (text_sources seen c.args.piece)
    ≡ lettered (chars (string_bytes c.args.piece.text)) (seen c.args.piece.main_tag) =
    letters_of_sourced {S = g.T.EqualCopy.Seen} (chars (string_bytes c.args.piece.text)) (seen c.args.piece.main_tag)
    (wrap_seen seen c.args.piece) in
    on_ok_weaker c.add_string.result (λ h. λ width overflow read has.
    subst (λ ls. HasRead seen width overflow (read ++ ls) c.add_string.new.self) (sym letters)
    (h width overflow read has)) c.add_string.ensures.read

pub returns-clause-narrow : goal.returns-clause-narrow
returns-clause-narrow g c = λ e width overflow read has.
    let seen = g.T.EqualCopy.seen in
    wide_sourced width overflow (chars (string_bytes c.args.piece.text)) (seen c.args.piece.main_tag)
    (seen c.args.piece.main_tag) (wrap_seen seen c.args.piece)
    (c.add_string.ensures.narrow e width overflow read has)
