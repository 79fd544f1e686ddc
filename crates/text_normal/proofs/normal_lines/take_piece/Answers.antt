use Rattle.std.proofs.Common.{sym, ap, ◌∙◌, ◌++◌, subst}
use Rattle.std.proofs.lemmas.Result.{on_ok_weaker}
use Rattle.text_pieces.specs.Sources.{piece_sources}
use Rattle.text_normal.specs.NormalStates.{HasRead}
use Rattle.text_normal.specs.Letters.{letters_of}
use Rattle.text_normal.specs.Riders.{has_wide_text}
use Rattle.text_normal.proofs.normal_lines.take_piece.Goals as goal

pub returns-in-Text-clause-read : goal.returns-in-Text-clause-read
returns-in-Text-clause-read g c =
    let seen = g.T.EqualCopy.seen in
    on_ok_weaker c.take_text.result (λ h. λ width overflow read has.
    subst (λ ls. HasRead seen width overflow (read ++ ls) c.take_text.new.text)
    (ap (λ piece. letters_of (piece_sources seen piece)) (sym c.in-Text.is)) (h width overflow read has))
    c.take_text.ensures.read

pub returns-in-Text-clause-narrow : goal.returns-in-Text-clause-narrow
returns-in-Text-clause-narrow g c = λ e width overflow read has.
    let found = c.take_text.ensures.narrow e width overflow read has in (
      found.0,
      ap (λ piece. has_wide_text width (piece_sources g.T.EqualCopy.seen piece)) c.in-Text.is ∙ found.1,
    )
