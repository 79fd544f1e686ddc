use Rattle.std.proofs.Common.{sym, ap, ◌∙◌, ◌++◌, subst, chars, string_bytes, ◌≡◌}
use Rattle.std.proofs.lemmas.Result.{on_ok_weaker}
use Rattle.text_pieces.specs.Sources.{piece_sources, sourced, wrap_seen}
use Rattle.text_normal.specs.Units.{lettered}
use Rattle.text_normal.specs.NormalStates.{HasRead}
use Rattle.text_normal.specs.Letters.{letters_of}
use Rattle.text_normal.specs.Riders.{has_wide_text}
use Rattle.text_normal.proofs.PieceLemmas.{letters_of_sourced}
use Rattle.text_normal.proofs.MarkedLemmas.{wide_sourced}
use Rattle.text_normal.proofs.normal_lines.read_piece.Goals as goal

pub returns-in-Text-clause-read : goal.returns-in-Text-clause-read
returns-in-Text-clause-read g c =
    let seen = g.T.EqualCopy.seen in
    let letters : letters_of (piece_sources seen c.args.piece.now)
    ≡ lettered (chars (string_bytes c.in-Text.piece.text)) (seen c.in-Text.piece.main_tag) =
    ap (λ piece. letters_of (piece_sources seen piece)) c.in-Text.is
    ∙ letters_of_sourced {S = g.T.EqualCopy.Seen} (chars (string_bytes c.in-Text.piece.text))
    (seen c.in-Text.piece.main_tag) (wrap_seen seen c.in-Text.piece) in
    on_ok_weaker c.add_text.result (λ h. λ width overflow read has.
    subst (λ ls. HasRead seen width overflow (read ++ ls) c.add_text.new.self)
    (ap (λ bytes. lettered (chars bytes) (seen c.in-Text.piece.main_tag)) c.as_str.ensures.value ∙ sym letters)
    (h width overflow read has)) c.add_text.ensures.read

pub returns-in-Text-clause-narrow : goal.returns-in-Text-clause-narrow
returns-in-Text-clause-narrow g c = λ e width overflow read has.
    let seen = g.T.EqualCopy.seen in
    let found = wide_sourced width overflow (chars c.as_str.result.now) (seen c.in-Text.piece.main_tag)
    (seen c.in-Text.piece.main_tag) (wrap_seen seen c.in-Text.piece)
    (c.add_text.ensures.narrow e width overflow read has) in (
      found.0,
      ap (λ piece. has_wide_text width (piece_sources seen piece)) c.in-Text.is
          ∙ ap (λ bytes. has_wide_text width (sourced (chars bytes) (seen c.in-Text.piece.main_tag)
          (wrap_seen seen c.in-Text.piece))) (sym c.as_str.ensures.value) ∙ found.1,
    )
