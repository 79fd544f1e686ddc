use Rattle.std.proofs.Common.{sym, ap, ◌∙◌, chars, not}
use Rattle.std.specs.Prelude.{string_bytes}
use Rattle.text_pieces.specs.Sources.{piece_sources, wrap_seen}
use Rattle.text_preserved.specs.Preserved.{has_solid}
use Rattle.text_preserved.specs.Trimming.{has_solid_text}
use Rattle.text_preserved.proofs.TrimLemmas.{not_empty, sourced_solid}
use Rattle.text_preserved.proofs.reading.has_solid.Goals as goal

pub returns-in-Text : goal.returns-in-Text
returns-in-Text g c =
    ap not c.is_empty.ensures ∙ not_empty c.solid_front.result.now ∙ c.solid_front.ensures.some
    ∙ ap (λ text. has_solid_text c.args.width c.args.wraps (chars text)) c.as_str.ensures.value
    ∙ sym (sourced_solid c.args.width c.args.wraps (chars (string_bytes c.in-Text.piece.text))
    (g.T.EqualCopy.seen c.in-Text.piece.main_tag) (wrap_seen g.T.EqualCopy.seen c.in-Text.piece))
    ∙ ap (λ piece. has_solid c.args.width c.args.wraps (piece_sources g.T.EqualCopy.seen piece)) (sym c.in-Text.is)
