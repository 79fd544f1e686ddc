use Rattle.std.proofs.Common.{sym, ap, ◌∙◌, chars, string_bytes}
use Rattle.text_pieces.specs.Sources.{piece_sources, wrap_seen}
use Rattle.text_normal.specs.Letters.{has_marker}
use Rattle.text_normal.proofs.PieceLemmas.{has_marker_sourced}
use Rattle.text_normal.proofs.normal_lines.is_marker.Goals as goal

pub returns-in-Text : goal.returns-in-Text
returns-in-Text g c =
    sym (ap (λ piece. has_marker (piece_sources g.T.EqualCopy.seen piece)) c.in-Text.is
    ∙ has_marker_sourced {S = g.T.EqualCopy.Seen} (chars (string_bytes c.in-Text.field-0.text))
    (g.T.EqualCopy.seen c.in-Text.field-0.main_tag) (wrap_seen g.T.EqualCopy.seen c.in-Text.field-0))
