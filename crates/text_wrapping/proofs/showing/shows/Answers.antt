use Rattle.std.proofs.Common.{ap, chars, string_bytes}
use Rattle.text_wrapping.specs.Blocks.{has_visible}
use Rattle.text_pieces.specs.Sources.{piece_sources, wrap_seen}
use Rattle.text_wrapping.proofs.ShowingLemmas.{shows_text}
use Rattle.text_wrapping.proofs.showing.shows.Goals as goal

pub returns-in-Text : goal.returns-in-Text
returns-in-Text g c =
    let seen = g.T.EqualCopy.seen in
    search (
      c.has_visible_character.ensures,
      c.as_str.ensures.value,
      shows_text (chars (string_bytes c.in-Text.piece.text)) (seen c.in-Text.piece.main_tag)
          (wrap_seen seen c.in-Text.piece),
      ap (λ p. has_visible (piece_sources seen p)) c.in-Text.is,
    )
