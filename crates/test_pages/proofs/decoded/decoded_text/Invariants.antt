use Rattle.std.proofs.Common.{◌≡◌, false, take, [], string_bytes, flat_map}
use Rattle.page_decoding.proofs.DecoderReads.{HasRead}
use Rattle.test_pages.proofs.decoded.decoded_text.Given as goal

abbrev pub invariant-loop-piece : goal.invariant-loop-piece
invariant-loop-piece l =
    (l.decoder.has_failed ≡ false)
    × HasRead [] (flat_map (λ piece. piece.items) (take l.piece-index l.pieces)) (string_bytes l.text) l.decoder.held
