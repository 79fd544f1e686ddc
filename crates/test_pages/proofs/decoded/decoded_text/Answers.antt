use Rattle.std.proofs.Common.{◌≡◌, ◌+◌, ◌++◌, [], ◌∷◌, ◌∙◌, Global, List, Vec, ap, flat_map, string_bytes, sym, take}
use Rattle.std.proofs.Common.{take_all, ℕ}
use Rattle.std.specs.Str.{chars}
use Rattle.std.proofs.lemmas.List.{take_more, flat_map_more}
use Rattle.std.proofs.lemmas.Str.{IsUtf8-string_bytes}
use Rattle.page_decoding.specs.ReplacedText.{replaced_text}
use Rattle.page_decoding.proofs.DecoderReads.{HasRead-piece, chars-last}
use Rattle.test_pages.proofs.decoded.decoded_text.Goals as goal

pub loop-piece-preserved : goal.loop-piece-preserved
loop-piece-preserved c =
    let bytes : Vec ℕ Global → List ℕ = λ piece. piece.items in
    let pieces = c.args.pieces.now in
    let index = c.loop-piece.piece-index in
    let item = c.piece-item.result in
    let text = string_bytes c.loop-piece.text in
    let read =
    HasRead-piece (flat_map bytes (take index pieces)) text _ _ _ _ c.loop-piece.invariant.1
    c.in_ok-push.ensures.text (IsUtf8-string_bytes c.loop-piece.text) in
    let more : take (index + 1) pieces ≡ take index pieces ++ item ∷ [] =
    take_more pieces index item c.loop-piece-test.true ∙ ap (λ x. take index pieces ++ x ∷ []) (sym c.piece-item.is) in
    let joined_is : flat_map bytes (take (index + 1) pieces) ≡ flat_map bytes (take index pieces)
    ++ c.deref.result.now =
    ap (flat_map bytes) more ∙ sym (flat_map_more bytes [] (take index pieces) item) ∙
    ap (λ t. flat_map bytes (take index pieces) ++ t) (sym c.deref.ensures.value) in
    let text_is : string_bytes c.push_str.new.self ≡ text ++ string_bytes c.in_ok-push.field-0 =
    c.in_ok-push_str.ensures.bytes ∙ ap (λ t. text ++ t) c.as_str.ensures.value in
    (sym c.in_ok-push.ensures.refused, rw (joined_is, text_is) read)

pub returns-clause-text : goal.returns-clause-text
returns-clause-text c =
    let bytes : Vec ℕ Global → List ℕ = λ piece. piece.items in
    let pieces = c.args.pieces.now in
    let index = c.loop-piece.piece-index in
    let text = string_bytes c.loop-piece.text in
    let text_is : string_bytes c.push_str-2.new.self ≡ text ++ string_bytes c.in_ok-finish.field-0 =
    c.in_ok-push_str-2.ensures.bytes ∙ ap (λ t. text ++ t) c.as_str-2.ensures.value in
    ap chars text_is ∙ chars-last (flat_map bytes (take index pieces)) text _ _ c.loop-piece.invariant.1
    c.in_ok-finish.ensures.text (IsUtf8-string_bytes c.loop-piece.text)
    ∙ ap (λ ps. replaced_text (flat_map bytes ps)) (take_all index pieces c.loop-piece-test.false)
