use Rattle.std.proofs.Common.{[], ◌∷◌, ◌++◌, ap, ◌∙◌, chars, map, string_bytes}
use Rattle.std.proofs.lemmas.Iterator.{YieldsList-from_chars}
use Rattle.std.proofs.lemmas.Iterator.Consumers.{YieldsList-turn, YieldsList-end}
use Rattle.std.proofs.lemmas.List.{map-append}
use Rattle.test_fields.proofs.TurnLemmas.{all_taken, next_piece}
use Rattle.test_fields.proofs.pieces.characters.Goals as goal

pub loop-c-preserved : goal.loop-c-preserved
loop-c-preserved c =
    let text = c.args.text.now in
    let turn = YieldsList-turn (YieldsList-from_chars text c.utf8.text cc) c.loop-c.yielded _
    c.loop-c.yielded_by _ _ c.in-Some.c c.in-Some.is c.next.ensures.steps in
    next_piece (chars text) c.loop-c.yielded c.in-Some.c turn
    (map (λ piece. chars (string_bytes piece)) c.loop-c.pieces.items)
    (map (λ piece. chars (string_bytes piece)) c.push.new.self.items) c.loop-c.invariant
    (ap (map (λ piece. chars (string_bytes piece))) c.in_ok-push.ensures.items
    ∙ map-append (λ piece. chars (string_bytes piece)) c.loop-c.pieces.items (c.in_ok-piece_of.field-0 ∷ [])
    ∙ ap (λ l. map (λ piece. chars (string_bytes piece)) c.loop-c.pieces.items ++ l ∷ []) c.in_ok-piece_of.ensures)

pub returns : goal.returns
returns c =
    let text = c.args.text.now in
    let end = YieldsList-end (YieldsList-from_chars text c.utf8.text cc) c.loop-c.yielded _
    c.loop-c.yielded_by _ _ c.in-None.is c.next.ensures.steps in
    c.loop-c.invariant ∙ ap (map (λ d. d ∷ [])) (all_taken (chars text) c.loop-c.yielded end.1)
