use Rattle.std.proofs.Common.{◌≡◌, List, [], ◌∷◌, String, length, refl, sym, arith, subst}
use Rattle.std.specs.Vec.Iter.{into_iter_items}
use Rattle.html_tokenizer.specs.Completes.{Completes}
use Rattle.html_tokenizer.specs.Pieces.{joined}
use Rattle.html_tokenizer.proofs.pieces.read_pieces.Goals as goal

no_pieces : {Z : Type 0} (pieces : List (String Z)) → length pieces ≡ 0 → joined pieces ≡ []
no_pieces [] e = refl
no_pieces (piece ∷ pieces) e = absurd (omega arith)

pub returns-clause-emitted : goal.returns-clause-emitted
returns-clause-emitted g c =
    let emitted = c.in_ok-end.ensures.completes in
    let left : length (into_iter_items c.pieces.piece-iterator) ≡ 0 =
    omega (arith, c.pieces.piece-iterator.rest.ok.0, c.in-None.ensures.steps.0) in
    let reads = subst (λ x. Completes g.Sink.TokenSink.state g.Sink.TokenSink.means c.pieces.tokenizer x emitted.0)
    (sym (no_pieces (into_iter_items c.pieces.piece-iterator) left)) emitted.1.0 in
    (emitted.0, (c.pieces.invariant.reads emitted.0 reads, emitted.1.1))
