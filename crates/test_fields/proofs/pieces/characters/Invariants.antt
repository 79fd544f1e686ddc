use Rattle.std.proofs.Common.{◌≡◌, ◌∷◌, [], chars, length, map, string_bytes, take}
use Rattle.test_fields.proofs.pieces.characters.Given as goal

abbrev pub invariant-loop-c : goal.invariant-loop-c
invariant-loop-c l =
    map (λ piece. chars (string_bytes piece)) l.pieces.items
    ≡ map (λ c. c ∷ []) (take (length l.yielded) (chars l.text))
