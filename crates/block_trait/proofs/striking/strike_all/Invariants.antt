use Rattle.std.proofs.Common.{◌≡◌, length, take, chars, string_bytes}
use Rattle.std.specs.Prelude.{flat_map}
use Rattle.block_trait.specs.Renderers.{struck_character}
use Rattle.block_trait.proofs.striking.strike_all.Given as goal

abbrev pub invariant-loop-c : goal.invariant-loop-c
invariant-loop-c l =
    chars (string_bytes l.struck) ≡ flat_map (struck_character l.count) (take (length l.yielded) (chars l.text))
