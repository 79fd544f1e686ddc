use Rattle.std.proofs.Common.{◌≡◌, ◌++◌, replicate, chars, string_bytes}
use Rattle.block_trait.proofs.striking.push_strokes.Given as goal

abbrev pub invariant-loop-stroke : goal.invariant-loop-stroke
invariant-loop-stroke l =
    chars (string_bytes l.struck) ≡ chars (string_bytes l.fn.struck) ++ replicate l._stroke 0x336
