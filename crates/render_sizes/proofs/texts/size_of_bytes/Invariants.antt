use Rattle.std.proofs.Common.{◌≡◌, ◌+◌, ◌-◌, ◌^◌, ◌≤◌, false, length}
use Rattle.render_sizes.specs.Extents.{capped}
use Rattle.render_sizes.specs.TextSizes.{size_after}
use Rattle.render_sizes.proofs.texts.size_of_bytes.Given as goal

-- with what is left it is the size of all
abbrev pub invariant-loop-byte : goal.invariant-loop-byte
invariant-loop-byte l = record {
  same : capped (l.columns + size_after l.gap l.rest) ≡ capped (size_after false l.bytes);
  fits : l.columns ≤ 2 ^ 64 - 1;
}

abbrev pub decreases-loop-byte : goal.decreases-loop-byte
decreases-loop-byte l = length l.rest
