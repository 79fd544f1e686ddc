use Rattle.std.proofs.Common.{◌≡◌, ◌+◌, ◌-◌, ◌^◌, ◌≤◌, chars, drop, false, length}
use Rattle.render_sizes.specs.Extents.{capped}
use Rattle.render_sizes.specs.TextSizes.{size_after}
use Rattle.render_sizes.proofs.texts.size_of_characters.Given as goal

-- with what is left it is the size of all
abbrev pub invariant-loop-c : goal.invariant-loop-c
invariant-loop-c l = record {
  same : capped (l.columns + size_after l.gap (drop (length l.yielded) (chars l.text)))
      ≡ capped (size_after false (chars l.text));
  fits : l.columns ≤ 2 ^ 64 - 1;
}
