use Rattle.std.proofs.Common.{◌≡◌, ◌<◌, IsUtf8, chars, map}
use Rattle.std.specs.Char.{to_ascii_lowercase}
use Rattle.std.specs.Str.Iter.{chars_rest}
use Rattle.tree_names.specs.Counts.{share_of}
use Rattle.tree_names.proofs.counts.shared_place.Given as goal

abbrev pub invariant-loop-c : goal.invariant-loop-c
invariant-loop-c l = record {
  utf8 : IsUtf8 (chars_rest l.c-iterator);
  within : l.share < 128;
  same : share_of l.share (map to_ascii_lowercase (chars (chars_rest l.c-iterator)))
      ≡ share_of 0 (map to_ascii_lowercase (chars l.word));
}
