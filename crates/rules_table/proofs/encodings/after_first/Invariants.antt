use Rattle.std.proofs.Common.{◌≡◌, chars, length}
use denote.Text.{Utf8}
use denote.Shadow.{shadow}
use Rattle.rules_table.specs.Encodings.{after_first}
use Rattle.rules_table.proofs.encodings.after_first.Given as goal

abbrev pub invariant-places : goal.invariant-places
invariant-places l = record {
  text : shadow (Utf8 l.left);
  same : after_first (chars l.left) ≡ after_first (chars l.content);
}

abbrev pub decreases-places : goal.decreases-places
decreases-places l = length l.left
