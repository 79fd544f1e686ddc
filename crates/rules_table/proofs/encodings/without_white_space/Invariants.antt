use Rattle.std.proofs.Common.{◌≡◌, chars, length}
use denote.Text.{Utf8}
use denote.Shadow.{shadow}
use Rattle.rules_table.specs.Encodings.{without_white_space}
use Rattle.rules_table.proofs.encodings.without_white_space.Given as goal

abbrev pub invariant-spaces : goal.invariant-spaces
invariant-spaces l = record {
  text : shadow (Utf8 l.rest);
  same : without_white_space (chars l.rest) ≡ without_white_space (chars l.text);
}

abbrev pub decreases-spaces : goal.decreases-spaces
decreases-spaces l = length l.rest
