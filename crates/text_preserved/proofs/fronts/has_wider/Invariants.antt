use Rattle.std.proofs.Common.{◌≡◌, length, chars}
use denote.Text.{Utf8}
use denote.Shadow.{shadow}
use Rattle.text_preserved.specs.Fronts.{has_wider}
use Rattle.text_preserved.proofs.fronts.has_wider.Given as goal

abbrev pub invariant-loop-c : goal.invariant-loop-c
invariant-loop-c l =
    record {
      text : shadow (Utf8 l.rest);
      wider : has_wider l.width (chars l.rest) ≡ has_wider l.width (chars l.text);
    }

abbrev pub decreases-loop-c : goal.decreases-loop-c
decreases-loop-c l = length l.rest
