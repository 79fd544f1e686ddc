use Rattle.std.proofs.Common.{◌≡◌, chars, length}
use denote.Text.{Utf8}
use denote.Shadow.{shadow}
use Rattle.text_preserved.specs.Trimming.{has_solid_text, solid_text, IsFrontOf}
use Rattle.text_preserved.proofs.reading.solid_front.Given as goal

abbrev pub invariant-loop-before : goal.invariant-loop-before
invariant-loop-before l =
    record {
      text : shadow (Utf8 l.rest);
      front : solid_text l.width l.wraps (chars l.rest) ≡ solid_text l.width l.wraps (chars l.text);
      some : has_solid_text l.width l.wraps (chars l.rest) ≡ has_solid_text l.width l.wraps (chars l.text);
      front_of : IsFrontOf l.text l.rest;
    }

abbrev pub decreases-loop-before : goal.decreases-loop-before
decreases-loop-before l = length l.rest
