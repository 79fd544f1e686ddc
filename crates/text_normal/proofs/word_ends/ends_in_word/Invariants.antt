use Rattle.std.proofs.Common.{◌≡◌, chars, length}
use denote.Text.{Utf8}
use denote.Shadow.{shadow}
use Rattle.text_normal.specs.MarkedStates.{in_word_after}
use Rattle.text_normal.proofs.word_ends.ends_in_word.Given as goal

abbrev pub invariant-loop-before : goal.invariant-loop-before
invariant-loop-before l =
    record {
      text : shadow (Utf8 l.rest);
      same : in_word_after l.width l.in_word (chars l.text) ≡ in_word_after l.width l.in_word (chars l.rest);
    }

abbrev pub decreases-loop-before : goal.decreases-loop-before
decreases-loop-before l = length l.rest
