use Rattle.std.proofs.Common.{length}
use denote.Text.{Utf8}
use denote.Shadow.{shadow}
use Rattle.text_normal.specs.SpacedWords.{HasRun}
use Rattle.text_normal.proofs.spaced_words.run_in_front.Given as goal

abbrev pub invariant-loop-c : goal.invariant-loop-c
invariant-loop-c l =
    record {
      text : shadow (Utf8 l.rest);
      run : HasRun l.text l.rest l.columns l.room;
    }

abbrev pub decreases-loop-c : goal.decreases-loop-c
decreases-loop-c l = length l.rest
