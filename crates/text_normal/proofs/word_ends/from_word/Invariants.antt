use Rattle.std.proofs.Common.{length}
use denote.Text.{Utf8}
use denote.Shadow.{shadow}
use Rattle.text_normal.specs.MarkedStates.{LeavesWord}
use Rattle.text_normal.proofs.word_ends.from_word.Given as goal

abbrev pub invariant-loop-c : goal.invariant-loop-c
invariant-loop-c l =
    record {
      text : shadow (Utf8 l.rest);
      leaves : LeavesWord l.text l.rest;
    }

abbrev pub decreases-loop-c : goal.decreases-loop-c
decreases-loop-c l = length l.rest
