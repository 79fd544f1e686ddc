use Rattle.std.proofs.Common.{length}
use denote.Text.{Utf8}
use denote.Shadow.{shadow}
use Rattle.text_normal.specs.NormalStates.{RunsTo}
use Rattle.text_normal.proofs.normal.NormalText.after_run.Given as goal

abbrev pub invariant-loop-c : goal.invariant-loop-c
invariant-loop-c g l =
    record {
      text : shadow (Utf8 l.rest);
      runs : RunsTo l.self l.text l.rest;
    }

abbrev pub decreases-loop-c : goal.decreases-loop-c
decreases-loop-c g l = length l.rest
