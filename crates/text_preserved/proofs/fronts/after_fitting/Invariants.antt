use Rattle.std.proofs.Common.{◌≡◌, ◌+◌, length}
use denote.Text.{Utf8}
use denote.Shadow.{shadow}
use Rattle.text_lines.specs.Columns.{text_columns}
use Rattle.text_preserved.specs.Fronts.{HasFront}
use Rattle.text_preserved.proofs.fronts.after_fitting.Given as goal

abbrev pub invariant-loop-c : goal.invariant-loop-c
invariant-loop-c l =
    record {
      text : shadow (Utf8 l.rest);
      runs : HasFront (λ cs. text_columns cs + l.left ≡ l.room) l.text l.rest;
    }

abbrev pub decreases-loop-c : goal.decreases-loop-c
decreases-loop-c l = length l.rest
