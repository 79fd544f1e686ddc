use Rattle.std.proofs.Common.{length, ◌-◌, ◌≡◌, ◌<◌, ◌≤◌, ℕ, slice_index, false}
use Rattle.html_lexemes.specs.QueueParts.{is_marked}
use Rattle.html_lexemes.proofs.runs.length_before.Given as goal

abbrev pub invariant-loop-at : goal.invariant-loop-at
invariant-loop-at l =
    (l.at ≤ length l.bytes) × ((k : ℕ) → k < l.at → is_marked l.marks (slice_index l.bytes k) ≡ false)

abbrev pub decreases-loop-at : goal.decreases-loop-at
decreases-loop-at l = length l.bytes - l.at
