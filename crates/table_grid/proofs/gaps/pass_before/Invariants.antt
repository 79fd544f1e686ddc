use Rattle.std.proofs.Common.{◌≡◌, ◌≤◌, ◌<◌, ◌-◌, length}
use Rattle.table_grid.specs.Covers.{cover_at}
use Rattle.table_grid.proofs.gaps.pass_before.Given as goal

abbrev pub invariant-loop-at : goal.invariant-loop-at
invariant-loop-at l = record {
  from : l.next ≤ l.at;
  within : l.at ≤ length l.own;
  none : l.at ≡ l.next → l.end ≡ l.before;
  last : l.next < l.at → ((cover_at l.own (l.at - 1)).left < l.limit) × (l.end ≡ (cover_at l.own (l.at - 1)).right);
}

abbrev pub decreases-loop-at : goal.decreases-loop-at
decreases-loop-at l = length l.own - l.at
