use Rattle.std.proofs.Common.{take, sym, take-append-drop, append-nil}
use Rattle.tree_serializer.proofs.GrowthLemmas.{all_written, more_written, no_bytes, nothing_written, on_err}
use Rattle.tree_serializer.proofs.GrowthLemmas.{part_written}
use Rattle.tree_serializer.proofs.writes.write_all.Goals as goal

pub bytes-init : goal.bytes-init
bytes-init g c = nothing_written _ _ _

pub bytes-preserved : goal.bytes-preserved
bytes-preserved g c =
    let n = c.in_ok-count.count in
    more_written (take n c.bytes.rest.now) c.split_at.result.1.now c.bytes.invariant c.in_ok-count.ensures.bytes
    (rw c.split_at.ensures.back (sym (take-append-drop n c.bytes.rest.now))) c.in_ok-count.ensures.stays

pub returns-in_err-count-clause-part : goal.returns-in_err-count-clause-part
returns-in_err-count-clause-part g c =
    on_err _ c.from_residual.ensures.0
    (part_written c.bytes.rest.now _ c.bytes.invariant c.in_err-count.ensures.part (sym (append-nil c.bytes.rest.now)))

pub returns-clause-ok : goal.returns-clause-ok
returns-clause-ok g c = all_written c.bytes.invariant (no_bytes _ _ c.is_empty.ensures c.bytes-test.false)
