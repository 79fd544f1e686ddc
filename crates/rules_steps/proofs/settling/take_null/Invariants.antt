use Rattle.std.proofs.Common.{◌≡◌}
use Rattle.rules_actions.specs.Parsed.{parsed}
use Rattle.rules_table.specs.Rank.{rank}
use Rattle.rules_table.specs.Settling.{Ready, taken}
use Rattle.rules_table.specs.State.{null}
use Rattle.rules_steps.proofs.settling.take_null.Given as goal

abbrev pub invariant-rules : goal.invariant-rules
invariant-rules g l =
    let tree = g.S.TreeSink in
    let now = parsed tree.view l.page.kept l.page.tree.held l.page.tree.sink in
    let first = parsed tree.view l.fn.page.kept l.fn.page.tree.held l.fn.page.tree.sink in
    record { ready : Ready now; same : taken null now ≡ taken null first }

abbrev pub decreases-rules : goal.decreases-rules
decreases-rules g l =
    let tree = g.S.TreeSink in
    rank null (parsed tree.view l.page.kept l.page.tree.held l.page.tree.sink)
