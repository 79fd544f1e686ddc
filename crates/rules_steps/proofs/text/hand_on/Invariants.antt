use Rattle.std.proofs.Common.{◌≡◌, ℕ, List, ◌∷◌}
use Rattle.rules_actions.specs.Parsed.{parsed}
use Rattle.rules_table.specs.Rank.{rank}
use Rattle.rules_table.specs.Rows.{is_white_space}
use Rattle.rules_table.specs.State.{null}
use Rattle.rules_table_laws.specs.TextRuns.{IsCalm, took}
use Rattle.rules_steps.proofs.text.hand_on.Given as goal

abbrev pub invariant-rules : goal.invariant-rules
invariant-rules g l =
    let tree = g.S.TreeSink in
    let now = parsed tree.view l.page.kept l.page.tree.held l.page.tree.sink in
    let first = parsed tree.view l.fn.page.kept l.fn.page.tree.held l.fn.page.tree.sink in
    record {
      calm : IsCalm now;
      same : (c : ℕ) (cs : List ℕ) → is_white_space c ≡ l.is_space → took (c ∷ cs) now ≡ took (c ∷ cs) first;
    }

abbrev pub decreases-rules : goal.decreases-rules
decreases-rules g l =
    let tree = g.S.TreeSink in
    rank null (parsed tree.view l.page.kept l.page.tree.held l.page.tree.sink)
