use Rattle.std.proofs.Common.{◌≡◌, chars, length}
use denote.Shadow.{shadow}
use denote.Text.{Utf8}
use Rattle.rules_actions.specs.Parsed.{parsed}
use Rattle.rules_table_laws.specs.TextRuns.{IsCalm, took}
use Rattle.rules_steps.proofs.text.take_runs.Given as goal

abbrev pub invariant-runs : goal.invariant-runs
invariant-runs g l =
    let tree = g.S.TreeSink in
    let now = parsed tree.view l.page.kept l.page.tree.held l.page.tree.sink in
    let first = parsed tree.view l.fn.page.kept l.fn.page.tree.held l.fn.page.tree.sink in
    record {
      calm : IsCalm now;
      utf8 : shadow (Utf8 l.rest);
      same : took (chars l.rest) now ≡ took (chars l.fn.text) first;
    }

abbrev pub decreases-runs : goal.decreases-runs
decreases-runs g l = length (chars l.rest)
