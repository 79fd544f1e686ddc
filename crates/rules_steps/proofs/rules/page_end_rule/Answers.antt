use Rattle.std.proofs.Common.{subst, sym}
use Rattle.rules_actions.specs.Follows.{Follows}
use Rattle.rules_actions.specs.Parsed.{state_of}
use Rattle.rules_table.specs.ForeignContent.{is_by_mode}
use Rattle.rules_table.specs.State.{end_of_file}
use Rattle.rules_table.specs.Table.{end_of_file_row}
use Rattle.rules_steps.proofs.RuleLemmas.{either_way}
use Rattle.rules_steps.proofs.rules.page_end_rule.Goals as goal

-- the end is taken by the mode's rules in foreign content too
pub returns : goal.returns
returns g c =
    let tree = g.S.TreeSink in
    let s = state_of tree.view c.args.page.now in
    subst (λ row. Follows tree.view row c.args.page.now c.page_end.new.page c.page_end.result)
    (sym (either_way (is_by_mode end_of_file s) (end_of_file_row s.mode s))) c.page_end.ensures
