use Rattle.std.proofs.Common.{◌++◌, ap, sym, ◌∙◌, chars, replicate, string_bytes}
use Rattle.std.proofs.lemmas.Result.{on_ok_weaker}
use Rattle.tree_forest.specs.Forest.{document, nodes}
use Rattle.html_render_dom.specs.Numbers.{number_of}
use Rattle.tree_forest.proofs.Depth.{kind_nowhere, test_false}
use Rattle.test_tree_lines.specs.TreeLines.{kind_lines, node_lines}
use Rattle.test_tree_lines.proofs.AddedLines.{both}
use Rattle.test_tree_lines.proofs.lines.push_node.Goals as goal

pub returns-in-None : goal.returns-in-None
returns-in-None c =
    let f = c.args.dom.now.forest in
    let n = number_of c.args.node in
    let level = c.args.level in
    let old = chars (string_bytes c.args.lines.now) in
    on_ok_weaker c.push_other.result
    (λ e. both old (chars (string_bytes c.push_level.new.lines)) (chars (string_bytes c.push_other.new.lines))
    (replicate level 32) (kind_lines level document) c.in_ok-push_level.ensures e
    ∙ ap (λ kind. old ++ node_lines level kind)
    (sym (kind_nowhere n f (test_false n (nodes f) (sym c.in-None.ensures.stands)))))
    c.push_other.ensures
