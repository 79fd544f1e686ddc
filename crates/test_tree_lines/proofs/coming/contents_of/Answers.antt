use Rattle.std.proofs.Common.{ap, sym}
use Rattle.tree_forest.specs.Forest.{element_of, nodes}
use Rattle.html_render_dom.specs.Numbers.{number_of}
use Rattle.tree_forest.proofs.Depth.{kind_nowhere, test_false}
use Rattle.test_tree_lines.proofs.coming.contents_of.Goals as goal

pub returns-in_err-template_contents : goal.returns-in_err-template_contents
returns-in_err-template_contents c =
    let f = c.args.dom.now.forest in
    let n = number_of c.args.node in
    rw c.from_residual.ensures (ap (λ kind. (element_of kind).contents)
    (sym (kind_nowhere n f (test_false n (nodes f) (sym c.in_err-template_contents.ensures.stands)))))
