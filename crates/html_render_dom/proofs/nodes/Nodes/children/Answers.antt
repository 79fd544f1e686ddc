use Rattle.std.specs.Prelude.{option_map}
use Rattle.html_render_dom.specs.Numbers.{number_of}
use Rattle.html_render_dom.proofs.HeldForests.{all_left, left_children}
use Rattle.html_render_dom.proofs.nodes.Nodes.children.Goals as goal

pub invariant_of-result : goal.invariant_of-result
invariant_of-result c = all_left c.args.self.now (number_of c.args.target)
    (option_map number_of c.child_after-front.result) (option_map number_of c.child_before-back.result)
    c.requires.linked c.child_after-front.ensures c.child_before-back.ensures

pub returns : goal.returns
returns c = left_children c.args.self.now (number_of c.args.target) (option_map number_of c.child_after-front.result)
    (option_map number_of c.child_before-back.result)
    c.requires.linked c.child_after-front.ensures c.child_before-back.ensures
