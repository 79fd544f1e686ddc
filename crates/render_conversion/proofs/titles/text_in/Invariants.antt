use Rattle.std.proofs.Common.{◌≡◌, ◌++◌}
use Rattle.tree_forest.specs.Trees.{steps, trees}
use Rattle.tree_forest.specs.Forest.{children_at}
use Rattle.html_render_dom.specs.Numbers.{number_of}
use Rattle.render_conversion.specs.Titles.{text_of}
use Rattle.render_conversion.proofs.titles.text_in.Given as goal

-- what was read, before what is still to be read
abbrev pub invariant-nodes : goal.invariant-nodes
invariant-nodes l =
    l.text ++ text_of (trees l.dom.forest l.waiting)
    ≡ text_of (trees l.dom.forest (children_at (number_of l.fn.node) l.dom.forest))

abbrev pub decreases-nodes : goal.decreases-nodes
decreases-nodes l = steps (trees l.dom.forest l.waiting)
