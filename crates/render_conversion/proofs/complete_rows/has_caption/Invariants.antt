use Rattle.std.proofs.Common.{◌≡◌, length}
use Rattle.tree_forest.specs.Trees.{trees}
use Rattle.tree_forest.specs.Forest.{children_at}
use Rattle.html_render_dom.specs.ChildNodes.{children_left}
use Rattle.html_render_dom.specs.Numbers.{number_of}
use Rattle.render_conversion.specs.CompleteRows.{has_caption}
use Rattle.render_conversion.proofs.complete_rows.has_caption.Given as goal

-- none of those that were looked at is a caption
abbrev pub invariant-children : goal.invariant-children
invariant-children l =
    has_caption (trees l.dom.forest (children_left l.children))
    ≡ has_caption (trees l.dom.forest (children_at (number_of l.fn.node) l.dom.forest))

abbrev pub decreases-children : goal.decreases-children
decreases-children l = length (children_left l.children)
