-- Nodes that are still to be read.
use Rattle.std.specs.Prelude.{ℕ, List, [], ◌∷◌, ◌++◌}
use Rattle.html_render_dom.specs.ChildNodes.{children_left}
use Rattle.html_render_dom.specs.Numbers.{number_of}
use Rattle.render_conversion.specs.declared.waiting.Row.{Row}

-- the numbers of the nodes in some rows
abbrev pub numbers_in : List Row → List ℕ
numbers_in [] = []
numbers_in (r ∷ rs) = number_of r.first ∷ (children_left r.others ++ numbers_in rs)
