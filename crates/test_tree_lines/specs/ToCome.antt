-- The lines that are still to come, those of the last siblings first.
use Rattle.std.specs.Prelude.{◌≡◌, ℕ, ◌<◌, length, List, [], ◌∷◌, ◌++◌}
use Rattle.tree_forest.specs.Forest.{Forest}
use Rattle.html_render_dom.specs.ChildNodes.{children_left}
use Rattle.html_render_dom.specs.Numbers.{number_of}
use Rattle.test_tree_lines.specs.TreeLines.{row_lines}
use Rattle.test_tree_lines.specs.declared.coming.Coming.{Coming}

-- of siblings, and of what is below them
abbrev pub lines_in : Forest → Coming → List ℕ
lines_in f c = row_lines f c.level (number_of c.node ∷ children_left c.others)

abbrev pub lines_to_come : Forest → List Coming → List ℕ
lines_to_come f [] = []
lines_to_come f (c ∷ cs) = lines_to_come f cs ++ lines_in f c

-- the first of some siblings is written, before what waits: the whole stays, and less is to come
abbrev pub IsStep : Forest → Coming → List ℕ → List Coming → List ℕ → List Coming → Type 0
IsStep f first lines cs more ds = (more ++ lines_to_come f ds ≡ lines ++ (lines_in f first ++ lines_to_come f cs))
    × (length (lines_to_come f ds) < length (lines_in f first ++ lines_to_come f cs))
