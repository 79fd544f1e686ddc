-- The lines that are still to come, those of the last siblings first.
use Rattle.std.specs.Prelude.{◌≡◌, ℕ, ◌<◌, length, List, [], ◌∷◌, ◌++◌, Option, None, Some}
use Rattle.tree_forest.specs.Forest.{Forest, nodes}
use Rattle.html_render_dom.specs.ChildNodes.{children_left}
use Rattle.html_render_dom.specs.Numbers.{handle_of, number_of}
use Rattle.dom_writing.specs.Dumps.{dump_within, joined}
use Rattle.dom_writing.specs.declared.coming.Coming.{Coming}

-- of siblings, and of what is below them
abbrev pub lines_of : Forest → Coming → List ℕ
lines_of f c = joined (dump_within (nodes f) f c.level) (number_of c.node ∷ children_left c.others)

abbrev pub lines_to_come : Forest → List Coming → List ℕ
lines_to_come f [] = []
lines_to_come f (c ∷ cs) = lines_to_come f cs ++ lines_of f c

-- siblings at a level
abbrev pub row : ℕ → List ℕ → Option Coming
row level [] = None
row level (n ∷ ns) = Some (record { node = handle_of n; others = ns; level = level })

-- what comes next after what waits; without a next one nothing waits
abbrev pub all_of : Option Coming → List Coming → List Coming
all_of None cs = []
all_of (Some c) cs = cs ++ c ∷ []

-- what is written and what is to come stay the whole, and less is to come
abbrev pub IsStep : Forest → List ℕ → List Coming → List ℕ → List Coming → Type 0
IsStep f lines cs more ds = (more ++ lines_to_come f ds ≡ lines ++ lines_to_come f cs)
    × (length (lines_to_come f ds) < length (lines_to_come f cs))
