-- A tree as lines, one for each node in document order, after a space for each level.
use Rattle.std.specs.Prelude.{ℕ, zero, suc, ◌+◌, ◌==◌, List, [], ◌∷◌, ◌++◌, flat_map, replicate, codes, if◌then◌else◌}
use Rattle.tree_forest.specs.Forest.{Forest, Kind, children_at, comment, doctype, document, element, instruction}
use Rattle.tree_forest.specs.Forest.{kind_at, nodes, text}

-- for each of some nodes in turn
abbrev pub joined : {A : Type 0} → (ℕ → List A) → List ℕ → List A
joined of_node [] = []
joined of_node (n ∷ ns) = of_node n ++ joined of_node ns

-- a line end as `\n`, a backslash twice
abbrev pub shown_character : ℕ → List ℕ
shown_character c = if c == 0xA then codes "\\n" else if c == 0x5C then codes "\\\\" else c ∷ []

abbrev pub shown : List ℕ → List ℕ
shown cs = flat_map shown_character cs

abbrev pub kind_text : Kind → List ℕ
kind_text document = codes "Document"
kind_text (doctype name public system) = codes "Doctype:" ++ name
kind_text (text cs) = codes "Text:" ++ shown cs
kind_text (comment cs) = codes "Comment:" ++ shown cs
kind_text (instruction target cs) = codes "PI:" ++ target
kind_text (element e) = codes "<" ++ e.name.local ++ codes ">"

abbrev pub line_text : ℕ → Kind → List ℕ
line_text level kind = replicate level 0x20 ++ kind_text kind ++ 0xA ∷ []

-- a node and what is below it, at a level; a forest of so many nodes is at most so many deep
abbrev pub dump_within : ℕ → Forest → ℕ → ℕ → List ℕ
dump_within zero f level n = []
dump_within (suc k) f level n =
    line_text level (kind_at n f) ++ joined (dump_within k f (level + 1)) (children_at n f)

abbrev pub dump_of : ℕ → Forest → List ℕ
dump_of n f = dump_within (nodes f) f 0 n
