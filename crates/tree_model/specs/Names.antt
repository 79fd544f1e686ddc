-- The names of the open elements, the current node first.
use Rattle.std.specs.Prelude.{List, map}
use Rattle.tree_forest.specs.Forest.{name_of}
use Rattle.html_lexemes.specs.declared.names.QualName.{QualName}
use Rattle.tree_model.specs.Building.{Building}

abbrev pub names_of : Building → List QualName
names_of b = map (λ n. name_of n b.forest) b.stack
