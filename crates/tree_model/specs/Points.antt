-- Where an insertion point in memory is.
use Rattle.std.specs.Prelude.{ℕ}
use Rattle.tree_forest.specs.Forest.{Forest}
use Rattle.tree_forest.specs.Places.{Place, based_on, below}
use Rattle.tree_model.specs.declared.insertion_point.InsertionPoint.{InsertionPoint}
use Rattle.tree_model.specs.declared.insertion_point.InsertionPoint.TheVariants.{LastChild, TableFosterParenting}

abbrev pub place_of : {H : Type 0} → (H → ℕ) → Forest → InsertionPoint H → Place
place_of number f (LastChild parent) = below (number parent)
place_of number f (TableFosterParenting table above) = based_on (number table) (number above) f
