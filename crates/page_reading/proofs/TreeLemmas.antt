-- A page's tree, of the state that its reading ends in.
use Rattle.std.proofs.Common.{ℕ, List, refl}
use Rattle.tree_forest.specs.Forest.{Forest}
use Rattle.tree_forest.specs.declared.sink.QuirksMode.{QuirksMode}
use Rattle.html_tree_builder.specs.Grown.{Beginning, IsTreeOfPage, ReadsTo}
use Rattle.rules_table.specs.State.{State}

pub tree_of_reading : {H : Type 0} (handle : ℕ → H) (from : Beginning) (text : List ℕ) →
    (final : State) × ReadsTo handle from text final →
    (forest : Forest) × (mode : QuirksMode) × IsTreeOfPage handle from text forest mode
tree_of_reading handle from text read = (
  read.0.tree.forest,
  read.0.tree.quirks,
  record { final = read.0; reading = read.1; nodes = refl; mode = refl },
)
