use Rattle.tree_serializer.proofs.WalkLemmas.{node_is_written, walk_is_written}
use Rattle.tree_serializer.proofs.laws.what_a_walk_emits_is_written.Goals as goal

pub returns : goal.returns
returns c = record { node = node_is_written; walk = walk_is_written }
