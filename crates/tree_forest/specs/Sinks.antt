-- What is put into a tree by its sink.
use Rattle.std.specs.Prelude.{ℕ}
use Rattle.tree_forest.specs.Forest.{Forest}
use Rattle.tree_forest.specs.Places.{Child, node, words}
use Rattle.tree_forest.specs.declared.sink.NodeOrText.{NodeOrText}
use Rattle.tree_forest.specs.declared.sink.QuirksMode.{QuirksMode}
use Rattle.tree_forest.specs.declared.sink.NodeOrText.TheVariants.{AppendNode, AppendText}

abbrev pub child_of : {H : Type 0} → (H → ℕ) → NodeOrText H → Child
child_of number (AppendNode handle) = node (number handle)
child_of number (AppendText text) = words text

-- What a sink of trees is seen as: the number of the node that a handle stands for, and the handle of a number; its
-- forest and its quirks mode.
pub record SinkView (S H : Type 0) : Type 0 where
  pub number : H → ℕ
  pub handle : ℕ → H
  pub forest : S → Forest
  pub quirks : S → QuirksMode
