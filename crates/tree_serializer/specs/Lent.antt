-- What is seen of a serializer whose writer is lent: the reference that it holds stays the same.
use Rattle.std.specs.Prelude.{◌≡◌, ℕ}
use Rattle.tree_serializer.specs.Calls.{Call, Reply}
use Rattle.tree_serializer.specs.Writing.{Means, Writing}

pub record Lent : Type 0 where
  pub writing : Writing
  pub reference : ℕ

abbrev pub LentMeans : Lent → Call → Reply → Lent → Type 0
LentMeans old call reply new = Means old.writing call reply new.writing × (new.reference ≡ old.reference)
