-- What a serializer that writes comes to by a walk.
use Rattle.std.specs.Prelude.{◌≡◌, ℕ, true, List}
use Rattle.tree_serializer.specs.Calls.{Reply, done, refused}
use Rattle.tree_serializer.specs.Writing.{Grows, GrowsPart, IsSame, Writing}
use Rattle.tree_serializer.specs.declared.fault.SerializeFault.TheVariants.{Memory, NoParent, Write}

-- A text was written, and the entries are as they were; or a beginning of it was, where the writer failed or memory was
-- wanting. A parent is never missing.
abbrev pub IsWalked : List ℕ → Writing → Reply → Writing → Type 0
IsWalked cs old done new = IsSame old new × (new.entries ≡ old.entries) × Grows cs old.contents new.contents
IsWalked cs old (refused Write) new = IsSame old new × (new.has_failed ≡ true) × GrowsPart cs old.contents new.contents
IsWalked cs old (refused NoParent) new = ⊥
IsWalked cs old (refused Memory) new = IsSame old new × GrowsPart cs old.contents new.contents
