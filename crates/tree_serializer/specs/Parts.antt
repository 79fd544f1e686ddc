-- A serializer that writes, by its parts.
use Rattle.std.specs.Prelude.{Bool, List, ℕ, Option}
use Rattle.tree_serializer.specs.Entries.{entries_of}
use Rattle.tree_serializer.specs.Writing.{Entry, Writing}
use Rattle.tree_serializer.specs.declared.entries.OpenEntry.{OpenEntry}

abbrev pub writing : (scripting makes_parents : Bool) → List Entry → Option (List ℕ) → Bool → Writing
writing scripting makes es contents failed = record {
  scripting = scripting;
  makes_parents = makes;
  entries = es;
  contents = contents;
  has_failed = failed;
}

-- with what the members of a writer's bound say of it
abbrev pub writing_in : {W : Type 0} → (W → Option (List ℕ)) → (W → Bool) → (scripting makes_parents : Bool) →
    List OpenEntry → W → Writing
writing_in contents has_failed scripting makes es writer =
    writing scripting makes (entries_of es) (contents writer) (has_failed writer)
