-- What contracts see of a `ReferenceTable`, and of what one is made of.
use Rattle.std.specs.Prelude.{ℕ, Bool, IsTrue, ◌&&◌, List, map, chars, string_bytes}
use Rattle.std.specs.List.{list_all}
use Rattle.std.specs.Ordering.{nat_cmp}
use Rattle.std.specs.Cmp.Lexicographic.{slice_cmp}
use Rattle.std.specs.FinMap as finite
use denote.Ref.{Bor}
use Rattle.lex_base.specs.declared.table.Reference as stored
use Rattle.lex_base.specs.References.{Reference, References, is_name, is_value}

-- a name and its characters, as code points
abbrev pub reference_of : stored.Reference → Reference
reference_of r = (chars (string_bytes r.name), chars (string_bytes r.value))

abbrev pub references_of : List stored.Reference → List Reference
references_of rs = map reference_of rs

abbrev pub table_of : List stored.Reference → References
table_of rs = finite.from_sorted (references_of rs)

-- each name stands once, in the order of the names
abbrev pub AreInOrder : List stored.Reference → Type 0
AreInOrder rs = IsTrue (finite.is_sorted (slice_cmp nat_cmp) (references_of rs))

-- a name and its value are sound
abbrev pub is_sound : Reference → Bool
is_sound r = is_name r.0 && is_value r.1

abbrev pub AreSound : List stored.Reference → Type 0
AreSound rs = IsTrue (list_all is_sound (references_of rs))

-- what is stored is a table
pub record AreTable (rs : List stored.Reference) : Type 0 where
  pub order : AreInOrder rs
  pub sound : AreSound rs

-- a pair of two texts
abbrev pub pair_of : Bor (List ℕ) × Bor (List ℕ) → Reference
pair_of p = (chars p.0.now, chars p.1.now)
