-- What the words of tree construction keep: a sound tree stays sound, no node goes, and an element stays one; and how
-- characters and reconstruction follow on one another.
use Rattle.std.specs.Prelude.{◌≡◌, ℕ, ◌≤◌, Bool, true, List, ◌++◌}
use Rattle.tree_forest.specs.Forest.{Forest, Holds, IsElement, kind_at, nodes}
use Rattle.tree_forest.specs.Places.{below}
use Rattle.tree_forest.specs.declared.sink.QuirksMode.{QuirksMode}
use Rattle.html_lexemes.specs.declared.names.Attribute.{Attribute}
use Rattle.html_lexemes.specs.declared.names.QualName.{QualName}
use Rattle.html_lexemes.specs.declared.token.Doctype.{Doctype}
use Rattle.html_lexemes.specs.declared.token.Tag.{Tag}
use Rattle.tree_model.specs.Adoption.{adoption, closed_by_other_end, out_of_place}
use Rattle.tree_model.specs.Building.{Building}
use Rattle.tree_model.specs.Foreign.{broken_out, closed_by_foreign_end}
use Rattle.tree_model.specs.Formatting.{cleared, inserted_formatting, marked, reconstructed, unlisted}
use Rattle.tree_model.specs.Insertions.{commented_at, here, inserted, inserted_at, inserted_void, root_of, said}
use Rattle.tree_model.specs.Insertions.{with_attributes_of, with_doctype_of, with_element}
use Rattle.tree_model.specs.Scopes.{implied, popped, popped_down_to, popped_to, taken_off, with_closed_item}
use Rattle.tree_model.specs.Scopes.{with_closed_p}
use Rattle.tree_model.specs.Sound.{Sound}
use Rattle.tree_names.specs.Sets.{Elements, is_one_of}
use Rattle.tree_names.specs.TagSets.{formatting}

-- no node goes, and an element stays one
pub record HasGrown (old new : Forest) : Type 0 where
  pub size : nodes old ≤ nodes new
  pub elements : (n : ℕ) → IsElement n old → IsElement n new

-- one step from a sound tree
pub record IsKept (old new : Building) : Type 0 where
  pub sound : Sound new
  pub grown : HasGrown old.forest new.forest

abbrev pub Keeps : (Building → Building) → Type 0
Keeps word = (b : Building) → Sound b → IsKept b (word b)

pub record Words : Type 0 where
  pub pops : Keeps popped
  pub implies : (except : Elements) → Keeps (implied except)
  pub pops_to : (set : Elements) → Keeps (popped_to set)
  pub pops_down_to : (set : Elements) → Keeps (popped_down_to set)
  pub takes_off : (n : ℕ) → Keeps (taken_off n)
  pub closes_p : Keeps with_closed_p
  pub closes_item : (set : Elements) → Keeps (with_closed_item set)
  pub inserts : (name : QualName) (attributes : List Attribute) → Keeps (inserted name attributes)
  pub inserts_void : (name : QualName) (attributes : List Attribute) → Keeps (inserted_void name attributes)
  pub inserts_into : (n : ℕ) (name : QualName) (attributes : List Attribute) (b : Building) → Sound b →
      Holds n b.forest → IsKept b (inserted_at (below n) name attributes b)
  pub inserts_void_into : (n : ℕ) (name : QualName) (attributes : List Attribute) (b : Building) → Sound b →
      Holds n b.forest → IsKept b (with_element (below n) name attributes b)
  pub says : (cs : List ℕ) → Keeps (said cs)
  pub comments : (cs : List ℕ) → Keeps (λ b. commented_at (here b) cs b)
  pub comments_the_document : (cs : List ℕ) → Keeps (commented_at (below 0) cs)
  pub comments_the_root : (cs : List ℕ) → Keeps (λ b. commented_at (below (root_of b.stack)) cs b)
  pub takes_a_doctype : (doctype : Doctype) → Keeps (with_doctype_of doctype)
  pub takes_attributes : (n : ℕ) (attributes : List Attribute) (b : Building) → Sound b → IsElement n b.forest →
      IsKept b (with_attributes_of n attributes b)
  pub takes_out : (n : ℕ) → Keeps (out_of_place n)
  pub marks : Keeps marked
  pub clears : Keeps cleared
  pub lists : (tag : Tag) → is_one_of formatting tag.name ≡ true → Keeps (inserted_formatting tag)
  pub unlists : (n : ℕ) → Keeps (unlisted n)
  pub reconstructs : Keeps reconstructed
  pub adopts : (name : List ℕ) → Keeps (adoption name)
  pub closes_other : (name : List ℕ) → Keeps (closed_by_other_end name)
  pub breaks_out : Keeps broken_out
  pub closes_foreign : (name : List ℕ) → Keeps (closed_by_foreign_end name)
  pub fosters : (is_on : Bool) → Keeps (λ b. record b { fostering = is_on })
  pub takes_quirks : (mode : QuirksMode) → Keeps (λ b. record b { quirks = mode })
  -- characters after characters are inserted as if they had come together, and elements but for their children are
  -- what they were
  pub says_as_one : (cs ds : List ℕ) (b : Building) → Sound b → said ds (said cs b) ≡ said (cs ++ ds) b
  pub says_elsewhere : (cs : List ℕ) (n : ℕ) (b : Building) → IsElement n b.forest →
      kind_at n (said cs b).forest ≡ kind_at n b.forest
  -- what was reconstructed is not reconstructed again, with characters inserted between or with none
  pub reconstructs_once : (cs : List ℕ) (b : Building) →
      reconstructed (said cs (reconstructed b)) ≡ said cs (reconstructed b)
