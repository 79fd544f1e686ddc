-- What holds of a tree that is being built: what each change of it asks of its caller follows from it.
use Rattle.std.specs.Prelude.{◌≡◌, ℕ, ◌⊎◌, true, List, [], ◌∷◌, Some}
use Rattle.tree_formatting.specs.Alike.{AreFew}
use Rattle.tree_formatting.specs.Entries.{Entry, formatted, marker}
use Rattle.tree_forest.specs.Forest.{Forest, IsElement, contents_of, name_of}
use Rattle.tree_forest.specs.Orders.{AreDistinct, IsForest, IsIn}
use Rattle.tree_names.specs.Sets.{is_one_of}
use Rattle.tree_names.specs.TagSets.{formatting}
use Rattle.html_lexemes.specs.declared.names.Namespace.TheVariants.{Html}
use Rattle.html_lexemes.specs.declared.token.Tag.{Tag}
use Rattle.tree_model.specs.Building.{Building}
use Rattle.tree_model.specs.Insertions.{is_template}
use Rattle.tree_model.specs.Orders.{AreInOrder}

-- an element is listed with a tag
abbrev pub IsListed : ℕ → Tag → List Entry → Type 0
IsListed n tag [] = ⊥
IsListed n tag (marker ∷ rest) = IsListed n tag rest
IsListed n tag (formatted m held ∷ rest) = ((n ≡ m) × (tag ≡ held)) ⊎ IsListed n tag rest

-- a listed element is the HTML element of its tag's name, which is one of formatting
pub record IsFormatting (n : ℕ) (tag : Tag) (f : Forest) : Type 0 where
  pub element : IsElement n f
  pub name : name_of n f ≡ record { ns = Html; local = tag.name }
  pub kind : is_one_of formatting tag.name ≡ true

-- The nodes are a forest. Open elements are elements, pairwise distinct, and a template has contents; none is above one
-- that is farther from the current node. Listed elements are formatting elements, at most three of which are alike.
-- The counts of open elements are right.
pub record Sound (b : Building) : Type 0 where
  pub forest : IsForest b.forest
  pub elements : (n : ℕ) → IsIn n b.stack → IsElement n b.forest
  pub distinct : AreDistinct b.stack
  pub ordered : AreInOrder b.forest b.stack
  pub templates : (n : ℕ) → IsIn n b.stack → is_template n b.forest ≡ true →
      (c : ℕ) × (contents_of n b.forest ≡ Some c)
  pub listed : (n : ℕ) (tag : Tag) → IsListed n tag b.formatting → IsFormatting n tag b.forest
  pub few : AreFew b.formatting
  pub counted : b.counted ≡ true
