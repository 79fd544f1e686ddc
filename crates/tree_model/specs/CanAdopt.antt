-- What each part of a turn of the adoption agency asks.
use Rattle.std.specs.Prelude.{◌≡◌, ℕ, ◌||◌, Bool, false, true, List, ◌++◌, Option, Some, codes}
use Rattle.tree_formatting.specs.Entries.{is_listed, tag_in, up_to_marker}
use Rattle.tree_forest.specs.Forest.{Forest, is_in, name_of}
use Rattle.tree_forest.specs.Orders.{IsIn}
use Rattle.tree_names.specs.ElementSets.{scope_barriers}
use Rattle.tree_names.specs.Sets.{is_html}
use Rattle.html_lexemes.specs.declared.token.Tag.{Tag}
use Rattle.tree_model.specs.Adoption.{furthest_block, nearer}
use Rattle.tree_model.specs.Building.{Building}
use Rattle.tree_model.specs.Insertions.{is_template}
use Rattle.tree_model.specs.OpenElements.{first_of, up_to}
use Rattle.tree_model.specs.Sound.{Sound}

-- an element that is open and listed is copied, and the last node is open and nearer to the current node
pub record CanCopy (n last : ℕ) (tag : Tag) (b : Building) : Type 0 where
  pub is_open : IsIn n b.stack
  pub listed : tag_in n b.formatting ≡ Some tag
  pub below_it : IsIn last (nearer n b.stack)

-- where foster parenting looks for a place
abbrev pub is_foster_stop : ℕ → Forest → Bool
is_foster_stop n f = is_template n f || is_html (codes "table") (name_of n f)

-- The open elements are some nearer ones, without tables and templates, among which the last node is, and then the
-- common ancestor and what is farther.
pub record CanPlace (last : ℕ) (uppers lows : List ℕ) (b : Building) : Type 0 where
  pub whole : b.stack ≡ uppers ++ lows
  pub below_it : IsIn last uppers
  pub plain : (n : ℕ) → IsIn n uppers → is_foster_stop n b.forest ≡ false

-- the last node may be placed for a common ancestor
pub record IsAncestor (last : ℕ) (ancestor : Option ℕ) (b : Building) : Type 0 where
  pub uppers : List ℕ
  pub lows : List ℕ
  pub can : CanPlace last uppers lows b
  pub first : first_of lows ≡ ancestor

-- the furthest block is open, and the formatting element, which is listed after the last marker, is another
pub record CanTakeOver (n block : ℕ) (tag : Tag) (b : Building) : Type 0 where
  pub is_open : IsIn block b.stack
  pub other : ¬ (n ≡ block)
  pub tagged : tag_in n b.formatting ≡ Some tag
  pub listed : is_listed n (up_to_marker b.formatting) ≡ true

-- a turn with a furthest block: the formatting element is open, in scope, and listed after the last marker
pub record CanAdopt (n block : ℕ) (b : Building) : Type 0 where
  pub sound : Sound b
  pub is_open : is_in n b.stack ≡ true
  pub in_scope : is_in n (up_to scope_barriers b.forest b.stack) ≡ true
  pub found : furthest_block n b ≡ Some block
  pub listed : is_listed n (up_to_marker b.formatting) ≡ true
