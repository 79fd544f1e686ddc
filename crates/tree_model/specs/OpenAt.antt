-- Where an open element stands in memory.
use Rattle.std.specs.Prelude.{◌≡◌, ℕ, suc, ◌<◌, true, List, [], Option, None, Some, drop, length, take}
use Rattle.tree_forest.specs.Forest.{is_in}
use Rattle.tree_forest.specs.Orders.{IsIn}
use Rattle.tree_model.specs.Building.{stack_of}
use Rattle.tree_model.specs.Insertions.{root_of}
use Rattle.tree_model.specs.OpenElements.{farther, nearer}

-- so many elements stand before it, and the rest but itself after it
pub record IsOpenAt {H : Type 0} (number : H → ℕ) (n : ℕ) (elements : List H) (at : ℕ) : Type 0 where
  pub within : at < length elements
  pub is_there : is_in n (stack_of number elements) ≡ true
  pub before_it : stack_of number (take at elements) ≡ farther n (stack_of number elements)
  pub after_it : stack_of number (drop (suc at) elements) ≡ nearer n (stack_of number elements)

-- the element that was opened first, where one is open
abbrev pub IsFirstOpened : Option ℕ → List ℕ → Type 0
IsFirstOpened None stack = stack ≡ []
IsFirstOpened (Some n) stack = (root_of stack ≡ n) × IsIn n stack
