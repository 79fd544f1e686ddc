-- The walk of the adoption agency from the furthest block up to the formatting element (WHATWG HTML, 13.2.6.4.7).
use Rattle.std.specs.Prelude.{◌≡◌, ℕ, false, true, List, [], ◌∷◌, ◌++◌, None, Some}
use Rattle.tree_formatting.specs.Entries.{is_listed, tag_in, up_to_marker}
use Rattle.tree_forest.specs.Orders.{IsIn}
use Rattle.html_lexemes.specs.declared.token.Tag.{Tag}
use Rattle.tree_model.specs.Adoption.{Walk, farther, nearer, walked}
use Rattle.tree_model.specs.Building.{Building}
use Rattle.tree_model.specs.CanAdopt.{is_foster_stop}
use Rattle.tree_model.specs.Sound.{Sound}

-- The walk at its begin.
abbrev pub begun : (block : ℕ) → Building → Walk
begun block b = record { last = block; bookmark = None; tree = b }

-- The open elements are some that were walked over, among which the last node and the furthest block are; those that
-- are left; the formatting element, which is listed after the last marker; and what is farther. No table or template
-- is nearer than the formatting element.
pub record IsWalk (n block : ℕ) (tag : Tag) (left lows : List ℕ) (w : Walk) : Type 0 where
  pub uppers : List ℕ
  pub sound : Sound w.tree
  pub whole : w.tree.stack ≡ uppers ++ (left ++ n ∷ lows)
  pub last_in : IsIn w.last uppers
  pub block_in : IsIn block uppers
  pub plain : (m : ℕ) → IsIn m uppers → is_foster_stop m w.tree.forest ≡ false
  pub plain_left : (m : ℕ) → IsIn m left → is_foster_stop m w.tree.forest ≡ false
  pub tagged : tag_in n w.tree.formatting ≡ Some tag
  pub listed : is_listed n (up_to_marker w.tree.formatting) ≡ true

-- the walk has come to the formatting element
pub record IsWalkedUp (n block : ℕ) (b : Building) (w : Walk) : Type 0 where
  pub same : w ≡ walked block 0 (farther block (nearer n b.stack)) (begun block b)
  pub walk : (tag : Tag) → tag_in n b.formatting ≡ Some tag → IsWalk n block tag [] (farther n b.stack) w
