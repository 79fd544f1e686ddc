-- Scopes, implied end tags, and what is popped (WHATWG HTML, 13.2.4.2 and 13.2.6.3).
use Rattle.std.specs.Prelude.{ℕ, Bool, true, false, ◌&&◌, not, List, [], ◌∷◌, codes, if◌then◌else◌}
use Rattle.tree_forest.specs.Changes.{left_out}
use Rattle.tree_forest.specs.Forest.{Forest, name_of}
use Rattle.html_lexemes.specs.declared.names.QualName.{QualName}
use Rattle.tree_names.specs.ElementSets.{address_div_and_p, button_scope_barriers, special_elements}
use Rattle.tree_names.specs.Sets.{Elements, is_element_of}
use Rattle.tree_model.specs.Building.{Building}
use Rattle.tree_model.specs.OpenElements.{below_current, below_first, from_first, has_any, up_to}
use Rattle.tree_names.specs.Wanted.{is_implied, one}

-- an element of a set is in scope: it stands before the first barrier, or is that barrier
abbrev pub is_in_scope : (barriers wanted : Elements) → Building → Bool
is_in_scope barriers wanted b = has_any wanted b.forest (up_to barriers b.forest b.stack)

-- an element of a set is open
abbrev pub is_open : Elements → Building → Bool
is_open set b = has_any set b.forest b.stack

-- the current nodes that are implied are popped, but for those of a set
abbrev pub without_implied : Elements → Forest → List ℕ → List ℕ
without_implied except f [] = []
without_implied except f (n ∷ ns) = if is_implied except (name_of n f) then without_implied except f ns else n ∷ ns

abbrev pub implied : Elements → Building → Building
implied except b = record b { stack = without_implied except b.forest b.stack }

-- the elements up to one of a set are popped, and it is too; or it stays
abbrev pub popped_to : Elements → Building → Building
popped_to set b = record b { stack = below_first set b.forest b.stack }

abbrev pub popped_down_to : Elements → Building → Building
popped_down_to set b = record b { stack = from_first set b.forest b.stack }

abbrev pub popped : Building → Building
popped b = record b { stack = below_current b.stack }

-- an element is taken off the stack, wherever it stands
abbrev pub taken_off : ℕ → Building → Building
taken_off n b = record b { stack = left_out n b.stack }

-- a p element that is in button scope is closed ("close a p element", 13.2.6.4.7)
abbrev pub with_closed_p : Building → Building
with_closed_p b = if is_in_scope button_scope_barriers (one (codes "p")) b
    then popped_to (one (codes "p")) (implied (one (codes "p")) b) else b

-- a list item or a definition: from the current node up one of a set stands before any special element but `address`,
-- `div` and `p` (13.2.6.4.7, start tags "li", "dd" and "dt"); it is closed
abbrev pub is_item_barrier : QualName → Bool
is_item_barrier name = is_element_of special_elements name && not (is_element_of address_div_and_p name)

abbrev pub has_item : Elements → Forest → List ℕ → Bool
has_item set f [] = false
has_item set f (n ∷ ns) = if is_element_of set (name_of n f) then true
    else if is_item_barrier (name_of n f) then false else has_item set f ns

abbrev pub with_closed_item : Elements → Building → Building
with_closed_item set b = if has_item set b.forest b.stack then popped_to set (implied set b) else b
