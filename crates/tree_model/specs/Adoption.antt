-- The adoption agency (WHATWG HTML, 13.2.6.4.7), for an end tag's name. The stack is the current node first.
use Rattle.std.specs.Prelude.{◌==◌, ◌&&◌, [], ◌∷◌, if◌then◌else◌, Bool, List, None, Option, Some, false, map, not, suc}
use Rattle.std.specs.Prelude.{true, zero, ℕ}
use Rattle.std.specs.Bool.{nat_lt}
use Rattle.tree_formatting.specs.Entries.{Entry, handed_over, is_listed, last_named, moved_after, tag_in, up_to_marker}
use Rattle.tree_formatting.specs.Entries.{without_entry}
use Rattle.tree_forest.specs.Changes.{detached, left_out, reparented}
use Rattle.tree_forest.specs.Forest.{Forest, is_in, name_of, nodes}
use Rattle.tree_forest.specs.Places.{below, put_before, put_node}
use Rattle.tree_names.specs.ElementSets.{scope_barriers, special_elements}
use Rattle.tree_names.specs.Sets.{is_element_of, is_html}
use Rattle.html_lexemes.specs.declared.token.Tag.{Tag}
use Rattle.tree_model.specs.Building.{Building}
use Rattle.tree_model.specs.Formatting.{made_for, unlisted}
use Rattle.tree_model.specs.Insertions.{place_for}
use Rattle.tree_model.specs.OpenElements.{current_of, up_to}
pub use Rattle.tree_model.specs.OpenElements.{farther, nearer}
use Rattle.tree_model.specs.Scopes.{implied, popped, taken_off}
use Rattle.tree_names.specs.Wanted.{one}

-- the furthest block: the special element nearer than the formatting element that is farthest from the current node
abbrev pub or_itself : Option ℕ → Bool → ℕ → Option ℕ
or_itself (Some m) is_special n = Some m
or_itself None true n = Some n
or_itself None false n = None

abbrev pub last_special : Forest → List ℕ → Option ℕ
last_special f [] = None
last_special f (n ∷ ns) = or_itself (last_special f ns) (is_element_of special_elements (name_of n f)) n

abbrev pub furthest_block : ℕ → Building → Option ℕ
furthest_block n b = last_special b.forest (nearer n b.stack)

-- an element is copied for its tag: the copy takes its place among the open and the listed ones, and the last node as
-- its child
abbrev pub replaced : ℕ → ℕ → List ℕ → List ℕ
replaced n m ns = map (λ k. if k == n then m else k) ns

abbrev pub copied : ℕ → Tag → (last : ℕ) → Building → Building
copied n tag last b = record b {
  stack = replaced n (nodes b.forest) b.stack;
  formatting = handed_over n (nodes b.forest) b.formatting;
  forest = put_node (below (nodes b.forest)) last (detached last (made_for tag b.forest));
}

-- From the furthest block up to the formatting element: the last node, the copy after which the formatting element's
-- copy is to be listed, and the tree.
pub record Walk : Type 0 where
  pub last : ℕ
  pub bookmark : Option ℕ
  pub tree : Building

abbrev pub bookmark_by : Bool → ℕ → Option ℕ → Option ℕ
bookmark_by true copy bookmark = Some copy
bookmark_by false copy bookmark = bookmark

-- One node: the fourth and those that follow leave the list, one that isn't listed leaves the stack, and any other is
-- copied. The bookmark goes after the copy that takes the furthest block.
abbrev pub stepped : Option Tag → (is_late : Bool) → (block n : ℕ) → Walk → Walk
stepped None is_late block n w = record w { tree = taken_off n w.tree }
stepped (Some tag) true block n w = record w { tree = taken_off n (unlisted n w.tree) }
stepped (Some tag) false block n w = record {
  last = nodes w.tree.forest;
  bookmark = bookmark_by (w.last == block) (nodes w.tree.forest) w.bookmark;
  tree = copied n tag w.last w.tree;
}

abbrev pub walked : (block count : ℕ) → List ℕ → Walk → Walk
walked block count [] w = w
walked block count (n ∷ ns) w =
    walked block (suc count) ns (stepped (tag_in n w.tree.formatting) (nat_lt 2 count) block n w)

-- the last node goes to the appropriate place for the common ancestor
abbrev pub out_of_place : ℕ → Building → Building
out_of_place n b = record b { forest = detached n b.forest }

-- the common ancestor: an open element, or the document
abbrev pub ancestor_of : Option ℕ → ℕ
ancestor_of None = 0
ancestor_of (Some n) = n

abbrev pub placed : (last ancestor : ℕ) → Building → Building
placed last ancestor b = record b {
  forest = put_node (place_for ancestor (out_of_place last b)) last (detached last b.forest);
}

-- A copy of the formatting element takes the children of the furthest block, and becomes its child. It is listed at the
-- bookmark, where that is after the last marker, else in the place of the formatting element; on the stack it stands
-- right below the furthest block. The formatting element leaves both.
abbrev pub entries_at : Option ℕ → (n copy : ℕ) → List Entry → List Entry
entries_at None n copy entries = handed_over n copy entries
entries_at (Some after) n copy entries = if is_listed after (up_to_marker (without_entry n entries))
    then moved_after n copy after entries else handed_over n copy entries

abbrev pub with_entry_at : Option ℕ → (n copy : ℕ) → Building → Building
with_entry_at bookmark n copy b = record b { formatting = entries_at bookmark n copy b.formatting }

abbrev pub taken_over : (bookmark : Option ℕ) → (n block : ℕ) → Tag → Building → Building
taken_over bookmark n block tag b = record (with_entry_at bookmark n (nodes b.forest) b) {
  stack = put_before block (nodes b.forest) (left_out n b.stack);
  forest = put_node (below block) (nodes b.forest)
      (reparented block (nodes b.forest) (made_for tag b.forest));
}

-- one turn with a formatting element and a furthest block
abbrev pub finished : (n block ancestor : ℕ) → Tag → Walk → Building
finished n block ancestor tag w = taken_over w.bookmark n block tag (placed w.last ancestor w.tree)

abbrev pub adopted : (n block : ℕ) → Tag → Building → Building
adopted n block tag b = finished n block (current_of (farther n b.stack)) tag
    (walked block 0 (farther block (nearer n b.stack)) (record { last = block; bookmark = None; tree = b }))

-- what a turn comes to
pub data Turn : Type 0 where
  over : Building → Turn
  again : Building → Turn
  other_end : Building → Turn

abbrev pub popped_with : ℕ → Building → Building
popped_with n b = record b { stack = farther n b.stack }

abbrev pub turn_with_block : Option ℕ → ℕ → Tag → Building → Turn
turn_with_block None n tag b = over (unlisted n (popped_with n b))
turn_with_block (Some block) n tag b = again (adopted n block tag b)

abbrev pub turn_with : Option Tag → ℕ → Building → Turn
turn_with None n b = over b
turn_with (Some tag) n b = if not (is_in n b.stack) then over (unlisted n b)
    else if not (is_in n (up_to scope_barriers b.forest b.stack)) then over b
    else turn_with_block (furthest_block n b) n tag b

abbrev pub turn_for : Option ℕ → Building → Turn
turn_for None b = other_end b
turn_for (Some n) b = turn_with (tag_in n b.formatting) n b

abbrev pub turn : (name : List ℕ) → Building → Turn
turn name b = turn_for (last_named name b.formatting) b

-- "any other end tag": up to the first element of that name, before any special one
abbrev pub named_before_special : (name : List ℕ) → Forest → List ℕ → Option ℕ
named_before_special name f [] = None
named_before_special name f (n ∷ ns) = if is_html name (name_of n f) then Some n
    else if is_element_of special_elements (name_of n f) then None else named_before_special name f ns

abbrev pub closed_with : Option ℕ → (name : List ℕ) → Building → Building
closed_with None name b = b
closed_with (Some n) name b = popped_with n (implied (one name) b)

abbrev pub closed_by_other_end : (name : List ℕ) → Building → Building
closed_by_other_end name b = closed_with (named_before_special name b.forest b.stack) name b

-- at most so many turns
abbrev pub after_turn : Turn → (name : List ℕ) → (Building → Building) → Building → Building
after_turn (over done) name further b = done
after_turn (again more) name further b = further more
after_turn (other_end same) name further b = closed_by_other_end name same

abbrev pub turns : ℕ → (name : List ℕ) → Building → Building
turns zero name b = b
turns (suc k) name b = after_turn (turn name b) name (turns k name) b

-- the current node is of that name, and isn't listed
abbrev pub is_current_unlisted : (name : List ℕ) → Building → Bool
is_current_unlisted name b =
    is_html name (name_of (current_of b.stack) b.forest) && not (is_listed (current_of b.stack) b.formatting)

abbrev pub adoption : (name : List ℕ) → Building → Building
adoption name b = if is_current_unlisted name b then popped b else turns 8 name b
