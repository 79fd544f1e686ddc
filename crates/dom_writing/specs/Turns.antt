-- What is still to be emitted of a forest, the last turn first.
use Rattle.std.specs.Prelude.{ℕ, Bool, true, false, List, [], ◌∷◌, ◌++◌}
use Rattle.tree_forest.specs.Forest.{Forest, IsElement, Kind, comment, doctype, document, element, instruction, name_of}
use Rattle.tree_forest.specs.Forest.{nodes, text}
use Rattle.tree_forest.specs.Orders.{IsDocument, IsIn}
use Rattle.html_render_dom.specs.ChildNodes.{children_left}
use Rattle.html_render_dom.specs.Numbers.{handle_of, number_of}
use Rattle.tree_serializer.specs.Calls.{Call, finish}
use Rattle.tree_serializer.specs.Walks.{calls_within, joined}
use Rattle.dom_writing.specs.declared.turn.Turn.{Turn}
use Rattle.dom_writing.specs.declared.turn.Turn.TheVariants.{End, Row, Visit}

-- the calls of a turn
abbrev pub calls_of_turn : Forest → Turn → List Call
calls_of_turn f (Visit n) = calls_within (nodes f) f (number_of n)
calls_of_turn f (Row n others) =
    joined (calls_within (nodes f) f) (number_of n ∷ children_left others)
calls_of_turn f (End n) = finish (name_of (number_of n) f) ∷ []

-- the calls of turns, of which the last comes first, and others after them
abbrev pub pending_before : Forest → List Turn → List Call → List Call
pending_before f [] later = later
pending_before f (t ∷ ts) later = pending_before f ts (calls_of_turn f t ++ later)

abbrev pub pending : Forest → List Turn → List Call
pending f ts = pending_before f ts []

-- a node that is to be emitted is no document, and what ends is an element
abbrev pub IsReady : Forest → Turn → Type 0
IsReady f (Visit n) = ¬ (IsDocument (number_of n) f)
IsReady f (Row n others) = (m : ℕ) → IsIn m (number_of n ∷ children_left others) → ¬ (IsDocument m f)
IsReady f (End n) = IsElement (number_of n) f

abbrev pub AreReady : Forest → List Turn → Type 0
AreReady f [] = Unit {0}
AreReady f (t ∷ ts) = IsReady f t × AreReady f ts

-- nodes that are to be emitted, in one turn
abbrev pub visits : List ℕ → List Turn
visits [] = []
visits (n ∷ ns) = Row (handle_of n) ns ∷ []

abbrev pub is_document : Kind → Bool
is_document document = true
is_document (doctype name public system) = false
is_document (text cs) = false
is_document (comment cs) = false
is_document (instruction target cs) = false
is_document (element e) = false
