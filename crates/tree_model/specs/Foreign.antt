-- Foreign content and the open elements (WHATWG HTML, 13.2.4.2, 13.2.6 and 13.2.6.5).
use Rattle.std.specs.Prelude.{ℕ, List, [], ◌∷◌, Option, None, Some, if◌then◌else◌}
use Rattle.tree_forest.specs.Forest.{Forest, is_integration_point, name_of}
use Rattle.tree_model.specs.Adoption.{popped_with}
use Rattle.tree_model.specs.Building.{Building}
use Rattle.tree_model.specs.OpenElements.{first_of}
use Rattle.tree_predicates.specs.Foreign.{is_closed_by, is_of_html, stops_break_out}

-- the adjusted current node: the context of a fragment, while no more than its root is open, else the current node
abbrev pub adjusted_current : (context : Option ℕ) → List ℕ → Option ℕ
adjusted_current None stack = first_of stack
adjusted_current (Some context) [] = Some context
adjusted_current (Some context) (n ∷ []) = Some context
adjusted_current (Some context) (n ∷ m ∷ ns) = Some n

-- elements are popped until breaking out of foreign content stops at one
abbrev pub from_html : Forest → List ℕ → List ℕ
from_html f [] = []
from_html f (n ∷ ns) = if stops_break_out (name_of n f) (is_integration_point n f) then n ∷ ns else from_html f ns

abbrev pub broken_out : Building → Building
broken_out b = record b { stack = from_html b.forest b.stack }

-- "any other end tag" in foreign content: from the current node up the first element of the tag's name, before any
-- element of HTML; it is popped, and what is nearer. Where there is none, the rules of the insertion mode take the tag.
abbrev pub named_foreign : (tag : List ℕ) → Forest → List ℕ → Option ℕ
named_foreign tag f [] = None
named_foreign tag f (n ∷ ns) = if is_of_html (name_of n f).ns then None
    else if is_closed_by tag (name_of n f) then Some n else named_foreign tag f ns

abbrev pub popped_with_any : Option ℕ → Building → Building
popped_with_any None b = b
popped_with_any (Some n) b = popped_with n b

abbrev pub closed_by_foreign_end : (tag : List ℕ) → Building → Building
closed_by_foreign_end tag b = popped_with_any (named_foreign tag b.forest b.stack) b
