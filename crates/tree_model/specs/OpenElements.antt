-- The stack of open elements (WHATWG HTML, 13.2.4.2), the current node first.
use Rattle.std.specs.Prelude.{[], ◌∷◌, ◌==◌, if◌then◌else◌, Bool, List, None, Option, Some, false, true, ℕ}
use Rattle.tree_forest.specs.Forest.{Forest, name_of}
use Rattle.tree_names.specs.Sets.{Elements, is_element_of}

-- the elements up to the first one of a set, and that one
abbrev pub up_to : Elements → Forest → List ℕ → List ℕ
up_to set f [] = []
up_to set f (n ∷ ns) = n ∷ (if is_element_of set (name_of n f) then [] else up_to set f ns)

-- what is below the first one of a set: what is left when it is popped
abbrev pub below_first : Elements → Forest → List ℕ → List ℕ
below_first set f [] = []
below_first set f (n ∷ ns) = if is_element_of set (name_of n f) then ns else below_first set f ns

-- the first one of a set, and what is below it: what is left when the others are popped
abbrev pub from_first : Elements → Forest → List ℕ → List ℕ
from_first set f [] = []
from_first set f (n ∷ ns) = if is_element_of set (name_of n f) then n ∷ ns else from_first set f ns

-- some of these elements is one of a set
abbrev pub has_any : Elements → Forest → List ℕ → Bool
has_any set f [] = false
has_any set f (n ∷ ns) = if is_element_of set (name_of n f) then true else has_any set f ns

-- the current node; the document where nothing is open
abbrev pub current_of : List ℕ → ℕ
current_of [] = 0
current_of (n ∷ ns) = n

abbrev pub first_of : List ℕ → Option ℕ
first_of [] = None
first_of (n ∷ ns) = Some n

-- what is below the current node
abbrev pub below_current : List ℕ → List ℕ
below_current [] = []
below_current (n ∷ ns) = ns

-- open elements nearer to the current node than one, and those farther from it
abbrev pub nearer : ℕ → List ℕ → List ℕ
nearer n [] = []
nearer n (m ∷ ms) = if m == n then [] else m ∷ nearer n ms

abbrev pub farther : ℕ → List ℕ → List ℕ
farther n [] = []
farther n (m ∷ ms) = if m == n then ms else farther n ms
