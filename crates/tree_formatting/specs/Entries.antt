-- The list of active formatting elements (WHATWG HTML, 13.2.4.3), the latest entry first: markers, and elements by the
-- numbers of their nodes with the start tags that they were made for.
use Rattle.std.specs.Prelude.{[], ◌∷◌, ◌==◌, if◌then◌else◌, Bool, List, None, Option, Some, bytes_eq, false, map}
use Rattle.std.specs.Prelude.{reverse, true, ℕ}
use Rattle.html_lexemes.specs.declared.token.Tag.{Tag}
use Rattle.tree_formatting.specs.declared.entry.FormatEntry.{FormatEntry}
use Rattle.tree_formatting.specs.declared.entry.FormatEntry.TheVariants.{Element, Marker}

pub data Entry : Type 0 where
  marker : Entry
  formatted : ℕ → Tag → Entry

-- what entries in memory, the earliest first, are
abbrev pub entry_of : {H : Type 0} → (H → ℕ) → FormatEntry H → Entry
entry_of number Marker = marker
entry_of number (Element handle tag) = formatted (number handle) tag

abbrev pub entries_of : {H : Type 0} → (H → ℕ) → List (FormatEntry H) → List Entry
entries_of number entries = reverse (map (entry_of number) entries)

-- the entries after the last marker
abbrev pub up_to_marker : List Entry → List Entry
up_to_marker [] = []
up_to_marker (marker ∷ rest) = []
up_to_marker (formatted n tag ∷ rest) = formatted n tag ∷ up_to_marker rest

-- what stands before the last marker: the list is cleared up to it, and it goes too
abbrev pub before_marker : List Entry → List Entry
before_marker [] = []
before_marker (marker ∷ rest) = rest
before_marker (formatted n tag ∷ rest) = before_marker rest

-- an entry is that of an element
abbrev pub is_of : ℕ → Entry → Bool
is_of n marker = false
is_of n (formatted m tag) = m == n

abbrev pub is_listed : ℕ → List Entry → Bool
is_listed n [] = false
is_listed n (entry ∷ rest) = if is_of n entry then true else is_listed n rest

-- the tag of an element that is listed
abbrev pub tag_if : Entry → Option Tag
tag_if marker = None
tag_if (formatted n tag) = Some tag

abbrev pub tag_in : ℕ → List Entry → Option Tag
tag_in n [] = None
tag_in n (entry ∷ rest) = if is_of n entry then tag_if entry else tag_in n rest

-- the latest element after the last marker whose tag has a name
abbrev pub is_named : List ℕ → Tag → Bool
is_named name tag = bytes_eq tag.name name

abbrev pub last_named : List ℕ → List Entry → Option ℕ
last_named name [] = None
last_named name (marker ∷ rest) = None
last_named name (formatted n tag ∷ rest) = if is_named name tag then Some n else last_named name rest

-- an element's entry is taken off
abbrev pub without_entry : ℕ → List Entry → List Entry
without_entry n [] = []
without_entry n (entry ∷ rest) = if is_of n entry then rest else entry ∷ without_entry n rest

-- another element takes an entry over, with its tag
abbrev pub given_to : ℕ → Entry → Entry
given_to m marker = marker
given_to m (formatted n tag) = formatted m tag

abbrev pub given : {H : Type 0} → H → FormatEntry H → FormatEntry H
given to Marker = Marker
given to (Element handle tag) = Element to tag

abbrev pub handed_over : ℕ → ℕ → List Entry → List Entry
handed_over n m [] = []
handed_over n m (entry ∷ rest) = if is_of n entry then given_to m entry ∷ rest else entry ∷ handed_over n m rest

-- an entry is put right after an element's, that is, later in the list; where it isn't listed, before all others
abbrev pub put_after : ℕ → Entry → List Entry → List Entry
put_after n new [] = new ∷ []
put_after n new (entry ∷ rest) = if is_of n entry then new ∷ entry ∷ rest else entry ∷ put_after n new rest

-- An element's entry goes right after that of another, and to an element that has taken its place. An element that
-- isn't listed changes nothing.
abbrev pub moved_after : ℕ → ℕ → ℕ → List Entry → List Entry
moved_after n m after entries = move (tag_in n entries) where
  move : Option Tag → List Entry
  move None = entries
  move (Some tag) = put_after after (formatted m tag) (without_entry n entries)
