-- The open entries of a serializer that writes.
use Rattle.std.specs.Prelude.{◌≡◌, Bool, true, false, List, [], ◌∷◌, Option, None, Some, map, reverse}
use Rattle.html_lexemes.specs.declared.names.QualName.{QualName}
use Rattle.tree_serializer.specs.Writing.{Entry, entry_below, nameless}
use Rattle.tree_serializer.specs.declared.entries.OpenEntry.{OpenEntry}

abbrev pub entry_of : OpenEntry → Entry
entry_of e = record { name = e.name; is_silent = e.is_silent }

-- the innermost first
abbrev pub entries_of : List OpenEntry → List Entry
entries_of es = reverse (map entry_of es)

-- whether nothing is written, and the name of the innermost element
abbrev pub is_silent_in : List Entry → Bool
is_silent_in [] = false
is_silent_in (e ∷ outer) = e.is_silent

abbrev pub name_in : List Entry → Option QualName
name_in [] = None
name_in (e ∷ outer) = e.name

-- the entry that a call is within, with those around it: one is made up, or there is none
abbrev pub parent_in : (makes_parents : Bool) → List Entry → Option (Entry × List Entry)
parent_in makes (e ∷ outer) = Some (e, outer)
parent_in true [] = Some (nameless, [])
parent_in false [] = None

-- a parent was found or made up
pub record IsWithin (makes_parents : Bool) (old new : List Entry) : Type 0 where
  pub parent : Entry
  pub outer : List Entry
  pub found : parent_in makes_parents old ≡ Some (parent, outer)
  pub entries : new ≡ parent ∷ outer

-- an element was opened in its parent, which is silent or not
pub record IsOpened (makes_parents : Bool) (name : QualName) (old : List Entry) (is_silent : Bool) (new : List Entry)
    : Type 0 where
  pub parent : Entry
  pub outer : List Entry
  pub found : parent_in makes_parents old ≡ Some (parent, outer)
  pub silent : is_silent ≡ parent.is_silent
  pub entries : new ≡ entry_below parent name ∷ parent ∷ outer

-- the innermost entry was closed
pub record IsClosed (makes_parents : Bool) (old : List Entry) (is_silent : Bool) (new : List Entry) : Type 0 where
  pub parent : Entry
  pub found : parent_in makes_parents old ≡ Some (parent, new)
  pub silent : is_silent ≡ parent.is_silent
