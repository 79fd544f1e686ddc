-- Where nodes and texts are inserted, and what is then there (WHATWG HTML, 13.2.6.1).
use Rattle.std.specs.Prelude.{ℕ, Bool, ◌&&◌, List, [], ◌∷◌, Option, None, Some, codes, if◌then◌else◌}
use Rattle.tree_forest.specs.Changes.{made, made_element, with_attributes}
use Rattle.tree_forest.specs.Forest.{Forest, comment, contents_of, name_of, nodes}
use Rattle.tree_forest.specs.Places.{Place, based_on, below, put, put_node, with_doctype, words}
use Rattle.tree_names.specs.ElementSets.{foster_targets}
use Rattle.tree_names.specs.Sets.{is_element_of, is_html}
use Rattle.html_lexemes.specs.declared.names.Attribute.{Attribute}
use Rattle.html_lexemes.specs.declared.names.QualName.{QualName}
use Rattle.html_lexemes.specs.declared.token.Doctype.{Doctype}
use Rattle.tree_model.specs.Building.{Building}
use Rattle.tree_model.specs.declared.push_flag.PushFlag.{PushFlag}
use Rattle.tree_model.specs.declared.push_flag.PushFlag.TheVariants.{NoPush, Push}
use Rattle.tree_model.specs.OpenElements.{current_of, first_of}
use Rattle.tree_predicates.specs.Attributes.{is_html_annotation}

abbrev pub is_template : ℕ → Forest → Bool
is_template n f = is_html (codes "template") (name_of n f)

-- what is inserted into an element goes to a template's contents, else below the element itself
abbrev pub holder : Option ℕ → ℕ → ℕ
holder None n = n
holder (Some c) n = c

abbrev pub inside : ℕ → Forest → Place
inside n f = below (if is_template n f then holder (contents_of n f) n else n)

-- The foster parent's place, by the open elements: in the last template, or before the last table, whichever is nearer
-- to the current node; in the root where there is neither. A table without a parent gives what stands above it.
abbrev pub foster_at : ℕ → (above : Option ℕ) → Forest → (further : Place) → Place
foster_at n None f further = inside n f
foster_at n (Some m) f further = if is_template n f then inside n f
    else if is_html (codes "table") (name_of n f) then based_on n m f else further

abbrev pub foster_place : Forest → List ℕ → Place
foster_place f [] = below 0
foster_place f (n ∷ ns) = foster_at n (first_of ns) f (foster_place f ns)

-- the appropriate place for inserting a node into a target: fostered where the target is a part of a table
abbrev pub is_fostered : ℕ → Building → Bool
is_fostered n b = b.fostering && is_element_of foster_targets (name_of n b.forest)

abbrev pub place_for : ℕ → Building → Place
place_for n b = if is_fostered n b then foster_place b.forest b.stack else inside n b.forest

abbrev pub here : Building → Place
here b = place_for (current_of b.stack) b

-- an element is made and put at a place
abbrev pub with_element : Place → QualName → List Attribute → Building → Building
with_element place name attributes b = record b {
  forest = put_node place (nodes b.forest)
      (made_element name attributes (is_html (codes "template") name) (is_html_annotation name attributes) b.forest);
}

-- and becomes the current node
abbrev pub inserted_at : Place → QualName → List Attribute → Building → Building
inserted_at place name attributes b =
    record (with_element place name attributes b) { stack = nodes b.forest ∷ b.stack }

-- "insert a foreign element", "insert an HTML element": into the current node; one without contents is popped at once
abbrev pub inserted : QualName → List Attribute → Building → Building
inserted name attributes b = inserted_at (here b) name attributes b

abbrev pub inserted_void : QualName → List Attribute → Building → Building
inserted_void name attributes b = with_element (here b) name attributes b

-- the same by a flag, at a place
abbrev pub inserted_by : PushFlag → Place → QualName → List Attribute → Building → Building
inserted_by Push place name attributes b = inserted_at place name attributes b
inserted_by NoPush place name attributes b = with_element place name attributes b

-- a comment below the root, which was opened first; below the document where nothing is open
abbrev pub root_of : List ℕ → ℕ
root_of [] = 0
root_of (n ∷ []) = n
root_of (n ∷ m ∷ ns) = root_of (m ∷ ns)

-- characters are inserted; no characters change nothing
abbrev pub said : List ℕ → Building → Building
said cs b = record b { forest = put (here b) (words cs) b.forest }

-- a comment is inserted at a place
abbrev pub commented_at : Place → List ℕ → Building → Building
commented_at place cs b = record b { forest = put_node place (nodes b.forest) (made (comment cs) b.forest) }

-- attributes that an element lacks are added
abbrev pub with_attributes_of : ℕ → List Attribute → Building → Building
with_attributes_of n attributes b = record b { forest = with_attributes n attributes b.forest }

-- a doctype is put after the children of the document; what it doesn't name is empty
abbrev pub text_or_none : Option (List ℕ) → List ℕ
text_or_none None = []
text_or_none (Some cs) = cs

abbrev pub with_doctype_of : Doctype → Building → Building
with_doctype_of doctype b = record b {
  forest = with_doctype (text_or_none doctype.name) (text_or_none doctype.public_id)
      (text_or_none doctype.system_id) b.forest;
}
