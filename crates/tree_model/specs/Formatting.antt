-- The list of active formatting elements and the tree (WHATWG HTML, 13.2.4.3).
use Rattle.std.specs.Prelude.{ℕ, ◌-◌, Bool, true, List, [], ◌∷◌, codes, drop, if◌then◌else◌, length, take}
use Rattle.tree_formatting.specs.Entries.{Entry, before_marker, formatted, marker, without_entry}
use Rattle.tree_formatting.specs.Pushing.{pushed}
use Rattle.tree_forest.specs.Changes.{made_element}
use Rattle.tree_forest.specs.Forest.{Forest, is_in, nodes}
use Rattle.tree_names.specs.Sets.{is_html}
use Rattle.html_lexemes.specs.declared.names.Namespace.TheVariants.{Html}
use Rattle.html_lexemes.specs.declared.names.QualName.{QualName}
use Rattle.html_lexemes.specs.declared.token.Tag.{Tag}
use Rattle.tree_model.specs.Building.{Building}
use Rattle.tree_model.specs.Insertions.{inserted}
use Rattle.tree_predicates.specs.Attributes.{is_html_annotation}

-- the element that a tag is for
abbrev pub name_for : Tag → QualName
name_for tag = record { ns = Html; local = tag.name }

-- an element more, for a tag
abbrev pub made_for : Tag → Forest → Forest
made_for tag f = made_element (name_for tag) tag.attrs (is_html (codes "template") (name_for tag))
    (is_html_annotation (name_for tag) tag.attrs) f

-- an HTML element is inserted for a tag
abbrev pub inserted_for : Tag → Building → Building
inserted_for tag b = inserted (name_for tag) tag.attrs b

-- an element's entry is taken off
abbrev pub unlisted : ℕ → Building → Building
unlisted n b = record b { formatting = without_entry n b.formatting }

abbrev pub marked : Building → Building
marked b = record b { formatting = marker ∷ b.formatting }

abbrev pub cleared : Building → Building
cleared b = record b { formatting = before_marker b.formatting }

-- a formatting element is inserted for a tag, and listed
abbrev pub inserted_formatting : Tag → Building → Building
inserted_formatting tag b =
    record (inserted_for tag b) { formatting = pushed (nodes b.forest) tag b.formatting }

-- "reconstruct the active formatting elements": the entries after the last marker and after the last one that is open
-- are taken off, and each in its order is made anew and listed again
abbrev pub is_kept : List ℕ → Entry → Bool
is_kept stack marker = true
is_kept stack (formatted n tag) = is_in n stack

abbrev pub to_make : List ℕ → List Entry → List Entry
to_make stack [] = []
to_make stack (entry ∷ rest) = if is_kept stack entry then [] else entry ∷ to_make stack rest

abbrev pub made_already : List ℕ → List Entry → List Entry
made_already stack [] = []
made_already stack (entry ∷ rest) = if is_kept stack entry then entry ∷ rest else made_already stack rest

abbrev pub made_anew : Entry → Building → Building
made_anew marker b = marked b
made_anew (formatted n tag) b =
    record (inserted_for tag b) { formatting = formatted (nodes b.forest) tag ∷ b.formatting }

abbrev pub all_made_anew : List Entry → Building → Building
all_made_anew [] b = b
all_made_anew (entry ∷ earlier) b = made_anew entry (all_made_anew earlier b)

abbrev pub reconstructed : Building → Building
reconstructed b = all_made_anew (to_make b.stack b.formatting)
    (record b { formatting = made_already b.stack b.formatting })

-- the same where the entries that come first, so many, stand already
abbrev pub made_after : ℕ → Building → Building
made_after left b = all_made_anew (take left b.formatting) (record b { formatting = drop left b.formatting })

abbrev pub made_from : ℕ → Building → Building
made_from index b = made_after (length b.formatting - index) b
