-- The name of the fragment that starts in an element.
use Rattle.std.specs.Prelude.{ℕ, if◌then◌else◌, List, [], ◌∷◌, Option, None, Some, codes}
use Rattle.tree_forest.specs.Forest.{Kind, comment, doctype, document, element, instruction, text}
use Rattle.html_lexemes.specs.declared.names.Attribute.{Attribute}
use Rattle.html_lexemes.specs.declared.names.QualName.{QualName}
use Rattle.tree_predicates.specs.Attributes.{value_of}
use Rattle.render_conversion.specs.ElementNames.{is_one_of}

-- its `id`; of an `a` without one its `name`
abbrev pub or_name : Option (List ℕ) → QualName → List Attribute → Option (List ℕ)
or_name (Some id) name attributes = Some id
or_name None name attributes =
    if is_one_of (codes "a" ∷ []) name then value_of (codes "name") attributes else None

abbrev pub fragment_name : QualName → List Attribute → Option (List ℕ)
fragment_name name attributes = or_name (value_of (codes "id") attributes) name attributes

abbrev pub fragment_of : Kind → Option (List ℕ)
fragment_of (element e) = fragment_name e.name e.attributes
fragment_of document = None
fragment_of (text cs) = None
fragment_of (comment cs) = None
fragment_of (doctype name public system) = None
fragment_of (instruction target cs) = None
