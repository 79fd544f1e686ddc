-- What an element's attributes say, letters of ASCII in either case alike (WHATWG Infra, 4.5).
use Rattle.std.specs.Prelude.{◌&&◌, [], ◌∷◌, if◌then◌else◌, Bool, List, None, Option, Some, bytes_eq, codes, false, map}
use Rattle.std.specs.Prelude.{true, ℕ}
use Rattle.std.specs.Char.{to_ascii_lowercase}
use Rattle.tree_names.specs.Sets.{is_element_of, is_one_of}
use Rattle.html_lexemes.specs.declared.names.Attribute.{Attribute}
use Rattle.html_lexemes.specs.declared.names.QualName.{QualName}

abbrev pub in_lower_case : List ℕ → List ℕ
in_lower_case text = map to_ascii_lowercase text

-- the value of the first attribute with a local name
abbrev pub value_of : List ℕ → List Attribute → Option (List ℕ)
value_of name [] = None
value_of name (a ∷ rest) = if bytes_eq a.name.local name then Some a.value else value_of name rest

abbrev pub has_attribute : List (List ℕ) → List Attribute → Bool
has_attribute names [] = false
has_attribute names (a ∷ rest) = if is_one_of names a.name.local then true else has_attribute names rest

abbrev pub is_value_of : List (List ℕ) → Option (List ℕ) → Bool
is_value_of words None = false
is_value_of words (Some value) = is_one_of words (in_lower_case value)

-- an `input` that isn't shown (WHATWG HTML, 13.2.6.4.7 and 13.2.6.4.9)
abbrev pub is_hidden : List Attribute → Bool
is_hidden attributes = is_value_of (codes "hidden" ∷ []) (value_of (codes "type") attributes)

-- an `annotation-xml` element whose contents are HTML (13.2.6)
abbrev pub html_encodings : List (List ℕ)
html_encodings = codes "text/html" ∷ codes "application/xhtml+xml" ∷ []

abbrev pub is_html_annotation : QualName → List Attribute → Bool
is_html_annotation name attributes =
    is_element_of (record { html = []; math_ml = codes "annotation-xml" ∷ []; svg = [] }) name
    && is_value_of html_encodings (value_of (codes "encoding") attributes)
