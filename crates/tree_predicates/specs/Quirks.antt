-- The quirks mode that a doctype asks for (WHATWG HTML, 13.2.6.4.1, with a list of identifiers of its own).
use Rattle.std.specs.Prelude.{◌||◌, ◌&&◌, [], ◌∷◌, if◌then◌else◌, Bool, List, None, Option, Some, bytes_eq, codes}
use Rattle.std.specs.Prelude.{false, length, not, take, true, ℕ}
use Rattle.html_lexemes.specs.declared.token.Doctype.{Doctype}
use Rattle.tree_forest.specs.declared.sink.QuirksMode.{QuirksMode}
use Rattle.tree_forest.specs.declared.sink.QuirksMode.TheVariants.{LimitedQuirks, NoQuirks, Quirks}
use Rattle.tree_predicates.specs.Attributes.{in_lower_case}

-- beginnings of public identifiers, in lower case: of quirks, of limited quirks, and of limited quirks with a system
-- identifier and of quirks without one
abbrev pub quirky : List (List ℕ)
quirky = codes "-//ietf//dtd html" ∷ codes "-//w3c//dtd html 3" ∷ codes "-//w3c//dtd html 4.0 transitional//"
    ∷ codes "-//w3c//dtd html 4.0 frameset//" ∷ []

abbrev pub limited : List (List ℕ)
limited = codes "-//w3c//dtd xhtml 1.0 transitional//" ∷ codes "-//w3c//dtd xhtml 1.0 frameset//" ∷ []

abbrev pub limited_by_system : List (List ℕ)
limited_by_system = codes "-//w3c//dtd html 4.01 transitional//" ∷ codes "-//w3c//dtd html 4.01 frameset//" ∷ []

-- an identifier that is given begins with one of these words
abbrev pub begins_with : List ℕ → List ℕ → Bool
begins_with text word = bytes_eq (take (length word) text) word

abbrev pub begins_with_one : List (List ℕ) → List ℕ → Bool
begins_with_one [] text = false
begins_with_one (word ∷ words) text = begins_with text word || begins_with_one words text

abbrev pub begins : List (List ℕ) → Option (List ℕ) → Bool
begins words None = false
begins words (Some identifier) = begins_with_one words (in_lower_case identifier)

abbrev pub is_given : Option (List ℕ) → Bool
is_given None = false
is_given (Some identifier) = true

abbrev pub is_named_html : Option (List ℕ) → Bool
is_named_html None = false
is_named_html (Some name) = bytes_eq name (codes "html")

abbrev pub quirks_of : Doctype → QuirksMode
quirks_of doctype =
    if doctype.force_quirks || (not (is_named_html doctype.name) || (begins quirky doctype.public_id
    || (begins limited_by_system doctype.public_id && not (is_given doctype.system_id)))) then Quirks
    else if begins limited doctype.public_id || begins limited_by_system doctype.public_id then LimitedQuirks
    else NoQuirks
