-- Escaped text (WHATWG HTML, 13.3, "escaping a string"), and tags written with it.
use Rattle.std.specs.Prelude.{ℕ, ◌==◌, ◌&&◌, Bool, true, List, [], ◌∷◌, ◌++◌, codes, if◌then◌else◌}
use Rattle.html_lexemes.specs.declared.names.Attribute.{Attribute}
use Rattle.html_lexemes.specs.declared.names.QualName.{QualName}

-- `&`, U+00A0, `<` and `>`, and in values of attributes `"` too, are written by their references
abbrev pub escaped_character : (in_value : Bool) → ℕ → List ℕ
escaped_character in_value c = if c == 38 then codes "&amp;"
    else if c == 160 then codes "&nbsp;"
    else if c == 60 then codes "&lt;"
    else if c == 62 then codes "&gt;"
    else if in_value && c == 34 then codes "&quot;"
    else c ∷ []

-- each character by itself
abbrev pub escaped : (in_value : Bool) → List ℕ → List ℕ
escaped in_value [] = []
escaped in_value (c ∷ cs) = escaped_character in_value c ++ escaped in_value cs

-- SPACE, the name, `="`, the value escaped, `"`
abbrev pub attribute_text : Attribute → List ℕ
attribute_text a = 32 ∷ a.name.local ++ 61 ∷ 34 ∷ escaped true a.value ++ 34 ∷ []

abbrev pub attributes_text : List Attribute → List ℕ
attributes_text [] = []
attributes_text (a ∷ rest) = attribute_text a ++ attributes_text rest

-- `<name ..>`, `</name>`
abbrev pub start_text : QualName → List Attribute → List ℕ
start_text name attributes = 60 ∷ name.local ++ attributes_text attributes ++ 62 ∷ []

abbrev pub end_text : QualName → List ℕ
end_text name = 60 ∷ 47 ∷ name.local ++ 62 ∷ []

abbrev pub comment_text : List ℕ → List ℕ
comment_text cs = codes "<!--" ++ cs ++ codes "-->"

abbrev pub doctype_text : List ℕ → List ℕ
doctype_text name = codes "<!DOCTYPE " ++ name ++ 62 ∷ []

abbrev pub instruction_text : (target contents : List ℕ) → List ℕ
instruction_text target contents = codes "<?" ++ target ++ 32 ∷ contents ++ 62 ∷ []
