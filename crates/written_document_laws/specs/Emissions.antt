-- What a document gives a serializer (WHATWG HTML, 13.3, "serializing HTML fragments"): each text, and each element's
-- beginning and end. A document is contents too: its root element, with what stands in it.
use Rattle.std.specs.Prelude.{ℕ, List, [], ◌∷◌, Option, None, Some, codes}
use Rattle.tree_serializer.specs.Calls.{Call, doctype_of, finish, start, text_run}
use Rattle.document_laws.specs.Contents.{Content, none, say, span}
use Rattle.document_laws.specs.Planted.{of_html}

-- the calls for some contents, and those after them
abbrev pub calls_and : Content → List Call → List Call
calls_and none more = more
calls_and (say c cs rest) more = text_run (c ∷ cs) ∷ calls_and rest more
calls_and (span name attributes kids rest) more =
    start (of_html name) attributes ∷ calls_and kids (finish (of_html name) ∷ calls_and rest more)

-- a text without characters is none
abbrev pub text_content : List ℕ → Content
text_content [] = none
text_content (c ∷ cs) = say c cs none

abbrev pub head_content : Option (List ℕ) → Content
head_content None = none
head_content (Some title) = span (codes "title") [] (text_content title) none

abbrev pub root_content : Option (List ℕ) → Content → Content
root_content title content =
    span (codes "head") [] (head_content title) (span (codes "body") [] content none)

abbrev pub document_calls : Option (List ℕ) → Content → List Call
document_calls title content =
    doctype_of (codes "html") ∷ calls_and (span (codes "html") [] (root_content title content) none) []
