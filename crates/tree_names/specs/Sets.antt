-- Sets of names: of elements, by their namespaces, and of tags (WHATWG HTML, 13.2.4, 13.2.6 and 13.3). The numbers
-- are sections of that standard.
use Rattle.std.specs.Prelude.{ℕ, Bool, List, [], ◌∷◌}
use Rattle.html_lexemes.specs.declared.names.Namespace.{Namespace}
use Rattle.html_lexemes.specs.declared.names.Namespace.TheVariants.{Html, MathMl, Svg, Other}
use Rattle.html_lexemes.specs.declared.names.QualName.{QualName}
pub use Rattle.lex_base.specs.Words.{are_ascii, is_ascii_word, is_one_of, words_of}

-- a set of elements: their local names, by their namespace
pub record Elements : Type 0 where
  pub html : List (List ℕ)
  pub math_ml : List (List ℕ)
  pub svg : List (List ℕ)

abbrev pub words_in : Elements → Namespace → List (List ℕ)
words_in set Html = set.html
words_in set MathMl = set.math_ml
words_in set Svg = set.svg
words_in set (Other text) = []

-- an element is in a set
abbrev pub is_element_of : Elements → QualName → Bool
is_element_of set name = is_one_of (words_in set name.ns) name.local

-- elements of HTML alone
abbrev pub html_elements : List (List ℕ) → Elements
html_elements words = record { html = words; math_ml = []; svg = [] }

-- an element is this one of HTML
abbrev pub is_html : List ℕ → QualName → Bool
is_html word name = is_element_of (html_elements (word ∷ [])) name
