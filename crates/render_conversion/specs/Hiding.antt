-- Elements that hide themselves: by an attribute `hidden` (WHATWG HTML, 6.1), unless its value is `until-found`, or by
-- a declaration `display: none` in an attribute `style` (CSS Style Attributes, 3). `html` and `body` never do.
use Rattle.std.specs.Prelude.{ℕ, ◌==◌, ◌&&◌, ◌||◌, Bool, false, not, if◌then◌else◌, List, [], ◌∷◌, Option, None, Some}
use Rattle.std.specs.Prelude.{codes, is_some, option_and_then}
use Rattle.std.specs.Char.{is_ascii_whitespace}
use Rattle.std.specs.List.{list_all, list_any}
use Rattle.html_lexemes.specs.declared.names.Attribute.{Attribute}
use Rattle.html_lexemes.specs.declared.names.QualName.{QualName}
use Rattle.token_grammar.specs.Slices.{after_word, rest_while}
use Rattle.tree_forest.specs.Forest.{Kind, comment, doctype, document, element, instruction, text}
use Rattle.tree_predicates.specs.Attributes.{is_value_of, value_of}
use Rattle.render_conversion.specs.ElementNames.{is_one_of}

-- without the white space that a text begins with: TAB, LF, FF, CR and SPACE
abbrev pub trimmed : List ℕ → List ℕ
trimmed cs = rest_while is_ascii_whitespace cs

-- what follows words that a text begins with, ASCII case aside, and the white space before each
abbrev pub after_words : List (List ℕ) → List ℕ → Option (List ℕ)
after_words [] cs = Some cs
after_words (word ∷ words) cs = option_and_then (after_words words) (after_word word (trimmed cs))

abbrev pub is_blank : List ℕ → Bool
is_blank cs = list_all is_ascii_whitespace cs

abbrev pub is_blank_rest : Option (List ℕ) → Bool
is_blank_rest None = false
is_blank_rest (Some rest) = is_blank rest

-- a text is these words and no more
abbrev pub consists_of : List (List ℕ) → List ℕ → Bool
consists_of words cs = is_blank_rest (after_words words cs)

-- `display: none`, also with `!important`
abbrev pub is_display_none : (declaration : List ℕ) → Bool
is_display_none cs =
    consists_of (codes "display" ∷ codes ":" ∷ codes "none" ∷ []) cs
    || consists_of (codes "display" ∷ codes ":" ∷ codes "none" ∷ codes "!" ∷ codes "important" ∷ []) cs

-- a text cut at each semicolon
abbrev pub first_longer : ℕ → List (List ℕ) → List (List ℕ)
first_longer c [] = (c ∷ []) ∷ []
first_longer c (piece ∷ pieces) = (c ∷ piece) ∷ pieces

abbrev pub declarations : List ℕ → List (List ℕ)
declarations [] = [] ∷ []
declarations (c ∷ cs) = if c == 59 then [] ∷ declarations cs else first_longer c (declarations cs)

abbrev pub hides_by_style : (style : Option (List ℕ)) → Bool
hides_by_style None = false
hides_by_style (Some style) = list_any is_display_none (declarations style)

abbrev pub hides_by_attribute : (hidden : Option (List ℕ)) → Bool
hides_by_attribute hidden = is_some hidden && not (is_value_of (codes "until-found" ∷ []) hidden)

abbrev pub hides_itself : QualName → List Attribute → Bool
hides_itself name attributes =
    not (is_one_of (codes "html" ∷ codes "body" ∷ []) name)
    && (hides_by_attribute (value_of (codes "hidden") attributes)
    || hides_by_style (value_of (codes "style") attributes))

abbrev pub is_hidden : Kind → Bool
is_hidden (element e) = hides_itself e.name e.attributes
is_hidden document = false
is_hidden (text cs) = false
is_hidden (comment cs) = false
is_hidden (doctype name public system) = false
is_hidden (instruction target cs) = false
