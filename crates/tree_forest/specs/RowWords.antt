-- Small forests of the worked rows.
use Rattle.std.specs.Prelude.{ℕ, List, [], codes, false}
use Rattle.html_lexemes.specs.declared.names.Attribute.{Attribute}
use Rattle.html_lexemes.specs.declared.names.Namespace.TheVariants.{Html, Other}
use Rattle.html_lexemes.specs.declared.names.QualName.{QualName}
use Rattle.tree_forest.specs.Changes.{made_element}
use Rattle.tree_forest.specs.Forest.{Forest, page_alone}
use Rattle.tree_forest.specs.Places.{before, below, put_node, put_words}

-- the name of an element of HTML, and an attribute
abbrev pub html : List ℕ → QualName
html word = record { ns = Html; local = word }

abbrev pub attribute : (name value : List ℕ) → Attribute
attribute name value = record { name = record { ns = Other []; local = name }; value = value }

-- two elements below the document
abbrev pub two : Forest
two = put_node (below 0) 2 (put_node (below 0) 1
    (made_element (html (codes "b")) [] false false (made_element (html (codes "a")) [] false false page_alone)))

-- a third that stands nowhere
abbrev pub alone : Forest → Forest
alone f = made_element (html (codes "c")) [] false false f

-- a text between the two
abbrev pub said : Forest
said = put_words (before 2) (codes "x") two
