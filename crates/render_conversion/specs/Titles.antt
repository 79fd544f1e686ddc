-- Titles of drawings.
use Rattle.std.specs.Prelude.{◌&&◌, if◌then◌else◌, [], ◌++◌, Bool, List, None, Option, Some, bytes_eq, codes, false}
use Rattle.std.specs.Prelude.{true, ℕ}
use Rattle.tree_forest.specs.Trees.{Trees, node}
use Rattle.tree_forest.specs.Trees as of_trees
use Rattle.tree_forest.specs.Forest.{Kind, comment, doctype, document, element, instruction, text}
use Rattle.html_lexemes.specs.declared.names.Namespace.{Namespace}
use Rattle.html_lexemes.specs.declared.names.Namespace.TheVariants.{Html, MathMl, Other, Svg}
use Rattle.html_lexemes.specs.declared.names.QualName.{QualName}
use Rattle.html_render_dom.specs.Asking.{name_of_kind}

abbrev pub is_svg_space : Namespace → Bool
is_svg_space Svg = true
is_svg_space Html = false
is_svg_space MathMl = false
is_svg_space (Other name) = false

-- an element of SVG of this name
abbrev pub is_svg : (word : List ℕ) → QualName → Bool
is_svg word name = is_svg_space name.ns && bytes_eq name.local word

-- the text of a node itself
abbrev pub own_text : Kind → List ℕ
own_text (text cs) = cs
own_text document = []
own_text (comment cs) = []
own_text (doctype name public system) = []
own_text (instruction target cs) = []
own_text (element e) = []

-- all text of some nodes, at any depth
abbrev pub text_of : Trees → List ℕ
text_of of_trees.none = []
text_of (node kind kids rest) = own_text kind ++ (text_of kids ++ text_of rest)

abbrev pub is_title_by : Option QualName → Bool
is_title_by None = false
is_title_by (Some name) = is_svg (codes "title") name

abbrev pub is_title : Kind → Bool
is_title kind = is_title_by (name_of_kind kind)

-- all text of the first title among some nodes
abbrev pub title_of : Trees → Option (List ℕ)
title_of of_trees.none = None
title_of (node kind kids rest) = if is_title kind then Some (text_of kids) else title_of rest
