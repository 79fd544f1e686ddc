-- A tree as lines that hold all of it: one for each node in document order, after a space for each level. A line is a
-- word and its fields, each after a tab and with escapes:
--   doctype NAME PUBLIC SYSTEM
--   text TEXT
--   comment TEXT
--   instruction TARGET TEXT
--   element NAMESPACE NAME
-- Below an element, a level further, stands `attribute NAME VALUE` for each attribute, then of a template `contents`,
-- and below that what these hold; then its children.
use Rattle.std.specs.Prelude.{ℕ, zero, suc, ◌+◌, List, [], ◌∷◌, ◌++◌, Option, None, Some, codes, flat_map, replicate}
use Rattle.tree_forest.specs.Forest.{Element, Forest, Kind, children_at, comment, contents_of, doctype, document}
use Rattle.tree_forest.specs.Forest.{element, instruction, kind_at, nodes, text}
use Rattle.tree_forest.specs.declared.sink.QuirksMode.{QuirksMode}
use Rattle.tree_forest.specs.declared.sink.QuirksMode.TheVariants.{LimitedQuirks, NoQuirks, Quirks}
use Rattle.html_lexemes.specs.declared.names.Attribute.{Attribute}
use Rattle.html_lexemes.specs.declared.names.Namespace.{Namespace}
use Rattle.html_lexemes.specs.declared.names.Namespace.TheVariants.{Html, MathMl, Other, Svg}
use Rattle.html_lexemes.specs.declared.names.QualName.{QualName}
use Rattle.html_render_dom.specs.Dom.{Dom}
use Rattle.test_fields.specs.Escapes.{field_of}

-- for each of some nodes in turn
abbrev pub joined : (ℕ → List ℕ) → List ℕ → List ℕ
joined of_node [] = []
joined of_node (n ∷ ns) = of_node n ++ joined of_node ns

abbrev pub field : List ℕ → List ℕ
field cs = 9 ∷ field_of cs

abbrev pub line : List ℕ → List ℕ → List ℕ
line word fields = word ++ (fields ++ 10 ∷ [])

-- after a space for each level
abbrev pub indented : ℕ → List ℕ → List ℕ
indented level cs = replicate level 32 ++ cs

abbrev pub namespace_word : Namespace → List ℕ
namespace_word Html = codes "html"
namespace_word MathMl = codes "mathml"
namespace_word Svg = codes "svg"
namespace_word (Other cs) = cs

abbrev pub element_line : QualName → List ℕ
element_line name = line (codes "element") (field (namespace_word name.ns) ++ field name.local)

abbrev pub attribute_line : Attribute → List ℕ
attribute_line a = line (codes "attribute") (field a.name.local ++ field a.value)

abbrev pub attribute_lines : ℕ → List Attribute → List ℕ
attribute_lines level attributes = flat_map (λ a. indented level (attribute_line a)) attributes

-- of a template's contents
abbrev pub contents_line : ℕ → Option ℕ → List ℕ
contents_line level None = []
contents_line level (Some contents) = indented level (line (codes "contents") [])

abbrev pub element_lines : ℕ → Element → List ℕ
element_lines level e = element_line e.name
    ++ (attribute_lines (level + 1) e.attributes ++ contents_line (level + 1) e.contents)

-- a node alone; a document among others has no line of its own
abbrev pub kind_lines : ℕ → Kind → List ℕ
kind_lines level document = line (codes "another node") []
kind_lines level (doctype name public system) = line (codes "doctype") (field name ++ (field public ++ field system))
kind_lines level (text cs) = line (codes "text") (field cs)
kind_lines level (comment cs) = line (codes "comment") (field cs)
kind_lines level (instruction target cs) = line (codes "instruction") (field target ++ field cs)
kind_lines level (element e) = element_lines level e

abbrev pub node_lines : ℕ → Kind → List ℕ
node_lines level kind = indented level (kind_lines level kind)

-- the nodes that a template's contents hold
abbrev pub held_by : Option ℕ → Forest → List ℕ
held_by None f = []
held_by (Some contents) f = children_at contents f

-- a node and what is below it, at a level; a forest of so many nodes is at most so many deep
abbrev pub lines_within : ℕ → Forest → ℕ → ℕ → List ℕ
lines_within zero f level n = []
lines_within (suc k) f level n = node_lines level (kind_at n f)
    ++ (joined (lines_within k f (level + 2)) (held_by (contents_of n f) f)
    ++ joined (lines_within k f (level + 1)) (children_at n f))

-- some nodes and what is below them
abbrev pub row_lines : Forest → ℕ → List ℕ → List ℕ
row_lines f level ns = joined (lines_within (nodes f) f level) ns

-- all that is below the document
abbrev pub lines_below : Forest → List ℕ
lines_below f = row_lines f 0 (children_at 0 f)

abbrev pub mode_word : QuirksMode → List ℕ
mode_word Quirks = codes "Quirks"
mode_word LimitedQuirks = codes "LimitedQuirks"
mode_word NoQuirks = codes "NoQuirks"

-- the quirks mode, and the tree
abbrev pub lines_of : Dom → List ℕ
lines_of dom = line (codes "quirks") (field (mode_word dom.quirks)) ++ lines_below dom.forest
