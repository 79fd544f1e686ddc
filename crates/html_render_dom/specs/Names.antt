-- The names of an element's attributes, as a set has them.
use Rattle.std.specs.Prelude.{◌≡◌, List, []}
use Rattle.std.specs.HashSet.{HashSet, contains}
use Rattle.std.specs.declared.hash.BuildHasherDefault.{BuildHasherDefault}
use Rattle.std.specs.declared.hash.FoldHasher.{FoldHasher}
use Rattle.html_lexemes.specs.contracts.names.QualNamePartialEq.TheImpl as names
use Rattle.html_lexemes.specs.declared.names.Attribute.{Attribute}
use Rattle.html_lexemes.specs.declared.names.QualName.{QualName}
use Rattle.tree_forest.specs.Changes.{has_name}
use Rattle.html_render_dom.specs.declared.node.NodeData.{NodeData}
use Rattle.html_render_dom.specs.declared.node.NodeData.TheVariants as data_of

-- the attributes of an element; another node has none
abbrev pub attributes_in : NodeData → List Attribute
attributes_in data_of.Document = []
attributes_in (data_of.Doctype name public_id system_id) = []
attributes_in (data_of.Text contents) = []
attributes_in (data_of.Comment contents) = []
attributes_in (data_of.Element name attrs contents point) = attrs
attributes_in (data_of.ProcessingInstruction target contents) = []

-- a set has the names of these attributes, and no other
abbrev pub HasNames : HashSet QualName (BuildHasherDefault FoldHasher) → List Attribute → Type 0
HasNames set attributes = (name : QualName) → contains names.eq-value.it set name ≡ has_name name attributes
