-- The rules for foreign content (WHATWG HTML, 13.2.6.5), and when they hold (13.2.6, "tree construction dispatcher").
use Rattle.std.specs.Prelude.{ℕ, Bool, false, true, ◌||◌, [], ◌∷◌, Option, None, Some}
use Rattle.tree_forest.specs.Forest.{Forest, is_integration_point, name_of}
use Rattle.html_lexemes.specs.declared.names.Namespace.{Namespace}
use Rattle.html_lexemes.specs.declared.names.Namespace.TheVariants.{Html}
use Rattle.html_lexemes.specs.declared.names.QualName.{QualName}
use Rattle.html_lexemes.specs.declared.token.Tag.{Tag}
use Rattle.html_tree_state.specs.Foreign.{adjusted_current}
use Rattle.rules_table.specs.Actions.{insert_foreign, is_text, refuse_frameset, say}
use Rattle.rules_table.specs.Rows.{Row, TextRow, done, said_after}
use Rattle.rules_table.specs.State.{TreeToken, State, character, comment, doctype, end_of_file, finish, null, start}
use Rattle.tree_predicates.specs.Foreign.{is_of_html, takes_start, takes_text}

-- by the adjusted current node, and whether it is an `annotation-xml` whose contents are HTML: the rules for HTML take
-- what is emitted
abbrev pub takes : TreeToken → QualName → (is_point : Bool) → Bool
takes (character c) name is_point = takes_text name is_point
takes null name is_point = takes_text name is_point
takes (comment cs) name is_point = is_of_html name.ns
takes (doctype d) name is_point = is_of_html name.ns
takes (start t) name is_point = takes_start name is_point t.name
takes (finish t) name is_point = is_of_html name.ns
takes end_of_file name is_point = true

abbrev pub is_taken_at : TreeToken → Forest → Option ℕ → Bool
is_taken_at mark f None = true
is_taken_at mark f (Some n) = takes mark (name_of n f) (is_integration_point n f)

-- the adjusted current node of a state
abbrev pub node_here : State → Option ℕ
node_here s = adjusted_current s.context s.tree.stack

-- in the mode "text" the current node is an element of HTML
abbrev pub is_by_mode : TreeToken → State → Bool
is_by_mode mark s = is_text s.mode || is_taken_at mark s.tree.forest (node_here s)

-- the rules for foreign content
abbrev pub foreign_text : (is_space : Bool) → TextRow
foreign_text true = said_after []
foreign_text false = said_after (refuse_frameset ∷ [])

-- U+FFFD
abbrev pub foreign_null : Row
foreign_null = done (say (65533 ∷ []) ∷ [])

-- any other start tag: in the namespace of the adjusted current node
abbrev pub namespace_at : Forest → Option ℕ → Namespace
namespace_at f None = Html
namespace_at f (Some n) = (name_of n f).ns

abbrev pub foreign_start : Tag → State → Row
foreign_start t s = done (insert_foreign (namespace_at s.tree.forest (node_here s)) t ∷ [])
