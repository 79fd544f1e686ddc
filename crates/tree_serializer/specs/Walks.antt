-- The walk of a forest (WHATWG HTML, 13.3, "serializing HTML fragments"): what it gives a serializer, and what is
-- written.
-- A template's contents stand in the place of its children. A forest of so many nodes is at most so many deep.
use Rattle.std.specs.Prelude.{◌||◌, ◌&&◌, [], ◌∷◌, ◌++◌, if◌then◌else◌, Bool, List, None, Option, Some, codes, false}
use Rattle.std.specs.Prelude.{suc, zero, ℕ}
use Rattle.tree_forest.specs.Forest.{Forest, Kind, children_at, comment, contents_of, doctype, document, element}
use Rattle.tree_forest.specs.Forest.{instruction, kind_at, nodes, text}
use Rattle.html_lexemes.specs.declared.names.QualName.{QualName}
use Rattle.tree_serializer.specs.Calls.{Call, doctype_of, finish, instruction_of, remark, start, text_run}
use Rattle.tree_serializer.specs.Escapes.{comment_text, doctype_text, end_text, escaped, instruction_text, start_text}
use Rattle.tree_serializer.specs.declared.options.TraversalScope.{TraversalScope}
use Rattle.tree_serializer.specs.declared.options.TraversalScope.TheVariants.{ChildrenOnly, IncludeNode}
use Rattle.tree_names.specs.ElementSets.{raw_text_elements, void_elements}
use Rattle.tree_names.specs.Sets.{is_element_of, is_html}

-- for each of some nodes in turn
abbrev pub joined : {A : Type 0} → (ℕ → List A) → List ℕ → List A
joined of_node [] = []
joined of_node (n ∷ ns) = of_node n ++ joined of_node ns

-- what stands in a node: a template's contents, or its children
abbrev pub contents_or : Option ℕ → ℕ → ℕ
contents_or None n = n
contents_or (Some c) n = c

abbrev pub inner_of : ℕ → Forest → List ℕ
inner_of n f = children_at (contents_or (contents_of n f) n) f

abbrev pub calls_by : Kind → List Call → List Call
calls_by (element e) inner = start e.name e.attributes ∷ inner ++ finish e.name ∷ []
calls_by document inner = inner
calls_by (text cs) inner = text_run cs ∷ []
calls_by (comment cs) inner = remark cs ∷ []
calls_by (doctype name public system) inner = doctype_of name ∷ []
calls_by (instruction target cs) inner = instruction_of target cs ∷ []

abbrev pub calls_within : ℕ → Forest → ℕ → List Call
calls_within zero f n = []
calls_within (suc k) f n = calls_by (kind_at n f) (joined (calls_within k f) (inner_of n f))

-- the calls of a node's walk: with the node itself, or of what stands in it alone
abbrev pub calls_of : TraversalScope → ℕ → Forest → List Call
calls_of IncludeNode n f = calls_within (nodes f) f n
calls_of (ChildrenOnly name) n f = joined (calls_within (nodes f) f) (inner_of n f)

-- whether text directly in an element is written as it is: where scripts are run, a `noscript`'s too
abbrev pub is_raw : (scripting : Bool) → Option QualName → Bool
is_raw scripting None = false
is_raw scripting (Some name) =
    is_element_of raw_text_elements name || (scripting && is_html (codes "noscript") name)

abbrev pub run_text : (scripting : Bool) → Option QualName → List ℕ → List ℕ
run_text scripting parent cs = if is_raw scripting parent then cs else escaped false cs

-- what is written of a node, with what its contents are written as; of a void element its start tag alone
abbrev pub text_by : (scripting : Bool) → (parent : Option QualName) → Kind → (Option QualName → List ℕ) → List ℕ
text_by scripting parent (element e) inner = start_text e.name e.attributes
    ++ (if is_element_of void_elements e.name then [] else inner (Some e.name) ++ end_text e.name)
text_by scripting parent document inner = inner parent
text_by scripting parent (text cs) inner = run_text scripting parent cs
text_by scripting parent (comment cs) inner = comment_text cs
text_by scripting parent (doctype name public system) inner = doctype_text name
text_by scripting parent (instruction target cs) inner = instruction_text target cs

abbrev pub text_within : (scripting : Bool) → ℕ → Forest → Option QualName → ℕ → List ℕ
text_within scripting zero f parent n = []
text_within scripting (suc k) f parent n =
    text_by scripting parent (kind_at n f) (λ name. joined (text_within scripting k f name) (inner_of n f))

-- the walk text
abbrev pub walk_text : (scripting : Bool) → TraversalScope → ℕ → Forest → List ℕ
walk_text scripting IncludeNode n f = text_within scripting (nodes f) f None n
walk_text scripting (ChildrenOnly name) n f = joined (text_within scripting (nodes f) f name) (inner_of n f)
