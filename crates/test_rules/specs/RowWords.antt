-- Small pages of the worked rows: what is emitted, item by item, and what stands then.
use Rattle.std.specs.Prelude.{[], ◌∷◌, ◌++◌, List, None, Option, Some, codes, false, flat_map, fold, suc, true, zero, ℕ}
use Rattle.tree_forest.specs.Forest.{Element, Forest, Kind, children_at, comment, contents_of, doctype, document}
use Rattle.tree_forest.specs.Forest.{element, element_of, instruction, kind_at, page_alone, text}
use Rattle.tree_forest.specs.declared.sink.QuirksMode.{QuirksMode}
use Rattle.tree_forest.specs.declared.sink.QuirksMode.TheVariants.{NoQuirks}
use Rattle.token_grammar.specs.Items.{Item}
use Rattle.token_grammar.specs.Items as items
use Rattle.html_lexemes.specs.declared.names.Attribute.{Attribute}
use Rattle.html_lexemes.specs.declared.names.Namespace.{Namespace}
use Rattle.html_lexemes.specs.declared.names.Namespace.TheVariants.{Other}
use Rattle.html_lexemes.specs.declared.names.QualName.{QualName}
use Rattle.html_lexemes.specs.declared.token.Tag.{Tag}
use Rattle.html_lexemes.specs.declared.token.TagKind.{TagKind}
use Rattle.html_lexemes.specs.declared.token.TagKind.TheVariants.{EndTag, StartTag}
use Rattle.html_lexemes.specs.declared.token.TokenSinkResult.{TokenSinkResult}
use Rattle.html_tree_state.specs.Names.{names_of}
use Rattle.rules_table.specs.Actions.{act, in_html, reset}
use Rattle.rules_table.specs.Defaults.{default_options}
use Rattle.rules_table.specs.Settling.{reply, step}
use Rattle.rules_table.specs.State.{State}
use Rattle.tree_predicates.specs.declared.modes.InsertionMode.{InsertionMode}
use Rattle.tree_predicates.specs.declared.modes.InsertionMode.TheVariants.{Initial}

-- a tree as text, without attributes, as deep as a number; what a template holds stands before its children
abbrev pub wrapped : Kind → List ℕ → List ℕ
wrapped (element e) inside =
    codes "<" ++ e.name.local ++ codes ">" ++ inside ++ codes "</" ++ e.name.local ++ codes ">"
wrapped (text cs) inside = cs
wrapped document inside = inside
wrapped (doctype name public system) inside = codes "<!" ++ name ++ codes ">"
wrapped (comment cs) inside = codes "<!--" ++ cs ++ codes "-->"
wrapped (instruction target cs) inside = []

abbrev pub with_contents : Option ℕ → List ℕ → List ℕ
with_contents None children = children
with_contents (Some contents) children = contents ∷ children

abbrev pub shown : ℕ → Forest → ℕ → List ℕ
shown zero f n = []
shown (suc k) f n = wrapped (kind_at n f)
    (flat_map (shown k f) (with_contents (contents_of n f) (children_at n f)))

abbrev pub tag_for : TagKind → List ℕ → Tag
tag_for kind name = record {
  kind = kind;
  name = name;
  self_closing = false;
  attrs = [];
  had_duplicate_attributes = false;
}

abbrev pub begun : State
begun = record {
  options = default_options;
  mode = Initial;
  original = Initial;
  template_modes = [];
  head = None;
  form = None;
  context = None;
  frameset_ok = true;
  skip_lf = false;
  pending = [];
  quirks = NoQuirks;
  is_over = false;
  has_failed = false;
  tree = record {
    stack = [];
    formatting = [];
    fostering = false;
    forest = page_alone;
    quirks = NoQuirks;
    counted = true;
  };
}

-- what stands before a page where scripts would not run, before an `iframe`'s `srcdoc`, and before a page whose doctype
-- is left out
abbrev pub without_scripts : State
without_scripts = record begun { options = record default_options { scripting_enabled = false } }

abbrev pub of_srcdoc : State
of_srcdoc = record begun { options = record default_options { iframe_srcdoc = true } }

abbrev pub dropping_doctypes : State
dropping_doctypes = record begun { options = record default_options { drop_doctype = true } }

-- what stands before a fragment: the root is node 1, the context, which has a name, node 2
abbrev pub plain_element : QualName → Element
plain_element name = record { name = name; attributes = []; contents = None; integration_point = false }

abbrev pub root_and_context : QualName → Forest
root_and_context name = record { kind = document; children = 1 ∷ [] }
    ∷ record { kind = element (plain_element (in_html (codes "html"))); children = [] }
    ∷ record { kind = element (plain_element name); children = [] } ∷ []

abbrev pub fragment_at : (context : QualName) → List InsertionMode → State
fragment_at name modes = act reset (record begun {
  template_modes = modes;
  context = Some 2;
  tree = record begun.tree { stack = 1 ∷ []; forest = root_and_context name };
})

abbrev pub fragment_of : (context : List ℕ) → List InsertionMode → State
fragment_of name modes = fragment_at (in_html name) modes

abbrev pub foreign_fragment_of : Namespace → (context : List ℕ) → State
foreign_fragment_of ns name = fragment_at (record { ns = ns; local = name }) []

-- what is emitted: a start tag, with an attribute, or with a slash; an end tag; text; NUL; a comment
abbrev pub start : List ℕ → Item
start name = items.tag (tag_for StartTag name)

abbrev pub start_with : (name attribute value : List ℕ) → Item
start_with name attribute value = items.tag (record (tag_for StartTag name) {
  attrs = record { name = record { ns = Other []; local = attribute }; value = value } ∷ [];
})

abbrev pub start_closed : List ℕ → Item
start_closed name = items.tag (record (tag_for StartTag name) { self_closing = true })

abbrev pub end : List ℕ → Item
end name = items.tag (tag_for EndTag name)

abbrev pub words : List ℕ → Item
words cs = items.characters cs

abbrev pub null : Item
null = items.null_character

abbrev pub remark : List ℕ → Item
remark cs = items.comment cs

-- a doctype without identifiers, with them, and without a name
abbrev pub doctype_named : List ℕ → Item
doctype_named name =
    items.doctype (record { name = Some name; public_id = None; system_id = None; force_quirks = false })

abbrev pub public_doctype : (name public_id : List ℕ) → Item
public_doctype name public_id =
    items.doctype (record { name = Some name; public_id = Some public_id; system_id = None; force_quirks = false })

abbrev pub system_doctype : (name public_id system_id : List ℕ) → Item
system_doctype name public_id system_id = items.doctype
    (record { name = Some name; public_id = Some public_id; system_id = Some system_id; force_quirks = false })

abbrev pub system_only : (name system_id : List ℕ) → Item
system_only name system_id =
    items.doctype (record { name = Some name; public_id = None; system_id = Some system_id; force_quirks = false })

abbrev pub nameless_doctype : Item
nameless_doctype = items.doctype (record { name = None; public_id = None; system_id = None; force_quirks = true })

-- an error, and the end of the page
abbrev pub error : Item
error = items.error

abbrev pub finished : Item
finished = items.end_of_file

abbrev pub trailing : List Item → State
trailing emitted = fold step begun emitted

abbrev pub tree_of : State → List ℕ
tree_of s = shown 20 s.tree.forest 0

abbrev pub page : List Item → List ℕ
page emitted = tree_of (trailing emitted)

-- the names of the open elements, the root first, with a space between two
abbrev pub spoken : List QualName → List ℕ
spoken [] = []
spoken (name ∷ []) = name.local
spoken (name ∷ above ∷ rest) = spoken (above ∷ rest) ++ codes " " ++ name.local

-- what stands after some items
pub record View : Type 0 where
  pub mode : InsertionMode
  pub elements : List ℕ
  pub tree : List ℕ

abbrev pub view_of : State → View
view_of s = record { mode = s.mode; elements = spoken (names_of s.tree); tree = tree_of s }

abbrev pub view_from : State → List Item → View
view_from first emitted = view_of (fold step first emitted)

abbrev pub view : List Item → View
view emitted = view_from begun emitted

-- what the tokenizer is answered for an item after others; a script is its node's number
abbrev pub answer_from : State → List Item → Item → TokenSinkResult ℕ
answer_from first emitted item = reply (λ n. n) (fold step first emitted) item

abbrev pub answer : List Item → Item → TokenSinkResult ℕ
answer emitted item = answer_from begun emitted item

-- a page's tree, with the quirks mode that stands
pub record Whole : Type 0 where
  pub quirks : QuirksMode
  pub tree : List ℕ

abbrev pub whole_of : State → Whole
whole_of s = record { quirks = s.quirks; tree = tree_of s }

abbrev pub whole_from : State → List Item → Whole
whole_from first emitted = whole_of (fold step first emitted)

abbrev pub whole : List Item → Whole
whole emitted = whole_from begun emitted

-- the attributes of a node, as text
abbrev pub attribute_text : Attribute → List ℕ
attribute_text a = a.name.local ++ codes "=" ++ a.value ++ codes " "

abbrev pub attributes_at : ℕ → List Item → List ℕ
attributes_at n emitted = flat_map attribute_text (element_of (kind_at n (trailing emitted).tree.forest)).attributes
