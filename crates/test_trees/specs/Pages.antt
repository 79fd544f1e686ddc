-- Pages as they are built, step by step.
use Rattle.std.specs.Prelude.{ℕ, List, [], codes, false, true}
use Rattle.html_lexemes.specs.declared.names.Attribute.{Attribute}
use Rattle.html_lexemes.specs.declared.names.QualName.{QualName}
use Rattle.tree_forest.specs.Changes.{detached, made, made_element, reparented, with_attributes}
use Rattle.tree_forest.specs.Forest.{Forest, comment, instruction, page_alone}
use Rattle.tree_forest.specs.Places.{before, below, put_node, put_words, with_doctype}

-- an element without attributes, and one with a name and attributes
abbrev pub plain : QualName → Forest → Forest
plain name f = made_element name [] false false f

abbrev pub attributed : QualName × List Attribute → Forest → Forest
attributed named f = made_element named.0 named.1 false false f

-- a doctype and an element below the document, and two below the element
abbrev pub outline : (name public_id system_id : List ℕ) → (html head body : QualName × List Attribute) → Forest
outline name public_id system_id html head body =
    put_node (below 2) 4 (attributed body
    (put_node (below 2) 3 (attributed head
    (put_node (below 0) 2 (attributed html
    (with_doctype name public_id system_id page_alone))))))

-- a comment, and an instruction before it
abbrev pub with_remarks : (text target said : List ℕ) → Forest
with_remarks text target said = put_node (before 1) 2 (made (instruction target said)
    (put_node (below 0) 1 (made (comment text) page_alone)))

-- three elements, of which the first moves before the second, and the second then to the end
abbrev pub three : (a b c : QualName) → Forest
three a b c = put_node (below 0) 3 (plain c (put_node (below 0) 2 (plain b
    (put_node (below 0) 1 (plain a page_alone)))))

abbrev pub moved : (a b c : QualName) → Forest
moved a b c = put_node (below 0) 2 (detached 2 (put_node (before 2) 1 (detached 1 (three a b c))))

-- an element before a table, and one below the first, once the table has no parent
abbrev pub fostered : (table a b : QualName) → Forest
fostered table a b = put_node (below 2) 3 (plain b (detached 1
    (put_node (before 1) 2 (plain a (put_node (below 0) 1 (plain table page_alone))))))

-- two children that go to a new element, which goes where they were
abbrev pub reparented_page : (outer a b inner : QualName) → Forest
reparented_page outer a b inner = put_node (below 1) 4 (reparented 1 4 (plain inner
    (put_node (below 1) 3 (plain b (put_node (below 1) 2 (plain a
    (put_node (below 0) 1 (plain outer page_alone))))))))

-- a child that goes to another element, after the child that stands there
abbrev pub given_page : (from a to b : QualName) → Forest
given_page from a to b = reparented 1 3 (put_node (below 3) 4 (plain b (put_node (below 0) 3 (plain to
    (put_node (below 1) 2 (plain a (put_node (below 0) 1 (plain from page_alone))))))))

-- an only child that is taken out, and another in its place
abbrev pub refilled_page : (outer a b : QualName) → Forest
refilled_page outer a b = put_node (below 1) 3 (plain b (detached 2 (put_node (below 1) 2 (plain a
    (put_node (below 0) 1 (plain outer page_alone))))))

-- attributes more, twice
abbrev pub with_both : QualName → (attributes more most : List Attribute) → Forest
with_both name attributes more most = with_attributes 1 most (with_attributes 1 more
    (put_node (below 0) 1 (attributed (name, attributes) page_alone)))

-- a template, whose contents are node 2
abbrev pub template_page : (template a b : QualName) → Forest
template_page template a b = put_node (below 1) 4 (plain b (put_node (below 2) 3 (plain a
    (put_node (below 0) 1 (made_element template [] true false page_alone)))))

abbrev pub one_element : QualName → Forest
one_element name = put_node (below 0) 1 (plain name page_alone)

-- an integration point, and another element
abbrev pub point_page : (a b : QualName) → Forest
point_page a b = plain b (made_element a [] false true page_alone)

-- texts on both sides of an element, each put twice, and a text more once the element is gone
unfoldable pub said_one : QualName → Forest
said_one name = put_words (below 0) (codes "x") (one_element name)

unfoldable pub said_two : QualName → Forest
said_two name = put_words (below 0) (codes "y") (said_one name)

unfoldable pub said_three : QualName → Forest
said_three name = put_words (before 1) (codes "x") (said_two name)

unfoldable pub said_four : QualName → Forest
said_four name = put_words (before 1) (codes "y") (said_three name)

unfoldable pub said_page : QualName → Forest
said_page name = put_words (below 0) (codes "x") (detached 1 (said_four name))
