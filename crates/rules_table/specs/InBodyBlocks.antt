-- Start tags of blocks, lists and forms in the "in body" insertion mode (WHATWG HTML, 13.2.6.4.7).
use Rattle.std.specs.Prelude.{ℕ, [], ◌∷◌, Option, None, Some, codes, if◌then◌else◌}
use Rattle.html_lexemes.specs.declared.token.Tag.{Tag}
use Rattle.tree_names.specs.ElementSets.{headings}
use Rattle.tree_names.specs.Sets.{Elements, html_elements}
use Rattle.tree_names.specs.TagSets.{definitions}
use Rattle.tree_names.specs.Wanted.{one}
use Rattle.rules_table.specs.Actions.{add_attributes, at_place, close_item, close_p, go_to, imply_but, insert}
use Rattle.rules_table.specs.Actions.{keep_form, pop_down_to, pop_if, pop_to, reconstruct, refuse_frameset}
use Rattle.rules_table.specs.Actions.{skip_next_line_feed, take_out}
use Rattle.rules_table.specs.Asking.{body_of, has_form, has_template, in_scope, is_quirky}
use Rattle.rules_table.specs.Rows.{Row, asks, done, ignored}
use Rattle.rules_table.specs.State.{State, plaintext}
use Rattle.tree_predicates.specs.declared.modes.InsertionMode.TheVariants.{InFrameset, InTable}

-- no element
abbrev pub none : Elements
none = html_elements []

-- "body": the body takes the attributes that it lacks
abbrev pub given_to_body : Option ℕ → Tag → Row
given_to_body None t = ignored
given_to_body (Some body) t = done (add_attributes body t.attrs ∷ refuse_frameset ∷ [])

abbrev pub body_start : Tag → State → Row
body_start t s = if has_template s then ignored else given_to_body (body_of s) t

-- "frameset": it takes the place of a body that holds nothing yet
abbrev pub in_place_of_body : Option ℕ → Tag → Row
in_place_of_body None t = ignored
in_place_of_body (Some body) t =
    done (take_out body ∷ pop_down_to (one (codes "html")) ∷ insert at_place t ∷ go_to InFrameset ∷ [])

abbrev pub frameset_start : Tag → State → Row
frameset_start t s = if s.frameset_ok then in_place_of_body (body_of s) t else ignored

-- "address" to "ul"
abbrev pub block_start : Tag → Row
block_start t = done (close_p ∷ insert at_place t ∷ [])

-- "h1" to "h6": a heading that is the current node is closed
abbrev pub heading_start : Tag → Row
heading_start t = done (close_p ∷ pop_if headings ∷ insert at_place t ∷ [])

-- "pre", "listing"
abbrev pub preformatted_start : Tag → Row
preformatted_start t = done (close_p ∷ insert at_place t ∷ skip_next_line_feed ∷ refuse_frameset ∷ [])

-- "form"
abbrev pub form_start : Tag → State → Row
form_start t s = if has_form s then ignored
    else if has_template s then done (close_p ∷ insert at_place t ∷ [])
    else done (close_p ∷ insert at_place t ∷ keep_form ∷ [])

-- "li"; "dd", "dt"
abbrev pub item_start : Elements → Tag → Row
item_start items t = done (refuse_frameset ∷ close_item items ∷ close_p ∷ insert at_place t ∷ [])

abbrev pub list_item_start : Tag → Row
list_item_start t = item_start (one (codes "li")) t

abbrev pub definition_start : Tag → Row
definition_start t = item_start (html_elements definitions) t

-- "plaintext"
abbrev pub plaintext_start : Tag → Row
plaintext_start t = asks plaintext (close_p ∷ insert at_place t ∷ [])

-- "button": one that is in scope is closed
abbrev pub button_start : Tag → State → Row
button_start t s = if in_scope (one (codes "button")) s
    then done (imply_but none ∷ pop_to (one (codes "button")) ∷ reconstruct ∷ insert at_place t ∷ refuse_frameset ∷ [])
    else done (reconstruct ∷ insert at_place t ∷ refuse_frameset ∷ [])

-- "table"
abbrev pub table_start : Tag → State → Row
table_start t s = if is_quirky s.quirks then done (insert at_place t ∷ refuse_frameset ∷ go_to InTable ∷ [])
    else done (close_p ∷ insert at_place t ∷ refuse_frameset ∷ go_to InTable ∷ [])
