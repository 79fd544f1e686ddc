-- End tags in the "in body" insertion mode (WHATWG HTML, 13.2.6.4.7).
use Rattle.std.specs.Prelude.{ℕ, [], ◌∷◌, Option, None, Some, codes, if◌then◌else◌}
use Rattle.html_lexemes.specs.declared.token.Tag.{Tag}
use Rattle.tree_names.specs.ElementSets.{headings}
use Rattle.tree_names.specs.Wanted.{one}
use Rattle.tree_names.specs.declared.group.TagGroup.{TagGroup}
use Rattle.tree_names.specs.declared.group.TagGroup.TheVariants as groups
use Rattle.rules_table.specs.Actions.{adopt, bare, clear_to_marker, close_other, close_p, forget_form, go_to, imply_but}
use Rattle.rules_table.specs.Actions.{insert_named, pop_to, take_off}
use Rattle.rules_table.specs.Asking.{has_template, in_button_scope, in_list_item_scope, in_scope, is_itself_in_scope}
use Rattle.rules_table.specs.InBodyBlocks.{none}
use Rattle.rules_table.specs.InBodyPhrases.{void_phrase_start}
use Rattle.rules_table.specs.InHead.{template_end}
use Rattle.rules_table.specs.Rows.{Row, again, done, ignored}
use Rattle.rules_table.specs.State.{State}
use Rattle.tree_predicates.specs.declared.modes.InsertionMode.TheVariants.{AfterBody}

-- "body"; "html"
abbrev pub body_end : State → Row
body_end s = if in_scope (one (codes "body")) s then done (go_to AfterBody ∷ []) else ignored

abbrev pub html_end : State → Row
html_end s = if in_scope (one (codes "body")) s then again (go_to AfterBody ∷ []) else ignored

-- "address" to "ul", "button", "listing", "pre", "select"
abbrev pub block_end : Tag → State → Row
block_end t s = if in_scope (one t.name) s then done (imply_but none ∷ pop_to (one t.name) ∷ []) else ignored

-- "form"
abbrev pub form_pointer_end : Option ℕ → State → Row
form_pointer_end None s = ignored
form_pointer_end (Some n) s = if is_itself_in_scope n s then done (forget_form ∷ imply_but none ∷ take_off n ∷ [])
    else done (forget_form ∷ [])

abbrev pub form_end : State → Row
form_end s = if has_template s
    then (if in_scope (one (codes "form")) s then done (imply_but none ∷ pop_to (one (codes "form")) ∷ []) else ignored)
    else form_pointer_end s.form s

-- "p": one is made where none is open
abbrev pub p_end : State → Row
p_end s = if in_button_scope (one (codes "p")) s then done (close_p ∷ [])
    else done (insert_named (codes "p") ∷ close_p ∷ [])

-- "li"; "dd", "dt"
abbrev pub list_item_end : State → Row
list_item_end s = if in_list_item_scope (one (codes "li")) s
    then done (imply_but (one (codes "li")) ∷ pop_to (one (codes "li")) ∷ []) else ignored

abbrev pub definition_end : Tag → State → Row
definition_end t s = if in_scope (one t.name) s then done (imply_but (one t.name) ∷ pop_to (one t.name) ∷ [])
    else ignored

-- "h1" to "h6"
abbrev pub heading_end : State → Row
heading_end s = if in_scope headings s then done (imply_but none ∷ pop_to headings ∷ []) else ignored

-- "applet", "marquee", "object"
abbrev pub marked_end : Tag → State → Row
marked_end t s = if in_scope (one t.name) s then done (imply_but none ∷ pop_to (one t.name) ∷ clear_to_marker ∷ [])
    else ignored

-- "br", as its start tag without attributes
abbrev pub line_break_end : Row
line_break_end = void_phrase_start (bare (codes "br"))

abbrev pub in_body_end : TagGroup → Tag → State → Row
in_body_end groups.Template t s = template_end s
in_body_end groups.Body t s = body_end s
in_body_end groups.Html t s = html_end s
in_body_end groups.Block t s = block_end t s
in_body_end groups.Button t s = block_end t s
in_body_end groups.Preformatted t s = block_end t s
in_body_end groups.Select t s = block_end t s
in_body_end groups.Form t s = form_end s
in_body_end groups.Paragraph t s = p_end s
in_body_end groups.ListItem t s = list_item_end s
in_body_end groups.Definition t s = definition_end t s
in_body_end groups.Heading t s = heading_end s
in_body_end groups.Anchor t s = done (adopt t.name ∷ [])
in_body_end groups.Formatting t s = done (adopt t.name ∷ [])
in_body_end groups.NoBreak t s = done (adopt t.name ∷ [])
in_body_end groups.Marked t s = marked_end t s
in_body_end groups.LineBreak t s = line_break_end
in_body_end _ t s = done (close_other t.name ∷ [])
