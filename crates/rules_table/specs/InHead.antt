-- The "in head" insertion mode (WHATWG HTML, 13.2.6.4.4). Other modes take tags by these rules too: after the head,
-- into the head.
use Rattle.std.specs.Prelude.{ℕ, Bool, false, true, List, [], ◌∷◌, Option, None, Some, codes, if◌then◌else◌}
use Rattle.html_lexemes.specs.declared.states.RawKind.TheVariants.{Rcdata, Rawtext, ScriptData}
use Rattle.html_lexemes.specs.declared.token.Tag.{Tag}
use Rattle.rules_table.specs.Encodings.{named_encoding}
use Rattle.tree_names.specs.Sets.{html_elements}
use Rattle.tree_names.specs.Wanted.{one}
use Rattle.tree_names.specs.declared.group.TagGroup.{TagGroup}
use Rattle.tree_names.specs.declared.group.TagGroup.TheVariants as groups
use Rattle.rules_table.specs.Actions.{Action, clear_to_marker, go_to, imply_but, insert, insert_void, pop}
use Rattle.rules_table.specs.Actions.{pop_template_mode, pop_to, push_template_mode, put_marker, refuse_frameset, reset}
use Rattle.rules_table.specs.Asking.{has_template}
use Rattle.rules_table.specs.HtmlTag.{html_start}
use Rattle.rules_table.specs.Rows.{Row, TextRow, again, asks, done, ignored, reads_raw, said_after, then_again}
use Rattle.rules_table.specs.declared.target.Target.{Target}
use Rattle.rules_table.specs.State.{State, encoding}
use Rattle.tree_predicates.specs.declared.modes.InsertionMode.TheVariants.{AfterHead, InHeadNoscript, InTemplate}

-- the head is closed
abbrev pub head_closed : List Action
head_closed = pop ∷ go_to AfterHead ∷ []

abbrev pub in_head_text : (is_space : Bool) → TextRow
in_head_text true = said_after []
in_head_text false = then_again head_closed

-- a `meta` that names an encoding asks for a look at it
abbrev pub asks_encoding : Option (List ℕ) → List Action → Row
asks_encoding None actions = done actions
asks_encoding (Some name) actions = asks (encoding name) actions

-- a `noscript` whose contents are not text
abbrev pub noscript_start : (scripting : Bool) → Target → Tag → Row
noscript_start true at t = reads_raw Rawtext (insert at t ∷ [])
noscript_start false at t = done (insert at t ∷ go_to InHeadNoscript ∷ [])

abbrev pub in_head_start : Target → TagGroup → Tag → State → Row
in_head_start at groups.Html t s = html_start t s
in_head_start at groups.Base t s = done (insert_void at t ∷ [])
in_head_start at groups.Link t s = done (insert_void at t ∷ [])
in_head_start at groups.Meta t s = asks_encoding (named_encoding t.attrs) (insert_void at t ∷ [])
in_head_start at groups.Title t s = reads_raw Rcdata (insert at t ∷ [])
in_head_start at groups.Noscript t s = noscript_start s.options.scripting_enabled at t
in_head_start at groups.Noframes t s = reads_raw Rawtext (insert at t ∷ [])
in_head_start at groups.Style t s = reads_raw Rawtext (insert at t ∷ [])
in_head_start at groups.Script t s = reads_raw ScriptData (insert at t ∷ [])
in_head_start at groups.Template t s =
    done (insert at t ∷ put_marker ∷ refuse_frameset ∷ go_to InTemplate ∷ push_template_mode InTemplate ∷ [])
in_head_start at groups.Head t s = ignored
in_head_start at _ t s = again head_closed

-- an end tag "template"
abbrev pub template_end : State → Row
template_end s = if has_template s then done (imply_but (html_elements []) ∷ pop_to (one (codes "template"))
    ∷ clear_to_marker ∷ pop_template_mode ∷ reset ∷ []) else ignored

abbrev pub in_head_end : TagGroup → State → Row
in_head_end groups.Head s = done head_closed
in_head_end groups.Body s = again head_closed
in_head_end groups.Html s = again head_closed
in_head_end groups.LineBreak s = again head_closed
in_head_end groups.Template s = template_end s
in_head_end _ s = ignored
