-- Start tags of formatting, of elements without contents and of controls in the "in body" insertion mode (WHATWG HTML,
-- 13.2.6.4.7).
use Rattle.std.specs.Prelude.{ℕ, List, [], ◌∷◌, ◌++◌, Option, None, Some, codes, if◌then◌else◌}
use Rattle.html_tree_state.specs.Entries.{last_named}
use Rattle.html_lexemes.specs.declared.names.Namespace.TheVariants.{MathMl, Svg}
use Rattle.html_lexemes.specs.declared.states.RawKind.TheVariants.{Rawtext, Rcdata}
use Rattle.html_lexemes.specs.declared.token.Tag.{Tag}
use Rattle.tree_names.specs.Wanted.{one}
use Rattle.tree_names.specs.declared.group.TagGroup.{TagGroup}
use Rattle.tree_names.specs.declared.group.TagGroup.TheVariants as groups
use Rattle.rules_table.specs.Actions.{Action, adopt, adopt_in_scope, at_place, close_p, imply_but, insert}
use Rattle.rules_table.specs.Actions.{insert_foreign, insert_formatting, insert_void, pop_if, pop_to, put_marker}
use Rattle.rules_table.specs.Actions.{reconstruct, refuse_frameset, skip_next_line_feed, take_off, unlist}
use Rattle.rules_table.specs.Asking.{in_scope}
use Rattle.rules_table.specs.InBodyBlocks.{none}
use Rattle.rules_table.specs.Rows.{Row, done, reads_raw}
use Rattle.rules_table.specs.State.{State}
use Rattle.tree_predicates.specs.Attributes.{is_hidden}

-- "b" to "u"
abbrev pub formatting_start : Tag → Row
formatting_start t = done (reconstruct ∷ insert_formatting t ∷ [])

-- "a": one that is listed after the last marker is closed
abbrev pub anchor_after : Option ℕ → Tag → Row
anchor_after None t = formatting_start t
anchor_after (Some n) t =
    done (adopt t.name ∷ unlist n ∷ take_off n ∷ reconstruct ∷ insert_formatting t ∷ [])

abbrev pub anchor_start : Tag → State → Row
anchor_start t s = anchor_after (last_named t.name s.tree.formatting) t

-- "nobr"
abbrev pub no_break_start : Tag → Row
no_break_start t = done (reconstruct ∷ adopt_in_scope t.name ∷ insert_formatting t ∷ [])

-- "applet", "marquee", "object"
abbrev pub marked_start : Tag → Row
marked_start t = done (reconstruct ∷ insert at_place t ∷ put_marker ∷ refuse_frameset ∷ [])

-- "area", "br", "embed", "img", "keygen", "wbr"; "image" as "img"
abbrev pub void_phrase_start : Tag → Row
void_phrase_start t = done (reconstruct ∷ insert_void at_place t ∷ refuse_frameset ∷ [])

abbrev pub image_start : Tag → Row
image_start t = void_phrase_start (record t { name = codes "img" })

-- "input": an open select is closed; a hidden one leaves the frameset flag
abbrev pub select_closed : State → List Action
select_closed s = if in_scope (one (codes "select")) s then pop_to (one (codes "select")) ∷ [] else []

abbrev pub unless_hidden : Tag → List Action
unless_hidden t = if is_hidden t.attrs then [] else refuse_frameset ∷ []

abbrev pub input_start : Tag → State → Row
input_start t s = done (select_closed s ++ reconstruct ∷ insert_void at_place t ∷ unless_hidden t)

-- "param", "source", "track"
abbrev pub void_source_start : Tag → Row
void_source_start t = done (insert_void at_place t ∷ [])

-- "hr": in an open select options are closed
abbrev pub rule_start : Tag → State → Row
rule_start t s = if in_scope (one (codes "select")) s
    then done (imply_but none ∷ close_p ∷ insert_void at_place t ∷ refuse_frameset ∷ [])
    else done (close_p ∷ insert_void at_place t ∷ refuse_frameset ∷ [])

-- "textarea"
abbrev pub textarea_start : Tag → Row
textarea_start t = reads_raw Rcdata (insert at_place t ∷ skip_next_line_feed ∷ refuse_frameset ∷ [])

-- "xmp"; "iframe"; "noembed"; "noscript" where scripts would run
abbrev pub xmp_start : Tag → Row
xmp_start t = reads_raw Rawtext (close_p ∷ reconstruct ∷ refuse_frameset ∷ insert at_place t ∷ [])

abbrev pub iframe_start : Tag → Row
iframe_start t = reads_raw Rawtext (refuse_frameset ∷ insert at_place t ∷ [])

abbrev pub noembed_start : Tag → Row
noembed_start t = reads_raw Rawtext (insert at_place t ∷ [])

-- any other start tag
abbrev pub other_start : Tag → Row
other_start t = done (reconstruct ∷ insert at_place t ∷ [])

abbrev pub noscript_in_body : Tag → State → Row
noscript_in_body t s = if s.options.scripting_enabled then noembed_start t else other_start t

-- "select": an open one is closed
abbrev pub select_start : Tag → State → Row
select_start t s = if in_scope (one (codes "select")) s then done (pop_to (one (codes "select")) ∷ [])
    else done (reconstruct ∷ insert at_place t ∷ refuse_frameset ∷ [])

-- "option"; "optgroup"
abbrev pub option_start : Tag → State → Row
option_start t s = if in_scope (one (codes "select")) s
    then done (imply_but (one (codes "optgroup")) ∷ reconstruct ∷ insert at_place t ∷ [])
    else done (pop_if (one (codes "option")) ∷ reconstruct ∷ insert at_place t ∷ [])

abbrev pub option_group_start : Tag → State → Row
option_group_start t s = if in_scope (one (codes "select")) s
    then done (imply_but none ∷ reconstruct ∷ insert at_place t ∷ [])
    else done (pop_if (one (codes "option")) ∷ reconstruct ∷ insert at_place t ∷ [])

-- "rb", "rtc"; "rp", "rt"
abbrev pub ruby_base_start : Tag → State → Row
ruby_base_start t s = if in_scope (one (codes "ruby")) s then done (imply_but none ∷ insert at_place t ∷ [])
    else done (insert at_place t ∷ [])

abbrev pub ruby_text_start : Tag → State → Row
ruby_text_start t s = if in_scope (one (codes "ruby")) s
    then done (imply_but (one (codes "rtc")) ∷ insert at_place t ∷ []) else done (insert at_place t ∷ [])

-- "math"; "svg"
abbrev pub math_start : Tag → Row
math_start t = done (reconstruct ∷ insert_foreign MathMl t ∷ [])

abbrev pub svg_start : Tag → Row
svg_start t = done (reconstruct ∷ insert_foreign Svg t ∷ [])

abbrev pub in_body_phrase : TagGroup → Tag → State → Row
in_body_phrase groups.Anchor t s = anchor_start t s
in_body_phrase groups.Formatting t s = formatting_start t
in_body_phrase groups.NoBreak t s = no_break_start t
in_body_phrase groups.Marked t s = marked_start t
in_body_phrase groups.LineBreak t s = void_phrase_start t
in_body_phrase groups.VoidPhrase t s = void_phrase_start t
in_body_phrase groups.Input t s = input_start t s
in_body_phrase groups.VoidSource t s = void_source_start t
in_body_phrase groups.HorizontalRule t s = rule_start t s
in_body_phrase groups.Image t s = image_start t
in_body_phrase groups.Textarea t s = textarea_start t
in_body_phrase groups.Xmp t s = xmp_start t
in_body_phrase groups.Iframe t s = iframe_start t
in_body_phrase groups.Noembed t s = noembed_start t
in_body_phrase groups.Noscript t s = noscript_in_body t s
in_body_phrase groups.Select t s = select_start t s
in_body_phrase groups.OptionItem t s = option_start t s
in_body_phrase groups.OptionGroup t s = option_group_start t s
in_body_phrase groups.RubyBase t s = ruby_base_start t s
in_body_phrase groups.RubyText t s = ruby_text_start t s
in_body_phrase groups.Math t s = math_start t
in_body_phrase groups.Svg t s = svg_start t
in_body_phrase _ t s = other_start t
