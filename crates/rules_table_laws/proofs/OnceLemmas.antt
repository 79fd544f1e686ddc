-- Rows of the body, and of what is taken as in the head, hand nothing on but the end tag "html" (WHATWG HTML,
-- 13.2.6.4.4 and 13.2.6.4.7).
use Rattle.std.proofs.Common.{ℕ, Bool, true, false, List, [], ◌∷◌, Option, None, Some, codes}
use Rattle.tree_formatting.specs.Entries.{last_named}
use Rattle.html_lexemes.specs.declared.token.Tag.{Tag}
use Rattle.rules_table.specs.Encodings.{named_encoding}
use Rattle.tree_names.specs.ElementSets.{headings}
use Rattle.tree_names.specs.Wanted.{one}
use Rattle.tree_names.specs.declared.group.TagGroup.{TagGroup}
use Rattle.rules_table_laws.proofs.FallForms.{IsTakenAtOnce, once_if}
use Rattle.rules_table.specs.Actions.{Action, at_place, insert_void}
use Rattle.rules_table.specs.Asking.{body_of, first_opened, has_form, has_template, in_button_scope, in_list_item_scope}
use Rattle.rules_table.specs.Asking.{in_scope, is_itself_in_scope, is_quirky}
use Rattle.rules_table.specs.HtmlTag.{given_to, html_start}
use Rattle.rules_table.specs.InBody.{in_body_start}
use Rattle.rules_table.specs.InBodyBlocks.{body_start, form_start, frameset_start, given_to_body, in_place_of_body}
use Rattle.rules_table.specs.InBodyEnds.{form_end, form_pointer_end, in_body_end}
use Rattle.rules_table.specs.InBodyPhrases.{anchor_after}
use Rattle.rules_table.specs.InHead.{asks_encoding, noscript_start, template_end}
use Rattle.rules_table.specs.Rows.{ignored}
use Rattle.rules_table.specs.State.{State}
use Rattle.rules_table.specs.declared.target.Target.{Target}
use Rattle.tree_names.specs.declared.group.TagGroup.TheVariants as groups

given_once : (root : Option ℕ) (t : Tag) → IsTakenAtOnce (given_to root t)
given_once None t = tt
given_once (Some n) t = tt

pub html_once : (t : Tag) (s : State) → IsTakenAtOnce (html_start t s)
html_once t s = once_if (has_template s) ignored (given_to (first_opened s.tree.stack) t) tt
    (given_once (first_opened s.tree.stack) t)

encoding_once : (name : Option (List ℕ)) (actions : List Action) → IsTakenAtOnce (asks_encoding name actions)
encoding_once None actions = tt
encoding_once (Some name) actions = tt

pub meta_once : (at : Target) (t : Tag) →
    IsTakenAtOnce (asks_encoding (named_encoding t.attrs) (insert_void at t ∷ []))
meta_once at t = encoding_once (named_encoding t.attrs) (insert_void at t ∷ [])

pub noscript_once : (scripting : Bool) (at : Target) (t : Tag) → IsTakenAtOnce (noscript_start scripting at t)
noscript_once true at t = tt
noscript_once false at t = tt

pub template_once : (s : State) → IsTakenAtOnce (template_end s)
template_once s = once_if (has_template s) _ ignored tt tt

body_given_once : (body : Option ℕ) (t : Tag) → IsTakenAtOnce (given_to_body body t)
body_given_once None t = tt
body_given_once (Some n) t = tt

body_tag_once : (t : Tag) (s : State) → IsTakenAtOnce (body_start t s)
body_tag_once t s = once_if (has_template s) ignored (given_to_body (body_of s) t) tt (body_given_once (body_of s) t)

in_place_once : (body : Option ℕ) (t : Tag) → IsTakenAtOnce (in_place_of_body body t)
in_place_once None t = tt
in_place_once (Some n) t = tt

frameset_once : (t : Tag) (s : State) → IsTakenAtOnce (frameset_start t s)
frameset_once t s = once_if s.frameset_ok (in_place_of_body (body_of s) t) ignored (in_place_once (body_of s) t) tt

form_once : (t : Tag) (s : State) → IsTakenAtOnce (form_start t s)
form_once t s = once_if (has_form s) _ _ tt (once_if (has_template s) _ _ tt tt)

anchor_once : (listed : Option ℕ) (t : Tag) → IsTakenAtOnce (anchor_after listed t)
anchor_once None t = tt
anchor_once (Some n) t = tt

form_pointer_once : (form : Option ℕ) (s : State) → IsTakenAtOnce (form_pointer_end form s)
form_pointer_once None s = tt
form_pointer_once (Some n) s = once_if (is_itself_in_scope n s) _ _ tt tt

form_end_once : (s : State) → IsTakenAtOnce (form_end s)
form_end_once s = once_if (has_template s) _ (form_pointer_end s.form s)
    (once_if (in_scope (one (codes "form")) s) _ _ tt tt) (form_pointer_once s.form s)

pub body_start_once : (group : TagGroup) (t : Tag) (s : State) → IsTakenAtOnce (in_body_start group t s)
body_start_once groups.Anchor t s = anchor_once (last_named t.name s.tree.formatting) t
body_start_once groups.Body t s = body_tag_once t s
body_start_once groups.Button t s = once_if (in_scope (one (codes "button")) s) _ _ tt tt
body_start_once groups.Form t s = form_once t s
body_start_once groups.Frameset t s = frameset_once t s
body_start_once groups.HorizontalRule t s = once_if (in_scope (one (codes "select")) s) _ _ tt tt
body_start_once groups.Html t s = html_once t s
body_start_once groups.Meta t s = meta_once at_place t
body_start_once groups.Noscript t s = once_if s.options.scripting_enabled _ _ tt tt
body_start_once groups.OptionItem t s = once_if (in_scope (one (codes "select")) s) _ _ tt tt
body_start_once groups.OptionGroup t s = once_if (in_scope (one (codes "select")) s) _ _ tt tt
body_start_once groups.RubyBase t s = once_if (in_scope (one (codes "ruby")) s) _ _ tt tt
body_start_once groups.RubyText t s = once_if (in_scope (one (codes "ruby")) s) _ _ tt tt
body_start_once groups.Select t s = once_if (in_scope (one (codes "select")) s) _ _ tt tt
body_start_once groups.Table t s = once_if (is_quirky s.quirks) _ _ tt tt
body_start_once group t s = tt

-- the end tag "html" apart
abbrev pub IsNotHtml : TagGroup → Type 0
IsNotHtml groups.Html = ⊥
IsNotHtml _ = Unit {0}

pub body_end_once : (group : TagGroup) (t : Tag) (s : State) → IsNotHtml group → IsTakenAtOnce (in_body_end group t s)
body_end_once groups.Block t s is = once_if (in_scope (one t.name) s) _ _ tt tt
body_end_once groups.Body t s is = once_if (in_scope (one (codes "body")) s) _ _ tt tt
body_end_once groups.Button t s is = once_if (in_scope (one t.name) s) _ _ tt tt
body_end_once groups.Definition t s is = once_if (in_scope (one t.name) s) _ _ tt tt
body_end_once groups.Form t s is = form_end_once s
body_end_once groups.Heading t s is = once_if (in_scope headings s) _ _ tt tt
body_end_once groups.Html t s is = absurd is
body_end_once groups.ListItem t s is = once_if (in_list_item_scope (one (codes "li")) s) _ _ tt tt
body_end_once groups.Marked t s is = once_if (in_scope (one t.name) s) _ _ tt tt
body_end_once groups.Paragraph t s is = once_if (in_button_scope (one (codes "p")) s) _ _ tt tt
body_end_once groups.Preformatted t s is = once_if (in_scope (one t.name) s) _ _ tt tt
body_end_once groups.Select t s is = once_if (in_scope (one t.name) s) _ _ tt tt
body_end_once groups.Template t s is = template_once s
body_end_once group t s is = tt
