-- The "after body" and "after after body" insertion modes (WHATWG HTML, 13.2.6.4.17 and 13.2.6.4.20).
use Rattle.std.specs.Prelude.{ℕ, Bool, false, true, List, [], ◌∷◌, if◌then◌else◌}
use Rattle.html_lexemes.specs.declared.token.Tag.{Tag}
use Rattle.tree_names.specs.declared.group.TagGroup.{TagGroup}
use Rattle.tree_names.specs.declared.group.TagGroup.TheVariants as groups
use Rattle.rules_table.specs.Actions.{Action, comment_to_document, comment_to_root, go_to, is_known}
use Rattle.rules_table.specs.HtmlTag.{html_start}
use Rattle.rules_table.specs.InBody.{in_body_text}
use Rattle.rules_table.specs.Rows.{Row, TextRow, again, done, ignored, stopped, then_again}
use Rattle.rules_table.specs.State.{State}
use Rattle.tree_predicates.specs.declared.modes.InsertionMode.TheVariants.{AfterAfterBody, InBody}

-- the body goes on
abbrev pub body_again : List Action
body_again = go_to InBody ∷ []

abbrev pub after_body_text : (is_space : Bool) → TextRow
after_body_text true = in_body_text true
after_body_text false = then_again body_again

abbrev pub after_body_comment : List ℕ → Row
after_body_comment cs = done (comment_to_root cs ∷ [])

abbrev pub after_body_start : TagGroup → Tag → State → Row
after_body_start groups.Html t s = html_start t s
after_body_start _ t s = again body_again

-- in a fragment the end tag "html" is ignored
abbrev pub after_body_end : TagGroup → State → Row
after_body_end groups.Html s = if is_known s.context then ignored else done (go_to AfterAfterBody ∷ [])
after_body_end _ s = again body_again

abbrev pub after_body_end_of_file : Row
after_body_end_of_file = stopped

abbrev pub after_after_body_text : (is_space : Bool) → TextRow
after_after_body_text is_space = after_body_text is_space

abbrev pub after_after_body_comment : List ℕ → Row
after_after_body_comment cs = done (comment_to_document cs ∷ [])

abbrev pub after_after_body_start : TagGroup → Tag → State → Row
after_after_body_start group t s = after_body_start group t s

abbrev pub after_after_body_end : Row
after_after_body_end = again body_again

abbrev pub after_after_body_end_of_file : Row
after_after_body_end_of_file = stopped
