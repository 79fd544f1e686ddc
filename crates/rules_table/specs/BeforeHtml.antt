-- The "before html" insertion mode (WHATWG HTML, 13.2.6.4.2).
use Rattle.std.specs.Prelude.{ℕ, Bool, false, true, List, [], ◌∷◌, codes}
use Rattle.html_lexemes.specs.declared.token.Tag.{Tag}
use Rattle.tree_names.specs.declared.group.TagGroup.{TagGroup}
use Rattle.tree_names.specs.declared.group.TagGroup.TheVariants as groups
use Rattle.rules_table.specs.Actions.{Action, at_place, comment_to_document, go_to, insert, insert_named}
use Rattle.rules_table.specs.Rows.{Row, TextRow, again, done, dropped, ignored, then_again}
use Rattle.tree_predicates.specs.declared.modes.InsertionMode.TheVariants.{BeforeHead}

-- the root is made
abbrev pub html_made : List Action
html_made = insert_named (codes "html") ∷ go_to BeforeHead ∷ []

abbrev pub before_html_text : (is_space : Bool) → TextRow
before_html_text true = dropped
before_html_text false = then_again html_made

abbrev pub before_html_comment : List ℕ → Row
before_html_comment cs = done (comment_to_document cs ∷ [])

abbrev pub before_html_start : TagGroup → Tag → Row
before_html_start groups.Html t = done (insert at_place t ∷ go_to BeforeHead ∷ [])
before_html_start _ t = again html_made

abbrev pub before_html_end : TagGroup → Row
before_html_end groups.Head = again html_made
before_html_end groups.Body = again html_made
before_html_end groups.Html = again html_made
before_html_end groups.LineBreak = again html_made
before_html_end _ = ignored
