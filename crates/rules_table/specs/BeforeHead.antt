-- The "before head" insertion mode (WHATWG HTML, 13.2.6.4.3).
use Rattle.std.specs.Prelude.{Bool, false, true, List, [], ◌∷◌, codes}
use Rattle.html_lexemes.specs.declared.token.Tag.{Tag}
use Rattle.tree_names.specs.declared.group.TagGroup.{TagGroup}
use Rattle.tree_names.specs.declared.group.TagGroup.TheVariants as groups
use Rattle.rules_table.specs.Actions.{Action, at_place, go_to, insert, insert_named, keep_head}
use Rattle.rules_table.specs.HtmlTag.{html_start}
use Rattle.rules_table.specs.Rows.{Row, TextRow, again, done, dropped, ignored, then_again}
use Rattle.rules_table.specs.State.{State}
use Rattle.tree_predicates.specs.declared.modes.InsertionMode.TheVariants.{InHead}

-- the head is made
abbrev pub head_made : List Action
head_made = insert_named (codes "head") ∷ keep_head ∷ go_to InHead ∷ []

abbrev pub before_head_text : (is_space : Bool) → TextRow
before_head_text true = dropped
before_head_text false = then_again head_made

abbrev pub before_head_start : TagGroup → Tag → State → Row
before_head_start groups.Html t s = html_start t s
before_head_start groups.Head t s = done (insert at_place t ∷ keep_head ∷ go_to InHead ∷ [])
before_head_start _ t s = again head_made

abbrev pub before_head_end : TagGroup → Row
before_head_end groups.Head = again head_made
before_head_end groups.Body = again head_made
before_head_end groups.Html = again head_made
before_head_end groups.LineBreak = again head_made
before_head_end _ = ignored
