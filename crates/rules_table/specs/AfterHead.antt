-- The "after head" insertion mode (WHATWG HTML, 13.2.6.4.6). The standard opens the head again while a tag is taken by
-- the rules for it: the tag's element is inserted into the head.
use Rattle.std.specs.Prelude.{Bool, false, true, List, [], ◌∷◌, codes}
use Rattle.html_lexemes.specs.declared.token.Tag.{Tag}
use Rattle.tree_names.specs.declared.group.TagGroup.{TagGroup}
use Rattle.tree_names.specs.declared.group.TagGroup.TheVariants as groups
use Rattle.rules_table.specs.Actions.{Action, at_place, go_to, insert, insert_named, into_head, refuse_frameset}
use Rattle.rules_table.specs.HtmlTag.{html_start}
use Rattle.rules_table.specs.InHead.{in_head_end, in_head_start}
use Rattle.rules_table.specs.Rows.{Row, TextRow, again, done, ignored, said_after, then_again}
use Rattle.rules_table.specs.State.{State}
use Rattle.tree_predicates.specs.declared.modes.InsertionMode.TheVariants.{InBody, InFrameset}

-- the body is made
abbrev pub body_made : List Action
body_made = insert_named (codes "body") ∷ go_to InBody ∷ []

abbrev pub after_head_text : (is_space : Bool) → TextRow
after_head_text true = said_after []
after_head_text false = then_again body_made

abbrev pub after_head_start : TagGroup → Tag → State → Row
after_head_start groups.Html t s = html_start t s
after_head_start groups.Body t s = done (insert at_place t ∷ refuse_frameset ∷ go_to InBody ∷ [])
after_head_start groups.Frameset t s = done (insert at_place t ∷ go_to InFrameset ∷ [])
after_head_start groups.Base t s = in_head_start into_head groups.Base t s
after_head_start groups.Link t s = in_head_start into_head groups.Link t s
after_head_start groups.Meta t s = in_head_start into_head groups.Meta t s
after_head_start groups.Noframes t s = in_head_start into_head groups.Noframes t s
after_head_start groups.Script t s = in_head_start into_head groups.Script t s
after_head_start groups.Style t s = in_head_start into_head groups.Style t s
after_head_start groups.Template t s = in_head_start into_head groups.Template t s
after_head_start groups.Title t s = in_head_start into_head groups.Title t s
after_head_start groups.Head t s = ignored
after_head_start _ t s = again body_made

abbrev pub after_head_end : TagGroup → State → Row
after_head_end groups.Template s = in_head_end groups.Template s
after_head_end groups.Body s = again body_made
after_head_end groups.Html s = again body_made
after_head_end groups.LineBreak s = again body_made
after_head_end _ s = ignored
