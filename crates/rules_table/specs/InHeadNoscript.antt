-- The "in head noscript" insertion mode (WHATWG HTML, 13.2.6.4.5).
use Rattle.std.specs.Prelude.{Bool, false, true, List, [], ◌∷◌}
use Rattle.html_lexemes.specs.declared.token.Tag.{Tag}
use Rattle.tree_names.specs.declared.group.TagGroup.{TagGroup}
use Rattle.tree_names.specs.declared.group.TagGroup.TheVariants as groups
use Rattle.rules_table.specs.Actions.{Action, at_place, go_to, pop}
use Rattle.rules_table.specs.HtmlTag.{html_start}
use Rattle.rules_table.specs.InHead.{in_head_start, in_head_text}
use Rattle.rules_table.specs.Rows.{Row, TextRow, again, done, ignored, then_again}
use Rattle.rules_table.specs.State.{State}
use Rattle.tree_predicates.specs.declared.modes.InsertionMode.TheVariants.{InHead}

-- the `noscript` is closed
abbrev pub noscript_closed : List Action
noscript_closed = pop ∷ go_to InHead ∷ []

abbrev pub in_head_noscript_text : (is_space : Bool) → TextRow
in_head_noscript_text true = in_head_text true
in_head_noscript_text false = then_again noscript_closed

abbrev pub in_head_noscript_start : TagGroup → Tag → State → Row
in_head_noscript_start groups.Html t s = html_start t s
in_head_noscript_start groups.Link t s = in_head_start at_place groups.Link t s
in_head_noscript_start groups.Meta t s = in_head_start at_place groups.Meta t s
in_head_noscript_start groups.Noframes t s = in_head_start at_place groups.Noframes t s
in_head_noscript_start groups.Style t s = in_head_start at_place groups.Style t s
in_head_noscript_start groups.Head t s = ignored
in_head_noscript_start groups.Noscript t s = ignored
in_head_noscript_start _ t s = again noscript_closed

abbrev pub in_head_noscript_end : TagGroup → Row
in_head_noscript_end groups.Noscript = done noscript_closed
in_head_noscript_end groups.LineBreak = again noscript_closed
in_head_noscript_end _ = ignored
