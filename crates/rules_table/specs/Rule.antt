-- What takes a mark: the rules of the insertion mode, or those for foreign content (WHATWG HTML, 13.2.6 and 13.2.6.5).
use Rattle.std.specs.Prelude.{[], ◌∷◌, is_some, if◌then◌else◌}
use Rattle.html_lexemes.specs.declared.token.Tag.{Tag}
use Rattle.html_tree_state.specs.Foreign.{named_foreign}
use Rattle.rules_table.specs.Actions.{act, break_out, close_foreign}
use Rattle.rules_table.specs.ForeignContent.{foreign_null, foreign_start, foreign_text, is_by_mode}
use Rattle.rules_table.specs.Rows.{Row, after, done, for_character, ignored, is_white_space}
use Rattle.rules_table.specs.State.{TreeToken, State, character, comment, doctype, end_of_file, finish, null, start}
use Rattle.rules_table.specs.Table.{inserted_comment, row}
use Rattle.tree_predicates.specs.Foreign.{breaks_out}

-- a tag that breaks out: foreign elements are popped, and then the rules of the mode take it
abbrev pub broken_out_row : TreeToken → State → Row
broken_out_row mark s = after (break_out ∷ []) (row s.mode mark (act break_out s))

-- any other end tag: an element of its name is closed, before any element of HTML; else the rules of the mode take it
abbrev pub foreign_end : Tag → State → Row
foreign_end t s = if is_some (named_foreign t.name s.tree.forest s.tree.stack) then done (close_foreign t.name ∷ [])
    else row s.mode (finish t) s

abbrev pub foreign_row : TreeToken → State → Row
foreign_row (character c) s = for_character c (foreign_text (is_white_space c))
foreign_row null s = foreign_null
foreign_row (comment cs) s = inserted_comment cs
foreign_row (doctype d) s = ignored
foreign_row (start t) s = if breaks_out t then broken_out_row (start t) s else foreign_start t s
foreign_row (finish t) s = if breaks_out t then broken_out_row (finish t) s else foreign_end t s
foreign_row end_of_file s = row s.mode end_of_file s

abbrev pub rule : TreeToken → State → Row
rule mark s = if is_by_mode mark s then row s.mode mark s else foreign_row mark s
