-- The modes of framesets: "in frameset", "after frameset" and "after after frameset" (WHATWG HTML, 13.2.6.4.18,
-- 13.2.6.4.19 and 13.2.6.4.21).
use Rattle.std.specs.Prelude.{[], ◌∷◌, if◌then◌else◌, Bool, List, codes, false, true, ℕ}
use Rattle.html_lexemes.specs.declared.token.Tag.{Tag}
use Rattle.tree_names.specs.declared.group.TagGroup.{TagGroup}
use Rattle.tree_names.specs.declared.group.TagGroup.TheVariants as groups
use Rattle.tree_names.specs.Wanted.{one}
use Rattle.rules_table.specs.Actions.{at_place, comment_to_document, go_to, insert, insert_void, is_current, is_known}
use Rattle.rules_table.specs.Actions.{pop}
use Rattle.rules_table.specs.HtmlTag.{html_start}
use Rattle.rules_table.specs.InBody.{in_body_text}
use Rattle.rules_table.specs.InHead.{in_head_start}
use Rattle.rules_table.specs.Rows.{Row, TextRow, done, dropped, ignored, said_after, stopped}
use Rattle.rules_table.specs.State.{State}
use Rattle.tree_predicates.specs.declared.modes.InsertionMode.TheVariants.{AfterAfterFrameset, AfterFrameset}

abbrev pub frameset_text : (is_space : Bool) → TextRow
frameset_text true = said_after []
frameset_text false = dropped

abbrev pub in_frameset_start : TagGroup → Tag → State → Row
in_frameset_start groups.Html t s = html_start t s
in_frameset_start groups.Frameset t s = done (insert at_place t ∷ [])
in_frameset_start groups.Frame t s = done (insert_void at_place t ∷ [])
in_frameset_start groups.Noframes t s = in_head_start at_place groups.Noframes t s
in_frameset_start _ t s = ignored

-- the root stays; after the outermost frameset of a page the mode is another
abbrev pub is_frameset : List ℕ → State → Bool
is_frameset ns s = is_current (one (codes "frameset")) s.tree ns

abbrev pub frameset_closed : List ℕ → State → Row
frameset_closed [] s = ignored
frameset_closed (n ∷ []) s = ignored
frameset_closed (n ∷ m ∷ ns) s = if is_known s.context then done (pop ∷ [])
    else if is_frameset (m ∷ ns) s then done (pop ∷ []) else done (pop ∷ go_to AfterFrameset ∷ [])

abbrev pub in_frameset_end : TagGroup → State → Row
in_frameset_end groups.Frameset s = frameset_closed s.tree.stack s
in_frameset_end _ s = ignored

abbrev pub after_frameset_start : TagGroup → Tag → State → Row
after_frameset_start groups.Html t s = html_start t s
after_frameset_start groups.Noframes t s = in_head_start at_place groups.Noframes t s
after_frameset_start _ t s = ignored

abbrev pub after_frameset_end : TagGroup → Row
after_frameset_end groups.Html = done (go_to AfterAfterFrameset ∷ [])
after_frameset_end _ = ignored

abbrev pub after_after_frameset_comment : List ℕ → Row
after_after_frameset_comment cs = done (comment_to_document cs ∷ [])

abbrev pub after_after_frameset_text : (is_space : Bool) → TextRow
after_after_frameset_text true = in_body_text true
after_after_frameset_text false = dropped

abbrev pub frameset_end_of_file : Row
frameset_end_of_file = stopped
