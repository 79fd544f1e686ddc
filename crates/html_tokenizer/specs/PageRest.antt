-- The text of what is left of a page.
use Rattle.std.specs.Prelude.{ℕ, ◌==◌, List, drop, if◌then◌else◌}
use Rattle.html_lexemes.specs.LineEnds.{begins_with_line_feed, lines_ended, without_mark}
use Rattle.html_tokenizer.specs.declared.line_ends.LineEnds.{LineEnds}
use Rattle.html_tokenizer.specs.declared.line_ends.LineEnds.TheVariants.{AtMark, AfterReturn, Within}

-- after a CR, which was given as a LF, a LF is left out
abbrev pub after_return : List ℕ → List ℕ
after_return cs = lines_ended (if begins_with_line_feed cs then drop 1 cs else cs)

abbrev pub page_rest : LineEnds → List ℕ → List ℕ
page_rest AtMark cs = lines_ended (without_mark cs)
page_rest AfterReturn cs = after_return cs
page_rest Within cs = lines_ended cs

-- the text of what follows a character
abbrev pub rest_after : ℕ → List ℕ → List ℕ
rest_after c cs = if c == 13 then after_return cs else lines_ended cs
