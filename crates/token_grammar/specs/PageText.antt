-- The text of a page as the grammar reads it.
use Rattle.std.specs.Prelude.{ℕ, Bool, List, if◌then◌else◌}
use Rattle.html_lexemes.specs.LineEnds.{lines_ended, without_mark}

-- without a first U+FEFF, where it is to be dropped, and with each line end as one LF (WHATWG HTML, 13.2.3.5)
abbrev pub page_text : Bool → List ℕ → List ℕ
page_text discard_mark cs = lines_ended (if discard_mark then without_mark cs else cs)
