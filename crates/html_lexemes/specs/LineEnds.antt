-- Line ends and the byte order mark of a page's text, a list of code points.
use Rattle.std.specs.Prelude.{ℕ, Bool, false, ◌==◌, List, [], ◌∷◌, if◌then◌else◌}

-- U+FEFF, the byte order mark
abbrev pub byte_order_mark : ℕ
byte_order_mark = 0xFEFF

-- LF and CR
abbrev pub line_feed : ℕ
line_feed = 10

abbrev pub carriage_return : ℕ
carriage_return = 13

-- The text without a first U+FEFF (WHATWG Encoding, 6, "decode").
abbrev pub without_mark : List ℕ → List ℕ
without_mark [] = []
without_mark (c ∷ cs) = if c == byte_order_mark then cs else c ∷ cs

-- the text begins with a LF
abbrev pub begins_with_line_feed : List ℕ → Bool
begins_with_line_feed [] = false
begins_with_line_feed (c ∷ cs) = c == line_feed

-- Each CR LF, lone CR and lone LF as one LF (WHATWG HTML, 13.2.3.5, "normalize newlines"): a CR before a
-- LF goes, every other CR becomes a LF.
abbrev pub lines_ended : List ℕ → List ℕ
lines_ended [] = []
lines_ended (c ∷ cs) =
    if c == carriage_return
    then (if begins_with_line_feed cs then lines_ended cs else line_feed ∷ lines_ended cs)
    else c ∷ lines_ended cs
