-- How many columns a text takes on one line.
use Rattle.std.specs.Prelude.{ℕ, ◌+◌, Bool, true, false, if◌then◌else◌, List, [], ◌∷◌}
use Rattle.std.specs.Char.{is_whitespace}
use Rattle.std.specs.List.{list_all}
use Rattle.text_lines.specs.Columns.{width_of}

abbrev pub gap_columns : Bool → ℕ
gap_columns true = 1
gap_columns false = 0

-- what a character adds after white space, or after none: white space is one column before the next character
abbrev pub added : (gap is_space : Bool) → ℕ → ℕ
added gap true c = 0
added gap false c = gap_columns gap + width_of c

abbrev pub size_after : (gap : Bool) → List ℕ → ℕ
size_after gap [] = 0
size_after gap (c ∷ cs) = added gap (is_whitespace c) c + size_after (is_whitespace c) cs

-- white space alone is one column
abbrev pub text_size : List ℕ → ℕ
text_size [] = 0
text_size (c ∷ cs) = if list_all is_whitespace (c ∷ cs) then 1 else size_after false (c ∷ cs)
