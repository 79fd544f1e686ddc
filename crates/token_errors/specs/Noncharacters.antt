-- Controls and noncharacters (WHATWG Infra, 4.6), NUL and ASCII white space aside.
use Rattle.std.specs.Prelude.{ℕ, Bool, ◌==◌, ◌||◌, nat_le, ◌%◌}
use Rattle.lex_base.specs.References.{is_between}

-- TAB, LF, FF and CR are no such controls
abbrev pub is_control : ℕ → Bool
is_control c = is_between 0x01 0x08 c || c == 0x0B || is_between 0x0E 0x1F c || is_between 0x7F 0x9F c

-- the last two code points of each plane, and U+FDD0 to U+FDEF
abbrev pub is_noncharacter : ℕ → Bool
is_noncharacter c = is_control c || is_between 0xFDD0 0xFDEF c || nat_le 0xFFFE (c % 0x10000)
