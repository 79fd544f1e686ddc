-- Characters as the grammar of a page distinguishes them (WHATWG Infra, 4.6; WHATWG HTML, 13.2.5).
use Rattle.std.specs.Prelude.{ℕ, Bool, ◌==◌, ◌&&◌, ◌||◌, nat_lt, nat_le, if◌then◌else◌, List, map}
use Rattle.std.specs.Char.{to_ascii_lowercase, digit_value}

abbrev pub is_between : ℕ → ℕ → ℕ → Bool
is_between low high c = nat_le low c && nat_le c high

-- TAB, LF, FF and SPACE: a page text has no CR
abbrev pub is_space : ℕ → Bool
is_space c = c == 9 || c == 10 || c == 12 || c == 32

abbrev pub is_letter : ℕ → Bool
is_letter c = is_between 65 90 c || is_between 97 122 c

abbrev pub is_alphanumeric : ℕ → Bool
is_alphanumeric c = is_between 48 57 c || is_letter c

-- a digit of a number to the base, 10 or 16
abbrev pub is_digit : ℕ → ℕ → Bool
is_digit base c = nat_lt (digit_value c) base

-- NUL is shown as U+FFFD
abbrev pub shown : ℕ → ℕ
shown c = if c == 0 then 0xFFFD else c

abbrev pub shown_text : List ℕ → List ℕ
shown_text cs = map shown cs

-- a name: its ASCII letters in lower case
abbrev pub name_of : List ℕ → List ℕ
name_of cs = map (λ c. to_ascii_lowercase (shown c)) cs
