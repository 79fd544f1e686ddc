-- Character references (WHATWG HTML, 13.2.5.72 to 13.2.5.80).
use Rattle.std.specs.Prelude.{◌+◌, ◌*◌, ◌==◌, ◌&&◌, ◌||◌, if◌then◌else◌, [], ◌∷◌, ◌++◌, Bool, List, None, Option, Some}
use Rattle.std.specs.Prelude.{drop, fold, length, nat_lt, not, option_and_then, option_map, suc, zero, ℕ}
use Rattle.std.specs.Option.{option_or}
use Rattle.std.specs.List.{list_any}
use Rattle.std.specs.Char.{digit_value}
use Rattle.std.specs.FinMap as finite
use Rattle.lex_base.specs.References.{References}
use Rattle.token_grammar.specs.Characters.{is_alphanumeric, is_between, is_digit, shown}
use Rattle.token_grammar.specs.Slices.{begins, first_passes, front_while, rest_while}

-- a reference that stands after a `&`: its characters, whether a semicolon ends it, and what follows it
pub record Found : Type 0 where
  pub characters : List ℕ
  pub closed : Bool
  pub rest : List ℕ

abbrev pub semicolon : ℕ
semicolon = 59

-- The longest name of the table that a text begins with, of those that begin with a front already read.
abbrev pub named_here : References → List ℕ → List ℕ → Option Found
named_here table front rest =
    option_map (λ value. record { characters = value; closed = list_any (λ c. c == semicolon) front; rest = rest })
    (finite.get table front)

abbrev pub named_from : References → List ℕ → List ℕ → Option Found
named_from table front [] = named_here table front []
named_from table front (c ∷ cs) = option_or (named_from table (front ++ c ∷ []) cs) (named_here table front (c ∷ cs))

abbrev pub named : References → List ℕ → Option Found
named table cs = named_from table [] cs

-- The characters that the code points 0x80 to 0x9F stand for (WHATWG HTML, 13.2.5.80).
abbrev pub windows_characters : List (ℕ × ℕ)
windows_characters =
    (0x80, 0x20AC) ∷ (0x82, 0x201A) ∷ (0x83, 0x0192) ∷ (0x84, 0x201E) ∷ (0x85, 0x2026) ∷ (0x86, 0x2020) ∷ (0x87, 0x2021)
    ∷ (0x88, 0x02C6) ∷ (0x89, 0x2030) ∷ (0x8A, 0x0160) ∷ (0x8B, 0x2039) ∷ (0x8C, 0x0152) ∷ (0x8E, 0x017D)
    ∷ (0x91, 0x2018)
    ∷ (0x92, 0x2019) ∷ (0x93, 0x201C) ∷ (0x94, 0x201D) ∷ (0x95, 0x2022) ∷ (0x96, 0x2013) ∷ (0x97, 0x2014)
    ∷ (0x98, 0x02DC)
    ∷ (0x99, 0x2122) ∷ (0x9A, 0x0161) ∷ (0x9B, 0x203A) ∷ (0x9C, 0x0153) ∷ (0x9E, 0x017E) ∷ (0x9F, 0x0178) ∷ []

abbrev pub listed : List (ℕ × ℕ) → ℕ → ℕ
listed [] n = n
listed (p ∷ ps) n = if n == p.0 then p.1 else listed ps n

-- The character of a number: U+FFFD for 0, a surrogate and a number above 0x10FFFF.
abbrev pub numbered : ℕ → ℕ
numbered n = if n == 0 || is_between 0xD800 0xDFFF n || nat_lt 0x10FFFF n then 0xFFFD else listed windows_characters n

abbrev pub number_of : ℕ → List ℕ → ℕ
number_of base digits = fold (λ n d. n * base + digit_value d) 0 digits

-- after `#`, or after `#x`: digits, at least one, and an optional semicolon
abbrev pub numeric_of : ℕ → List ℕ → List ℕ → Option Found
numeric_of base digits rest =
    if length digits == 0
    then None
    else Some (record {
      characters = numbered (number_of base digits) ∷ [];
      closed = begins (semicolon ∷ []) rest;
      rest = if begins (semicolon ∷ []) rest then drop 1 rest else rest;
    })

abbrev pub numeric : ℕ → List ℕ → Option Found
numeric base cs = numeric_of base (front_while (is_digit base) cs) (rest_while (is_digit base) cs)

abbrev pub is_x : ℕ → Bool
is_x c = c == 120 || c == 88

abbrev pub after_number_sign : List ℕ → Option Found
after_number_sign cs = if first_passes is_x cs then numeric 16 (drop 1 cs) else numeric 10 cs

-- The reference that stands after a `&`, if there is one: a number after `#`, else the longest name that follows.
abbrev pub reference : References → List ℕ → Option Found
reference table cs = if begins (35 ∷ []) cs then after_number_sign (drop 1 cs) else named table cs

-- In an attribute's value a name without its semicolon, before `=` or a letter or digit, is no reference.
abbrev pub goes_on : ℕ → Bool
goes_on c = c == 61 || is_alphanumeric c

abbrev pub kept_in_value : Found → Option Found
kept_in_value found = if not found.closed && first_passes goes_on found.rest then None else Some found

abbrev pub reference_in_value : References → List ℕ → Option Found
reference_in_value table cs = if begins (35 ∷ []) cs then after_number_sign (drop 1 cs)
    else option_and_then kept_in_value (named table cs)

-- An attribute's value: its references read, and NUL shown. The number is at least the text's length.
abbrev pub value_step : ℕ → List ℕ → Option Found → (List ℕ → List ℕ) → List ℕ
value_step c cs None further = shown c ∷ further cs
value_step c cs (Some found) further = found.characters ++ further found.rest

abbrev pub value_from : References → ℕ → List ℕ → List ℕ
value_from table zero cs = []
value_from table (suc n) [] = []
value_from table (suc n) (c ∷ cs) =
    value_step c cs (if c == 38 then reference_in_value table cs else None) (value_from table n)

abbrev pub value_of : References → List ℕ → List ℕ
value_of table cs = value_from table (length cs) cs
