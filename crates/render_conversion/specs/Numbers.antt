-- Numbers in attributes, as std's `parse` reads them.
use Rattle.std.specs.Prelude.{◌-◌, ◌^◌, ◌&&◌, ◌==◌, if◌then◌else◌, [], ◌∷◌, List, None, Option, Some, neg_ℤ, pos}
use Rattle.std.specs.Prelude.{unwrap_or, ℕ, ℤ}
use Rattle.std.specs.Bool.{nat_le}
use Rattle.std.specs.Str.{all_ascii_digits}
use Rattle.std.specs.Str.Parse.{digits_value}

-- the number that decimal digits write, at least one of them, where it is no greater than `most`
abbrev pub read_digits : (most : ℕ) → List ℕ → Option ℕ
read_digits most [] = None
read_digits most (c ∷ cs) =
    if all_ascii_digits (c ∷ cs) && nat_le (digits_value 10 (c ∷ cs)) most then Some (digits_value 10 (c ∷ cs))
    else None

-- an unsigned number of 64 bits; a plus may stand first
abbrev pub unsigned_of : List ℕ → Option ℕ
unsigned_of [] = None
unsigned_of (c ∷ cs) = if c == 0x2B then read_digits (2 ^ 64 - 1) cs else read_digits (2 ^ 64 - 1) (c ∷ cs)

abbrev pub positive : Option ℕ → Option ℤ
positive None = None
positive (Some n) = Some (pos n)

abbrev pub negative : Option ℕ → Option ℤ
negative None = None
negative (Some n) = Some (neg_ℤ (pos n))

-- a signed number of 64 bits; a plus or a minus may stand first
abbrev pub signed_of : List ℕ → Option ℤ
signed_of [] = None
signed_of (c ∷ cs) =
    if c == 0x2D then negative (read_digits (2 ^ 63) cs)
    else if c == 0x2B then positive (read_digits (2 ^ 63 - 1) cs)
    else positive (read_digits (2 ^ 63 - 1) (c ∷ cs))

-- the first number of an ordered list, by its `start`: 1 where that is no number
abbrev pub start_of : Option (List ℕ) → ℤ
start_of None = pos 1
start_of (Some cs) = unwrap_or (signed_of cs) (pos 1)

-- how many columns or rows a cell spans, by its `colspan` or `rowspan`: 1 where that is no number, or 0
abbrev pub at_least_one : Option ℕ → ℕ
at_least_one None = 1
at_least_one (Some n) = if n == 0 then 1 else n

abbrev pub span_of : Option (List ℕ) → ℕ
span_of None = 1
span_of (Some cs) = at_least_one (unsigned_of cs)
