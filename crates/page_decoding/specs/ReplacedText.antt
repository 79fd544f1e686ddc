-- How bytes read as UTF-8 (Unicode Standard, 3.9: Table 3-7, Table 3-6 and "U+FFFD Substitution of Maximal
-- Subparts"). Numbers are bytes on the one side and code points on the other.
use Rattle.std.specs.Prelude.{◌+◌, ◌-◌, ◌*◌, ◌&&◌, ◌==◌, [], ◌∷◌, if◌then◌else◌, Bool, List, drop, length, map, max}
use Rattle.std.specs.Prelude.{nat_le, suc, take, true, zero, ℕ}
use Rattle.std.specs.List.{list_any}

-- the bytes from one to another, both included
pub record ByteRange : Type 0 where
  pub low : ℕ
  pub high : ℕ

abbrev pub to : ℕ → ℕ → ByteRange
to low high = record { low = low; high = high }

abbrev pub continuation : ByteRange
continuation = to 0x80 0xBF

-- Table 3-7: the well-formed sequences, a row by row. A sequence is well-formed where a row has just as many
-- ranges as it has bytes, and each byte lies in its range.
abbrev pub table : List (List ByteRange)
table =
    (to 0x00 0x7F ∷ [])
    ∷ (to 0xC2 0xDF ∷ continuation ∷ [])
    ∷ (to 0xE0 0xE0 ∷ to 0xA0 0xBF ∷ continuation ∷ [])
    ∷ (to 0xE1 0xEC ∷ continuation ∷ continuation ∷ [])
    ∷ (to 0xED 0xED ∷ to 0x80 0x9F ∷ continuation ∷ [])
    ∷ (to 0xEE 0xEF ∷ continuation ∷ continuation ∷ [])
    ∷ (to 0xF0 0xF0 ∷ to 0x90 0xBF ∷ continuation ∷ continuation ∷ [])
    ∷ (to 0xF1 0xF3 ∷ continuation ∷ continuation ∷ continuation ∷ [])
    ∷ (to 0xF4 0xF4 ∷ to 0x80 0x8F ∷ continuation ∷ continuation ∷ [])
    ∷ []

abbrev pub is_in : ByteRange → ℕ → Bool
is_in range byte = nat_le range.low byte && nat_le byte range.high

-- how many bytes in front lie in the row's ranges, one byte a range
abbrev pub fitting : List ByteRange → List ℕ → ℕ
fitting [] bytes = 0
fitting (range ∷ row) [] = 0
fitting (range ∷ row) (byte ∷ bytes) = if is_in range byte then 1 + fitting row bytes else 0

-- the bytes begin with a well-formed sequence of this row
abbrev pub begins_with_row : List ℕ → List ByteRange → Bool
begins_with_row bytes row = fitting row bytes == length row

-- The length of the first part: the longest beginning of some well-formed sequence, but at least one byte.
abbrev pub greatest : List ℕ → ℕ
greatest [] = 0
greatest (n ∷ ns) = max n (greatest ns)

abbrev pub part_length : List ℕ → ℕ
part_length bytes = max 1 (greatest (map (λ row. fitting row bytes) table))

-- The code point of a well-formed sequence (Table 3-6): the bits that its bytes carry.
abbrev pub code_point : List ℕ → ℕ
code_point (a ∷ []) = a
code_point (a ∷ b ∷ []) = (a - 0xC0) * 64 + (b - 0x80)
code_point (a ∷ b ∷ c ∷ []) = ((a - 0xE0) * 64 + (b - 0x80)) * 64 + (c - 0x80)
code_point (a ∷ b ∷ c ∷ d ∷ []) = (((a - 0xF0) * 64 + (b - 0x80)) * 64 + (c - 0x80)) * 64 + (d - 0x80)
code_point other = 0

-- U+FFFD, the replacement character
abbrev pub replacement : ℕ
replacement = 0xFFFD

-- what the first part stands for: the character that it encodes, or U+FFFD where it is ill-formed
abbrev pub part_character : List ℕ → ℕ
part_character bytes =
    if list_any (begins_with_row bytes) table then code_point (take (part_length bytes) bytes) else replacement

-- The bytes, divided into parts from the front, of which there are at most as many as bytes: the text has one
-- character a part.
unfoldable pub text_of_parts : ℕ → List ℕ → List ℕ
text_of_parts zero bytes = []
text_of_parts (suc most) [] = []
text_of_parts (suc most) (byte ∷ bytes) =
    part_character (byte ∷ bytes) ∷ text_of_parts most (drop (part_length (byte ∷ bytes)) (byte ∷ bytes))

-- The replaced text: each well-formed sequence as its character, each longest ill-formed part (a beginning of
-- some well-formed sequence, else one byte) as one U+FFFD.
unfoldable pub replaced_text : List ℕ → List ℕ
replaced_text bytes = text_of_parts (length bytes) bytes

-- Less than a whole well-formed sequence that more bytes can make whole: nothing, or a beginning of a row's
-- sequences.
abbrev pub is_beginning : List ℕ → List ByteRange → Bool
is_beginning bytes row = (fitting row bytes == length bytes) && nat_le (length bytes + 1) (length row)

abbrev pub is_unfinished : List ℕ → Bool
is_unfinished [] = true
is_unfinished (byte ∷ bytes) = list_any (is_beginning (byte ∷ bytes)) table
