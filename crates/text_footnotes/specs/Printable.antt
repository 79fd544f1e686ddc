-- Targets that a terminal shows and doesn't obey.
use Rattle.std.specs.Prelude.{ℕ, ◌==◌, ◌||◌, Bool, List, [], ◌∷◌, encode_utf8, flat_map, if◌then◌else◌, map}
use Rattle.std.specs.Char.{is_control}
use Rattle.std.specs.Int.{is_in_range}
use Rattle.percent_encoding.specs.Percent.{percent_encode_byte}

-- a control of C0 or C1, a line or paragraph separator (Unicode, 23.1 and 23.2), or a mark, embedding, override or
-- isolate of the direction of text (UAX #9, 2)
abbrev pub is_unprintable : ℕ → Bool
is_unprintable c = (is_control c || is_in_range 0x2028 0x202E c)
    || (c == 0x61C || is_in_range 0x200E 0x200F c || is_in_range 0x2066 0x2069 c)

-- such a character stands as the bytes of its UTF-8, each as `%` and two upper-case hexadecimal digits (URL Standard,
-- 1.3)
abbrev pub printable_character : ℕ → List ℕ
printable_character c = if is_unprintable c then flat_map percent_encode_byte (encode_utf8 c) else c ∷ []

abbrev pub printable : List ℕ → List ℕ
printable target = flat_map printable_character target

-- targets as they are asked for after the page
abbrev pub shown_targets : (prints : Bool) → List (List ℕ) → List (List ℕ)
shown_targets prints targets = if prints then map printable targets else targets
