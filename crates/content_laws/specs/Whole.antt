-- Words of the laws of texts that have their columns.
use Rattle.std.specs.Prelude.{◌≢◌, All, Bool, List, false, map, true, ℕ}
use Rattle.text_normal.specs.Layout.{Joint, cuttable, inside, opens, starts}
use Rattle.text_normal.specs.Units.{Letter}

-- the letter stands in a unit that is whole on a line: it is its first, or never starts a line
abbrev pub stands_whole : {S : Type 0} → Joint S → Bool
stands_whole (opens space) = true
stands_whole starts = false
stands_whole inside = true
stands_whole cuttable = false

abbrev pub codes : {S : Type 0} → List (Letter S) → List ℕ
codes letters = map (λ l. l.code) letters

-- no line end is among the characters
abbrev pub IsOneSourceLine : List ℕ → Type 0
IsOneSourceLine cs = All (λ c. c ≢ 0xA) cs
