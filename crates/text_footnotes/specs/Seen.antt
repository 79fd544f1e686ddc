-- What contracts see of the targets of links.
use Rattle.std.specs.Prelude.{◌≡◌, if◌then◌else◌, List, None, Some, String, chars, length, string_bytes, string_eq, ℕ}
use Rattle.std.specs.Global.{Global}
use Rattle.std.specs.HashMap.{HashMap, get, hash_map_len}
use Rattle.text_footnotes.specs.Targets.{distinct, has_text, number_among}

-- A map has the number of each of these targets' footnotes, where equal ones share one, and no other.
pub record AreNumbered {S : Type 0} (targets : List (List ℕ)) (numbers : HashMap (String Global) ℕ S) : Type 0 where
  pub how_many : hash_map_len numbers ≡ length (distinct targets)
  pub each : (text : String Global) → get string_eq numbers text
      ≡ (if has_text targets (chars (string_bytes text))
      then Some (number_among (distinct targets) (Some (chars (string_bytes text)))) else None)
