-- An element is pushed onto the list of active formatting elements (WHATWG HTML, 13.2.4.3, "push onto the list of
-- active formatting elements").
use Rattle.std.specs.Prelude.{ℕ, ◌==◌, ◌&&◌, List, [], ◌∷◌, if◌then◌else◌}
use Rattle.std.specs.Bool.{nat_lt}
use Rattle.html_lexemes.specs.declared.token.Tag.{Tag}
use Rattle.tree_formatting.specs.Alike.{count_alike, is_alike}
use Rattle.tree_formatting.specs.Entries.{Entry, formatted, marker, up_to_marker}

-- the earliest of the elements after the last marker that are alike is the one after which, in this list, none is
abbrev pub without_earliest : Tag → List Entry → List Entry
without_earliest tag [] = []
without_earliest tag (marker ∷ rest) = marker ∷ rest
without_earliest tag (formatted n held ∷ rest) =
    if is_alike tag (formatted n held) && (count_alike tag (up_to_marker rest) == 0) then rest
    else formatted n held ∷ without_earliest tag rest

-- of three that are alike the earliest goes, and then the new one is appended
abbrev pub pushed : ℕ → Tag → List Entry → List Entry
pushed n tag entries = formatted n tag
    ∷ (if nat_lt 2 (count_alike tag (up_to_marker entries)) then without_earliest tag entries else entries)
