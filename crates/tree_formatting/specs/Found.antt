-- Where entries stand in memory.
use Rattle.std.specs.Prelude.{◌≡◌, ℕ, ◌<◌, false, true, List, [], ◌∷◌, ◌++◌, length}
use Rattle.std.specs.Bool.{nat_lt}
use Rattle.std.specs.List.{remove}
use Rattle.html_lexemes.specs.declared.token.Tag.{Tag}
use Rattle.tree_formatting.specs.Alike.{count_alike}
use Rattle.tree_formatting.specs.Entries.{entries_of, is_listed, up_to_marker}
use Rattle.tree_formatting.specs.Pushing.{without_earliest}
use Rattle.tree_formatting.specs.declared.entry.FormatEntry.{FormatEntry}
use Rattle.tree_formatting.specs.declared.entry.FormatEntry.TheVariants.{Element}

-- The latest entry of an element has so many entries before it.
pub record StandsAt {H : Type 0} (number : H → ℕ) (n : ℕ) (entries : List (FormatEntry H)) (k : ℕ) : Type 0 where
  pub front : List (FormatEntry H)
  pub held : H
  pub tag : Tag
  pub back : List (FormatEntry H)
  pub split : entries ≡ front ++ Element held tag ∷ back
  pub counted : length front ≡ k
  pub found : number held ≡ n
  pub last : is_listed n (entries_of number back) ≡ false

-- Nothing stands after the last marker.
abbrev pub IsAtMarker : {H : Type 0} → List (FormatEntry H) → Type 0
IsAtMarker {H} entries = (number : H → ℕ) → up_to_marker (entries_of number entries) ≡ []

-- After the last marker three or more are alike, and the earliest of them has so many entries before it.
pub record IsEarliest {H : Type 0} (tag : Tag) (entries : List (FormatEntry H)) (k : ℕ) : Type 0 where
  pub within : k < length entries
  pub many : (number : H → ℕ) → nat_lt 2 (count_alike tag (up_to_marker (entries_of number entries))) ≡ true
  pub goes : (number : H → ℕ) →
      entries_of number (remove entries k) ≡ without_earliest tag (entries_of number entries)

-- After the last marker at most two are alike.
abbrev pub HasRoom : {H : Type 0} → Tag → List (FormatEntry H) → Type 0
HasRoom {H} tag entries = (number : H → ℕ) →
    nat_lt 2 (count_alike tag (up_to_marker (entries_of number entries))) ≡ false
