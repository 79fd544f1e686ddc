-- What an iterator over the entries after the last marker gives next.
use Rattle.std.specs.Prelude.{◌≡◌, ℕ, List, [], ◌∷◌, Option, None, Some, length, reverse, take}
use Rattle.std.specs.Borrow.{Bor}
use Rattle.html_lexemes.specs.declared.token.Tag.{Tag}
use Rattle.tree_formatting.specs.declared.entry.FormatEntry.{FormatEntry}
use Rattle.tree_formatting.specs.declared.entry.FormatEntry.TheVariants.{Element, Marker}
use Rattle.tree_formatting.specs.declared.iter.ActiveFormattingIter.{ActiveFormattingIter}

-- Of the entries that are left, the latest first: nothing at their end and at a marker, and then for good; else an
-- element with its tag, and with how many stand before it, which are left.
abbrev pub IsNext : {H : Type 0} → List (FormatEntry H) → Option (ℕ × Bor H × Bor Tag) → ℕ → Type 0
IsNext [] given left = (given ≡ None) × (left ≡ 0)
IsNext (Marker ∷ rest) given left = (given ≡ None) × (left ≡ 0)
IsNext (Element handle tag ∷ rest) None left = ⊥
IsNext (Element handle tag ∷ rest) (Some it) left =
    (it.0 ≡ left) × (left ≡ length rest) × (it.1.now ≡ handle) × (it.2.now ≡ tag)

abbrev pub left_in : {H : Type 0} → List (FormatEntry H) → ℕ → List (FormatEntry H)
left_in entries left = reverse (take left entries)

-- of an iterator: all entries of its list, and how many of them it still has before it
abbrev pub all_of : {H : Type 0} → ActiveFormattingIter H → List (FormatEntry H)
all_of it = it.entries.now

abbrev pub left_of : {H : Type 0} → ActiveFormattingIter H → ℕ
left_of it = it.left
