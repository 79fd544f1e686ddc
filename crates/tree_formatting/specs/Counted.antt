-- How many entries have each print, or more.
use Rattle.std.specs.Prelude.{ℕ, ◌≤◌, ◌==◌, List, [], ◌∷◌, count_by, nat_eq}
use Rattle.std.specs.HashMap.{get, HashMap}
use Rattle.std.specs.Option.{unwrap_or}
use Rattle.html_lexemes.specs.declared.token.Tag.{Tag}
use Rattle.tree_formatting.specs.Prints.{name_print, tag_print}
use Rattle.tree_formatting.specs.declared.counted.TagCounts.{TagCounts}
use Rattle.tree_formatting.specs.declared.entry.FormatEntry.{FormatEntry}
use Rattle.tree_formatting.specs.declared.entry.FormatEntry.TheVariants.{Element, Marker}

abbrev pub count_of : {S : Type 0} → HashMap ℕ ℕ S → ℕ → ℕ
count_of counts print = unwrap_or (get nat_eq counts print) 0

-- of each print there are at most so many tags as are counted
abbrev pub Covers : (Tag → ℕ) → List Tag → (ℕ → ℕ) → Type 0
Covers print_of tags counts = (print : ℕ) → count_by (λ tag. print_of tag == print) tags ≤ counts print

pub record IsCounted (held : List Tag) (counts : TagCounts) : Type 0 where
  pub names : Covers (λ tag. name_print tag.name) held (count_of counts.names)
  pub tags : Covers tag_print held (count_of counts.tags)

-- the tags of entries
abbrev pub tags_of : {H : Type 0} → List (FormatEntry H) → List Tag
tags_of [] = []
tags_of (Marker ∷ rest) = tags_of rest
tags_of (Element handle tag ∷ rest) = tag ∷ tags_of rest
