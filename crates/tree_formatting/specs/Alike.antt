-- When two tags are the same but for the order of their attributes, as a test (WHATWG HTML, 13.2.4.3).
use Rattle.std.specs.Prelude.{ℕ, ◌≤◌, Bool, false, true, ◌&&◌, List, [], ◌∷◌, bytes_eq, count_by}
use Rattle.html_lexemes.specs.contracts.names.AttributePartialEq.TheImpl as attributes
use Rattle.html_lexemes.specs.Counts.{stand_as_often}
use Rattle.html_lexemes.specs.declared.token.Tag.{Tag}
use Rattle.html_lexemes.specs.declared.token.TagKind.{TagKind}
use Rattle.html_lexemes.specs.declared.token.TagKind.TheVariants.{StartTag, EndTag}
use Rattle.tree_formatting.specs.Entries.{Entry, formatted, marker, up_to_marker}

abbrev pub is_same_kind : TagKind → TagKind → Bool
is_same_kind StartTag StartTag = true
is_same_kind EndTag EndTag = true
is_same_kind StartTag EndTag = false
is_same_kind EndTag StartTag = false

-- one kind, one name, and each attribute as often in both
abbrev pub are_alike : Tag → Tag → Bool
are_alike a b = is_same_kind a.kind b.kind && (bytes_eq a.name b.name
    && (stand_as_often attributes.eq-value.it a.attrs b.attrs && stand_as_often attributes.eq-value.it b.attrs a.attrs))

-- an element was made for such a tag
abbrev pub is_alike : Tag → Entry → Bool
is_alike tag marker = false
is_alike tag (formatted n held) = are_alike held tag

-- how many of some entries
abbrev pub count_alike : Tag → List Entry → ℕ
count_alike tag entries = count_by (is_alike tag) entries

-- Wherever the list is cut, at most three elements that are alike stand after the last marker.
abbrev pub AreFew : List Entry → Type 0
AreFew [] = Unit {0}
AreFew (entry ∷ rest) = ((tag : Tag) → count_alike tag (up_to_marker (entry ∷ rest)) ≤ 3) × AreFew rest
