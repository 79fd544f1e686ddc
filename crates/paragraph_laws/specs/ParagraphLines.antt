-- The lines of paragraphs at a width. A line is its characters with their annotations, and its markers: those of
-- paragraphs have neither annotations nor markers.
use Rattle.std.specs.Prelude.{◌≡◌, ℕ, Bool, false, List, [], ◌∷◌, ◌++◌, if◌then◌else◌}
use Rattle.std.specs.List.{list_any}
use Rattle.text_normal.specs.Layout.{AreLinesOf, HasNoLayout, marks}
use Rattle.text_normal.specs.Units.{lettered}
use Rattle.text_lines.specs.Tagged.{Item, characters}
use Rattle.text_pieces.specs.Sources.{is_filled}

-- what is seen of the tags of plain text: no annotation
abbrev pub Plain : Type 0
Plain = List (Unit {0})

-- a line of plain text: its characters, each with its annotations, and its markers
abbrev pub PlainItems : Type 0
PlainItems = List (Item Plain)

-- The lines of a paragraph's text: those of its fullest layout, in normal white space mode, each character without an
-- annotation.
abbrev pub AreParagraphLines : ℕ → List ℕ → List PlainItems → Type 0
AreParagraphLines width text own = AreLinesOf width false (lettered text []) own

-- no line of the width, or of a lesser one, can hold some character of the text
abbrev pub IsWiderText : ℕ → List ℕ → Type 0
IsWiderText width text = HasNoLayout width false (marks {S = Plain} width (lettered text []))

-- Some line has content: it holds a character, also one of no column.
abbrev pub has_content : {S : Type 0} → List (List (Item S)) → Bool
has_content lines = list_any (λ line. is_filled (characters line)) lines

-- what stands before a block: an empty line where some line so far has content
abbrev pub block_start : {S : Type 0} → List (List (Item S)) → List (List (Item S))
block_start before = if has_content before then [] ∷ [] else []

-- The lines of paragraphs with these texts, after the lines before them.
abbrev pub AreLinesAfter : ℕ → List PlainItems → List (List ℕ) → List PlainItems → Type 0
AreLinesAfter width before [] lines = lines ≡ before
AreLinesAfter width before (text ∷ texts) lines =
    (own : List PlainItems) × AreParagraphLines width text own
    × AreLinesAfter width (before ++ (block_start before ++ own)) texts lines
