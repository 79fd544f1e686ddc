-- Tags and entries of the worked rows.
use Rattle.std.specs.Prelude.{ℕ, List, [], ◌∷◌, codes, false}
use Rattle.html_lexemes.specs.declared.names.Attribute.{Attribute}
use Rattle.html_lexemes.specs.declared.names.Namespace.TheVariants.{Other}
use Rattle.html_lexemes.specs.declared.token.Tag.{Tag}
use Rattle.html_lexemes.specs.declared.token.TagKind.TheVariants.{StartTag}
use Rattle.tree_formatting.specs.Entries.{Entry, formatted}

abbrev pub attribute : (name value : List ℕ) → Attribute
attribute name value = record { name = record { ns = Other []; local = name }; value = value }

abbrev pub start : List ℕ → List Attribute → Tag
start name attributes = record {
  kind = StartTag;
  name = name;
  self_closing = false;
  attrs = attributes;
  had_duplicate_attributes = false;
}

-- a name alone
abbrev pub bold : Tag
bold = start (codes "b") []

-- two attributes, the same in another order, and one of them with another value
abbrev pub font : Tag
font = start (codes "font") (attribute (codes "color") (codes "red") ∷ attribute (codes "size") (codes "1") ∷ [])

abbrev pub font_reordered : Tag
font_reordered =
    start (codes "font") (attribute (codes "size") (codes "1") ∷ attribute (codes "color") (codes "red") ∷ [])

abbrev pub font_changed : Tag
font_changed =
    start (codes "font") (attribute (codes "color") (codes "red") ∷ attribute (codes "size") (codes "2") ∷ [])

-- an entry of the first
abbrev pub strong : ℕ → Entry
strong n = formatted n bold
