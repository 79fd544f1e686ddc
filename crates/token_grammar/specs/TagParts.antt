-- What the reader of tags promises of its parts.
use Rattle.std.specs.Prelude.{◌+◌, ◌==◌, ◌||◌, if◌then◌else◌, [], ◌∷◌, ◌++◌, ◌≡◌, Bool, List, chars, drop, length, not}
use Rattle.std.specs.Prelude.{ℕ}
use Rattle.std.specs.List.{list_any}
use Rattle.std.specs.Str.{bytes_eq}
use Rattle.std.specs.BTreeSet.{BTreeSet, contains}
use Rattle.std.specs.Cmp.Lexicographic.{slice_cmp}
use Rattle.std.specs.Ordering.{nat_cmp}
use Rattle.html_lexemes.specs.declared.names.LocalName.{LocalName}
use denote.Ref.{Bor}
use Rattle.html_lexemes.specs.declared.names.Attribute.{Attribute}
use Rattle.html_lexemes.specs.declared.token.Tag.{Tag}
use Rattle.html_lexemes.specs.declared.token.TagKind.{TagKind}
use Rattle.token_grammar.specs.declared.tags.TheConstants.{SEARCHED}
use Rattle.token_grammar.specs.Tags.{TagEnd, first_of_each}

abbrev pub attribute_and_rest : Attribute × Bor (List ℕ) → Attribute × List ℕ
attribute_and_rest p = (p.0, chars p.1.now)

-- one of the attributes has that name
abbrev pub is_named : List ℕ → List Attribute → Bool
is_named name attributes = list_any (λ a. bytes_eq a.name.local name) attributes

-- the attributes, and after them another, unless its name came before
abbrev pub with_new : List Attribute → Attribute → List Attribute
with_new attributes a = if is_named a.name.local attributes then attributes else attributes ++ a ∷ []

-- A set has the names of the attributes after the first few.
abbrev pub HasLaterNames : BTreeSet LocalName → List Attribute → Type 0
HasLaterNames later attributes = (name : List ℕ) → contains (slice_cmp nat_cmp) later name
    ≡ is_named name (drop SEARCHED attributes)

-- A tag and what follows it, from what stands after its name and its first attributes: of these some were kept, and
-- whether another was dropped is known.
abbrev pub tag_from : TagKind → List ℕ → List Attribute → Bool → TagEnd → Tag × List ℕ
tag_from kind name kept dropped end = (
  record {
    kind = kind;
    name = name;
    self_closing = end.self_closing;
    attrs = first_of_each kept end.attributes;
    had_duplicate_attributes =
        dropped || not (length (first_of_each kept end.attributes) == length kept + length end.attributes);
  },
  end.rest,
)
