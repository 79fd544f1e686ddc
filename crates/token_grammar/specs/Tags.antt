-- Tags and their attributes (WHATWG HTML, 13.2.5.8 and 13.2.5.32 to 13.2.5.40).
use Rattle.std.specs.Prelude.{◌==◌, ◌||◌, if◌then◌else◌, [], ◌∷◌, ◌++◌, Bool, List, None, Option, Some, drop, false}
use Rattle.std.specs.Prelude.{length, not, option_and_then, option_map, suc, zero, ℕ}
use Rattle.std.specs.List.{list_any}
use Rattle.std.specs.Str.{bytes_eq}
use Rattle.lex_base.specs.References.{References}
use Rattle.html_lexemes.specs.declared.names.Attribute.{Attribute}
use Rattle.html_lexemes.specs.declared.names.Namespace.TheVariants.{Other}
use Rattle.html_lexemes.specs.declared.token.Tag.{Tag}
use Rattle.html_lexemes.specs.declared.token.TagKind.{TagKind}
use Rattle.token_grammar.specs.Characters.{is_space, name_of}
use Rattle.token_grammar.specs.References.{value_of}
use Rattle.token_grammar.specs.Slices.{Cut, after, begins, cut, front_while, rest_while}

abbrev pub slash : ℕ
slash = 47

abbrev pub greater : ℕ
greater = 62

abbrev pub equals : ℕ
equals = 61

-- where the name of a tag ends, and where that of an attribute does
abbrev pub ends_tag_name : ℕ → Bool
ends_tag_name c = is_space c || c == slash || c == greater

abbrev pub ends_attribute_name : ℕ → Bool
ends_attribute_name c = ends_tag_name c || c == equals

abbrev pub ends_unquoted : ℕ → Bool
ends_unquoted c = is_space c || c == greater

-- what may stand between attributes
abbrev pub is_gap : ℕ → Bool
is_gap c = is_space c || c == slash

abbrev pub without_spaces : List ℕ → List ℕ
without_spaces cs = rest_while is_space cs

-- the value that stands after `=`, as it is written, and what follows it: none where its quote is not closed
abbrev pub written_value : List ℕ → Option Cut
written_value [] = Some (record { slice = []; rest = [] })
written_value (c ∷ cs) =
    if c == 34 || c == 39
    then cut (after (c ∷ [])) cs
    else Some (record {
      slice = front_while (λ d. not (ends_unquoted d)) (c ∷ cs);
      rest = rest_while (λ d. not (ends_unquoted d)) (c ∷ cs);
    })

-- after an attribute's name, over spaces, an optional `=` and, over spaces, a value
abbrev pub value_after : List ℕ → Option Cut
value_after cs =
    if begins (equals ∷ []) (without_spaces cs)
    then written_value (without_spaces (drop 1 (without_spaces cs)))
    else Some (record { slice = []; rest = cs })

-- an attribute in no namespace
abbrev pub attribute : List ℕ → List ℕ → Attribute
attribute name value = record { name = record { ns = Other []; local = name }; value = value }

-- The attribute that begins with a character, which belongs to its name, also `=`; and what follows it.
abbrev pub attribute_at : References → ℕ → List ℕ → Option (Attribute × List ℕ)
attribute_at table c cs =
    option_map
    (λ value. (
      attribute (name_of (c ∷ front_while (λ d. not (ends_attribute_name d)) cs)) (value_of table value.slice),
      value.rest,
    ))
    (value_after (rest_while (λ d. not (ends_attribute_name d)) cs))

-- what stands after a tag's name: its attributes as they are written, whether `/` stands directly before its `>`, and
-- what follows
pub record TagEnd : Type 0 where
  pub attributes : List Attribute
  pub self_closing : Bool
  pub rest : List ℕ

abbrev pub with_attribute : Attribute → TagEnd → TagEnd
with_attribute a end = record end { attributes = a ∷ end.attributes }

-- the last of the gap's characters is a `/`
abbrev pub ends_with_slash : List ℕ → Bool
ends_with_slash [] = false
ends_with_slash (c ∷ cs) = if length cs == 0 then c == slash else ends_with_slash cs

-- Over a gap, the end of the tag or an attribute: none where the text ends in the tag. The number is more than the
-- text's length.
abbrev pub after_gap : References → Bool → List ℕ → (List ℕ → Option TagEnd) → Option TagEnd
after_gap table closes [] further = None
after_gap table closes (c ∷ cs) further =
    if c == greater
    then Some (record { attributes = []; self_closing = closes; rest = cs })
    else option_and_then (λ read. option_map (with_attribute read.0) (further read.1)) (attribute_at table c cs)

abbrev pub tag_end_from : References → ℕ → List ℕ → Option TagEnd
tag_end_from table zero cs = None
tag_end_from table (suc n) cs =
    after_gap table (ends_with_slash (front_while is_gap cs)) (rest_while is_gap cs) (tag_end_from table n)

abbrev pub tag_end : References → List ℕ → Option TagEnd
tag_end table cs = tag_end_from table (suc (length cs)) cs

-- the attributes without those whose name came before
abbrev pub has_name : List ℕ → List Attribute → Bool
has_name name seen = list_any (λ a. bytes_eq a.name.local name) seen

abbrev pub first_of_each : List Attribute → List Attribute → List Attribute
first_of_each seen [] = seen
first_of_each seen (a ∷ others) = first_of_each (if has_name a.name.local seen then seen else seen ++ a ∷ []) others

-- a tag of a name as it is written
abbrev pub tag_of : TagKind → List ℕ → TagEnd → Tag
tag_of kind name end = record {
  kind = kind;
  name = name_of name;
  self_closing = end.self_closing;
  attrs = first_of_each [] end.attributes;
  had_duplicate_attributes = not (length (first_of_each [] end.attributes) == length end.attributes);
}

-- A tag whose name begins here, and what follows it: none where the text ends in it.
abbrev pub tag_at : References → TagKind → List ℕ → Option (Tag × List ℕ)
tag_at table kind cs =
    option_map (λ end. (tag_of kind (front_while (λ c. not (ends_tag_name c)) cs) end, end.rest))
    (tag_end table (rest_while (λ c. not (ends_tag_name c)) cs))
