-- What follows a tag, from a place in it on.
use Rattle.std.specs.Prelude.{◌≡◌, ℕ, not, List, [], ◌∷◌, ◌++◌, Option, option_map, option_and_then}
use Rattle.lex_base.specs.References.{References}
use Rattle.html_lexemes.specs.declared.states.AttrValueKind.TheVariants.{Unquoted, SingleQuoted, DoubleQuoted}
use Rattle.html_lexemes.specs.declared.token.TagKind.{TagKind}
use Rattle.token_grammar.specs.Slices.{Cut, after, cut, rest_while}
use Rattle.token_grammar.specs.Tags.{ends_attribute_name, ends_tag_name, ends_unquoted, tag_at, tag_end, value_after}
use Rattle.token_grammar.specs.Tags.{without_spaces, written_value}
use Rattle.token_states.specs.declared.place.TagPlace.{TagPlace}
use Rattle.token_states.specs.declared.place.TagPlace.TheVariants.{AfterAttributeName, AttributeName, AttributeValue}
use Rattle.token_states.specs.declared.place.TagPlace.TheVariants.{BeforeAttributeName, BeforeAttributeValue, TagName}

-- what follows the `>` of a tag, from after its name on: none where the text ends in the tag
abbrev pub tag_rest : References → List ℕ → Option (List ℕ)
tag_rest table cs = option_map (λ end. end.rest) (tag_end table cs)

abbrev pub rest_after_value : References → Option Cut → Option (List ℕ)
rest_after_value table value = option_and_then (λ v. tag_rest table v.rest) value

-- the same from a place on
abbrev pub rest_in : References → TagPlace → List ℕ → Option (List ℕ)
rest_in table TagName cs = tag_rest table (rest_while (λ c. not (ends_tag_name c)) cs)
rest_in table BeforeAttributeName cs = tag_rest table cs
rest_in table AttributeName cs =
    rest_after_value table (value_after (rest_while (λ c. not (ends_attribute_name c)) cs))
rest_in table AfterAttributeName cs = rest_after_value table (value_after cs)
rest_in table BeforeAttributeValue cs = rest_after_value table (written_value (without_spaces cs))
rest_in table (AttributeValue Unquoted) cs = tag_rest table (rest_while (λ c. not (ends_unquoted c)) cs)
rest_in table (AttributeValue SingleQuoted) cs = rest_after_value table (cut (after (39 ∷ [])) cs)
rest_in table (AttributeValue DoubleQuoted) cs = rest_after_value table (cut (after (34 ∷ [])) cs)

-- the held part of a tag has come to a place: what follows the tag is what follows from there
abbrev pub IsInTag : TagKind → TagPlace → List ℕ → Type 0
IsInTag kind place held = (table : References) (rest : List ℕ) →
    option_map (λ read. read.1) (tag_at table kind (held ++ rest)) ≡ rest_in table place rest
