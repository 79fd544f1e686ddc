-- What follows a tag, by its next character.
use Rattle.std.proofs.Common.{◌≡◌, ◌≢◌, ◌==◌, ◌&&◌, ◌||◌, if◌then◌else◌, [], ◌∷◌, ◌⊎◌, ◌∙◌, Bool, List, None, Option}
use Rattle.std.proofs.Common.{Some, ap, drop, false, inl, inr, not, option_and_then, option_map, refl, sym, true, ℕ}
use Rattle.std.proofs.lemmas.Bool.{ne_eqb}
use Rattle.lex_base.specs.References.{References}
use Rattle.html_lexemes.specs.declared.names.Attribute.{Attribute}
use Rattle.html_lexemes.specs.declared.states.AttrValueKind.{AttrValueKind}
use Rattle.html_lexemes.specs.declared.states.AttrValueKind.TheVariants.{Unquoted}
use Rattle.token_grammar.specs.Characters.{is_space, name_of}
use Rattle.token_grammar.specs.References.{value_of}
use Rattle.token_grammar.specs.Slices.{Cut, begins, front_while, rest_while}
use Rattle.token_grammar.specs.Tags.{TagEnd, after_gap, attribute, attribute_at, ends_attribute_name, ends_tag_name}
use Rattle.token_grammar.specs.Tags.{ends_unquoted, ends_with_slash, equals, greater, is_gap, slash, tag_end}
use Rattle.token_grammar.specs.Tags.{value_after, with_attribute, without_spaces, written_value}
use Rattle.token_grammar.proofs.SliceLemmas.{rest_on, rest_off}
use Rattle.token_grammar.proofs.TagLemmas.{tag_end-step}
use Rattle.token_states.specs.TagPlaces.{rest_after_value, rest_in, tag_rest}
use Rattle.token_states.specs.declared.place.TagPlace.{TagPlace}
use Rattle.token_states.specs.declared.place.TagPlace.TheVariants.{AfterAttributeName, AttributeName, AttributeValue}
use Rattle.token_states.specs.declared.place.TagPlace.TheVariants.{BeforeAttributeName, TagName}

abbrev rest_of : Option TagEnd → Option (List ℕ)
rest_of end = option_map (λ (e : TagEnd). e.rest) end

-- ---- classes

pub slash_is_gap : (c : ℕ) → c ≡ 47 → is_gap c ≡ true
slash_is_gap c e = ap is_gap e

pub space_is_gap : (c : ℕ) → is_space c ≡ true → is_gap c ≡ true
space_is_gap c e = ap (λ b. b || c == slash) e

gap_ends_name : (a b d : Bool) → (a || b) ≡ true → not (a || b || d) ≡ false
gap_ends_name true b d e = refl
gap_ends_name false true d e = refl
gap_ends_name false false d e = absurd cc

gap_ends_attribute_name : (a b d f : Bool) → (a || b) ≡ true → not ((a || b || d) || f) ≡ false
gap_ends_attribute_name true b d f e = refl
gap_ends_attribute_name false true d f e = refl
gap_ends_attribute_name false false d f e = absurd cc

-- a character that begins an attribute
pub record IsFirst (c : ℕ) : Type 0 where
  pub no_space : is_space c ≡ false
  pub no_slash : c ≢ 47
  pub no_greater : c ≢ 62

first_is_no_gap : (c : ℕ) → IsFirst c → is_gap c ≡ false
first_is_no_gap c h = ap (λ b. b || c == slash) h.no_space ∙ ne_eqb c 47 h.no_slash

-- ---- after a tag's name or a value

closes_aside : (table : References) (a b : Bool) (cs : List ℕ) (further : List ℕ → Option TagEnd) →
    rest_of (after_gap table a cs further) ≡ rest_of (after_gap table b cs further)
closes_aside table a b [] further = refl
closes_aside table a b (c ∷ cs) further = either (c == greater)
    (option_and_then (λ read. option_map (with_attribute read.0) (further read.1)) (attribute_at table c cs)) where
      either : (t : Bool) (o : Option TagEnd)
          → rest_of (if t then Some (record { attributes = []; self_closing = a; rest = cs })
          else o) ≡ rest_of (if t then Some (record { attributes = []; self_closing = b; rest = cs }) else o)
      either true o = refl
      either false o = refl

pub past_gap : (table : References) (c : ℕ) (cs : List ℕ) → is_gap c ≡ true → tag_rest table (c ∷ cs)
    ≡ tag_rest table cs
past_gap table c cs gap =
    let closes : Bool = ends_with_slash (front_while is_gap (c ∷ cs)) in
    ap rest_of (tag_end-step table (c ∷ cs))
    ∙ ap (λ r. rest_of (after_gap table closes r (tag_end table))) (rest_on is_gap c cs gap)
    ∙ closes_aside table closes (ends_with_slash (front_while is_gap cs)) (rest_while is_gap cs) (tag_end table)
    ∙ ap rest_of (sym (tag_end-step table cs))

attribute_aside : (a : Attribute) (o : Option TagEnd) → rest_of (option_map (with_attribute a) o) ≡ rest_of o
attribute_aside a None = refl
attribute_aside a (Some end) = refl

after_attribute : (table : References) (make : Cut → Attribute) (o : Option Cut)
    → rest_of
    (option_and_then (λ (read : Attribute × List ℕ). option_map (with_attribute read.0) (tag_end table read.1))
    (option_map (λ (k : Cut). (make k, k.rest)) o)) ≡ rest_after_value table o
after_attribute table make None = refl
after_attribute table make (Some k) = attribute_aside (make k) (tag_end table k.rest)

pub in_attribute : (table : References) (c : ℕ) (cs : List ℕ) → IsFirst c → tag_rest table (c ∷ cs)
    ≡ rest_in table AttributeName cs
in_attribute table c cs first =
    let p : ℕ → Bool = λ d. not (ends_attribute_name d) in
    let closes : Bool = ends_with_slash (front_while is_gap (c ∷ cs)) in
    let more : Option TagEnd =
    option_and_then (λ read. option_map (with_attribute read.0) (tag_end table read.1))
    (attribute_at table c cs) in
    ap rest_of (tag_end-step table (c ∷ cs))
    ∙ ap (λ r. rest_of (after_gap table closes r (tag_end table))) (rest_off is_gap c cs (first_is_no_gap c first))
    ∙ ap (λ t. rest_of (if t then Some (record { attributes = []; self_closing = closes; rest = cs })
    else more)) (ne_eqb c 62 first.no_greater)
    ∙ after_attribute table (λ k. attribute (name_of (c ∷ front_while p cs)) (value_of table k.slice))
    (value_after (rest_while p cs))

-- ---- after an attribute's name

-- the value after a name, by what follows the spaces there, and all that stands there
abbrev value_over : List ℕ → List ℕ → Option Cut
value_over spaced cs = if begins (equals ∷ []) spaced then written_value (without_spaces (drop 1 spaced))
    else Some (record { slice = []; rest = cs })

space_aside : (table : References) (b : Bool) (c : ℕ) (cs : List ℕ) (value : Option Cut) → is_gap c ≡ true
    → rest_after_value table (if b then value else Some (record { slice = []; rest = c ∷ cs }))
    ≡ rest_after_value table (if b then value else Some (record { slice = []; rest = cs }))
space_aside table true c cs value gap = refl
space_aside table false c cs value gap = past_gap table c cs gap

value_on_space : (table : References) (c : ℕ) (cs : List ℕ) → is_space c ≡ true →
    rest_in table AfterAttributeName (c ∷ cs) ≡ rest_in table AfterAttributeName cs
value_on_space table c cs space =
    let spaced = without_spaces cs in
    ap (λ s. rest_after_value table (value_over s (c ∷ cs))) (rest_on is_space c cs space)
    ∙ space_aside table (begins (equals ∷ []) spaced) c cs (written_value (without_spaces (drop 1 spaced)))
    (space_is_gap c space)

no_value : (table : References) (c : ℕ) (cs : List ℕ) → IsFirst c → c ≢ 61 → rest_in table AfterAttributeName (c ∷ cs)
    ≡ tag_rest table (c ∷ cs)
no_value table c cs first other =
    ap (λ s. rest_after_value table (value_over s (c ∷ cs))) (rest_off is_space c cs first.no_space)
    ∙ ap (λ b. rest_after_value table (if b && true then written_value (without_spaces cs)
    else Some (record { slice = []; rest = c ∷ cs }))) (ne_eqb c 61 other)

pub value_ends : (kind : AttrValueKind) (c : ℕ) → kind ≡ Unquoted → is_space c ≡ true →
    (table : References) (cs : List ℕ) → rest_in table (AttributeValue kind) (c ∷ cs) ≡ tag_rest table cs
value_ends kind c at space table cs =
    ap (λ k. rest_in table (AttributeValue k) (c ∷ cs)) at
    ∙ ap (tag_rest table) (rest_off (λ d. not (ends_unquoted d)) c cs (ap (λ b. not (b || c == greater)) space))
    ∙ past_gap table c cs (space_is_gap c space)

-- ---- the other places

module _ (place : TagPlace) (c : ℕ) where
  pub name_ends : place ≡ TagName → is_gap c ≡ true → (table : References) (cs : List ℕ) →
      rest_in table place (c ∷ cs) ≡ tag_rest table cs
  name_ends at gap table cs =
      ap (λ p. rest_in table p (c ∷ cs)) at
      ∙ ap (tag_rest table)
      (rest_off (λ d. not (ends_tag_name d)) c cs (gap_ends_name (is_space c) (c == slash) (c == greater) gap))
      ∙ past_gap table c cs gap

  pub gap_goes_on : place ≡ BeforeAttributeName → is_gap c ≡ true → (table : References) (cs : List ℕ) →
      rest_in table place (c ∷ cs) ≡ tag_rest table cs
  gap_goes_on at gap table cs = ap (λ p. rest_in table p (c ∷ cs)) at ∙ past_gap table c cs gap

  pub attribute_begins : place ≡ BeforeAttributeName → IsFirst c → (table : References) (cs : List ℕ) →
      rest_in table place (c ∷ cs) ≡ rest_in table AttributeName cs
  attribute_begins at first table cs = ap (λ p. rest_in table p (c ∷ cs)) at ∙ in_attribute table c cs first

  -- in an attribute's name or after it
  after_name : place ≡ AttributeName ⊎ place ≡ AfterAttributeName → is_gap c ≡ true →
      (table : References) (cs : List ℕ) → rest_in table place (c ∷ cs) ≡ rest_in table AfterAttributeName (c ∷ cs)
  after_name (inl at) gap table cs =
      ap (λ p. rest_in table p (c ∷ cs)) at
      ∙ ap (rest_in table AfterAttributeName) (rest_off (λ d. not (ends_attribute_name d)) c cs
      (gap_ends_attribute_name (is_space c) (c == slash) (c == greater) (c == equals) gap))
  after_name (inr at) gap table cs = ap (λ p. rest_in table p (c ∷ cs)) at

  pub name_slashed : place ≡ AttributeName ⊎ place ≡ AfterAttributeName → c ≡ 47 → (table : References) (cs : List ℕ) →
      rest_in table place (c ∷ cs) ≡ tag_rest table cs
  name_slashed at slashed table cs =
      after_name at (slash_is_gap c slashed) table cs ∙ ap (λ d. rest_in table AfterAttributeName (d ∷ cs)) slashed ∙
      past_gap table 47 cs refl

  pub name_spaced : place ≡ AttributeName ⊎ place ≡ AfterAttributeName → is_space c ≡ true →
      (table : References) (cs : List ℕ) → rest_in table place (c ∷ cs) ≡ rest_in table AfterAttributeName cs
  name_spaced at space table cs = after_name at (space_is_gap c space) table cs ∙ value_on_space table c cs space

  pub name_goes_on : place ≡ AttributeName ⊎ place ≡ AfterAttributeName → IsFirst c → c ≢ 61 →
      (table : References) (cs : List ℕ) → rest_in table place (c ∷ cs) ≡ rest_in table AttributeName cs
  name_goes_on (inl at) first other table cs =
      let goes_on : not (ends_attribute_name c) ≡ true =
      ap (λ b. not ((b || c == greater) || c == equals)) (first_is_no_gap c first)
      ∙ ap (λ b. not (b || c == equals)) (ne_eqb c 62 first.no_greater) ∙ ap not (ne_eqb c 61 other) in
      ap (λ p. rest_in table p (c ∷ cs)) at ∙ ap (λ r. rest_after_value table (value_after r))
      (rest_on (λ d. not (ends_attribute_name d)) c cs goes_on)
  name_goes_on (inr at) first other table cs =
      ap (λ p. rest_in table p (c ∷ cs)) at ∙ no_value table c cs first other ∙ in_attribute table c cs first
