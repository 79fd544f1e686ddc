-- What the attributes of a tag, its values and its slice are, said without the order in which they are read.
use Rattle.std.specs.Prelude.{◌≡◌, ℕ, Bool, true, false, ◌==◌, ◌||◌, not, List, [], ◌∷◌, ◌++◌, None, Some}
use Rattle.std.specs.List.{AllPass}
use Rattle.lex_base.specs.References.{References}
use Rattle.html_lexemes.specs.declared.names.Attribute.{Attribute}
use Rattle.html_lexemes.specs.declared.token.Tag.{Tag}
use Rattle.html_lexemes.specs.declared.token.TagKind.{TagKind}
use Rattle.token_grammar.specs.Characters.{is_space, name_of, shown}
use Rattle.token_grammar.specs.Doctypes.{is_quote}
use Rattle.token_grammar.specs.References.{reference_in_value}
use Rattle.token_grammar.specs.Slices.{begins, first_passes}
use Rattle.token_grammar.specs.Tags.{attribute, ends_attribute_name, ends_tag_name, ends_unquoted, ends_with_slash}
use Rattle.token_grammar.specs.Tags.{equals, greater, has_name, is_gap, tag_of, without_spaces}

-- some of the members of a list, in its order
pub data IsPartOf {T : Type 0} : List T → List T → Type 0 where
  none_is : IsPartOf [] []
  stays : (x : T) (part whole : List T) → IsPartOf part whole → IsPartOf (x ∷ part) (x ∷ whole)
  goes : (x : T) (part whole : List T) → IsPartOf part whole → IsPartOf part (x ∷ whole)

-- it stands in a list where no earlier one has its name, and after some others
pub record IsFirstOfName (a : Attribute) (others written : List Attribute) : Type 0 where
  pub front : List Attribute
  pub back : List Attribute
  pub stands : written ≡ front ++ a ∷ back
  pub none_earlier : has_name a.name.local front ≡ false
  pub trailing : IsPartOf others front

-- Of attributes with one name the first stays (WHATWG HTML, 13.2.5.33), in the order of the tag.
pub record AreFirstOfEach (written kept : List Attribute) : Type 0 where
  pub in_order : IsPartOf kept written
  pub once : (front back : List Attribute) (a : Attribute) →
      kept ≡ front ++ a ∷ back → has_name a.name.local front ≡ false
  pub first : (front back : List Attribute) (a : Attribute) →
      kept ≡ front ++ a ∷ back → IsFirstOfName a front written
  pub none_lost : (name : List ℕ) → has_name name kept ≡ has_name name written

-- An attribute's value: characters and references in turn (WHATWG HTML, 13.2.5.36 to 13.2.5.38, 13.2.5.72). A `&` that
-- begins no reference is a character.
pub data IsValue (table : References) : List ℕ → List ℕ → Type 0 where
  ends : IsValue table [] []
  character : (c : ℕ) (cs value : List ℕ) → (c ≡ 38 → reference_in_value table cs ≡ None) → IsValue table cs value →
      IsValue table (c ∷ cs) (shown c ∷ value)
  -- the reference's characters, and what its rest gives
  refers : (cs characters rest value : List ℕ) (closed : Bool) →
      reference_in_value table cs ≡ Some (record { characters = characters; closed = closed; rest = rest }) →
      IsValue table rest value → IsValue table (38 ∷ cs) (characters ++ value)

-- A slice whose characters pass, as far as they do: after it stands one that does not, or the end.
pub record IsRun (p : ℕ → Bool) (slice trailing : List ℕ) : Type 0 where
  pub pass : AllPass p slice
  pub stops : first_passes p trailing ≡ false

-- What an attribute has after its name: a slice, the value as it is written there, and what follows
-- (WHATWG HTML, 13.2.5.34 to 13.2.5.39).
pub data IsValueSlice : List ℕ → List ℕ → List ℕ → Type 0 where
  -- nothing, where no `=` stands there, over spaces
  missing : (trailing : List ℕ) → begins (equals ∷ []) (without_spaces trailing) ≡ false → IsValueSlice [] [] trailing
  -- `=` between spaces, and characters up to a space or `>`, of which the first is no quote
  unquoted : (before after value trailing slice : List ℕ) → slice ≡ before ++ equals ∷ after ++ value →
      AllPass is_space before → IsRun is_space after (value ++ trailing) →
      first_passes is_quote value ≡ false → IsRun (λ c. not (ends_unquoted c)) value trailing →
      IsValueSlice slice value trailing
  -- `=` between spaces, and between two quotes of one kind characters that are none
  quoted : (quote : ℕ) (before after value trailing slice : List ℕ) →
      slice ≡ before ++ equals ∷ after ++ quote ∷ value ++ quote ∷ [] →
      AllPass is_space before → AllPass is_space after → is_quote quote ≡ true →
      AllPass (λ c. not (c == quote)) value → IsValueSlice slice value trailing

-- An attribute at the front of a text, and what follows it: its name, and what it has after that (13.2.5.32 and
-- 13.2.5.33). The first character of the name is of no gap and not `>`; the others go up to one that ends a name.
pub record IsAttributeSlice (table : References) (cs : List ℕ) (a : Attribute) (trailing : List ℕ) : Type 0 where
  pub first : ℕ
  pub others : List ℕ
  pub slice : List ℕ
  pub written : List ℕ
  pub value : List ℕ
  pub side_by_side : cs ≡ first ∷ others ++ slice ++ trailing
  pub begins_name : (is_gap first || first == greater) ≡ false
  pub goes_on : IsRun (λ c. not (ends_attribute_name c)) others (slice ++ trailing)
  pub has_value : IsValueSlice slice written trailing
  pub is_value : IsValue table written value
  pub is : a ≡ attribute (name_of (first ∷ others)) value

-- What stands after a tag's name: its attributes as they are written, each after a gap, and after a last gap the
-- `>`; whether a `/` stands directly before that; and what follows.
pub data AreWritten (table : References) : List ℕ → List Attribute → Bool → List ℕ → Type 0 where
  closes : (gap rest cs : List ℕ) → cs ≡ gap ++ greater ∷ rest → AllPass is_gap gap →
      AreWritten table cs [] (ends_with_slash gap) rest
  has : (gap text trailing rest cs : List ℕ) (a : Attribute) (others : List Attribute) (closing : Bool) →
      cs ≡ gap ++ text → AllPass is_gap gap → IsAttributeSlice table text a trailing →
      AreWritten table trailing others closing rest → AreWritten table cs (a ∷ others) closing rest

-- A tag at the front of a text, and what follows it: its name, and what stands after that.
pub record IsTagSlice (table : References) (kind : TagKind) (cs : List ℕ) (t : Tag) (rest : List ℕ) : Type 0 where
  pub name : List ℕ
  pub trailing : List ℕ
  pub attributes : List Attribute
  pub closing : Bool
  pub side_by_side : cs ≡ name ++ trailing
  pub is_name : IsRun (λ c. not (ends_tag_name c)) name trailing
  pub are_written : AreWritten table trailing attributes closing rest
  pub is : t ≡ tag_of kind name (record { attributes = attributes; self_closing = closing; rest = rest })
