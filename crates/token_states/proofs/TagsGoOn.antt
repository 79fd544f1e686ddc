-- A tag that ends in a text is the same tag where more follows.
use Rattle.std.proofs.Common.{◌≡◌, ◌≢◌, ◌≤◌, ◌==◌, ◌||◌, if◌then◌else◌, [], ◌∷◌, ◌++◌, ◌∙◌, Bool, List, None, Option}
use Rattle.std.proofs.Common.{Some, ap, ap₂, arith, drop, false, length, length-append, not, option_and_then}
use Rattle.std.proofs.Common.{option_map, refl, subst, suc, sym, true, zero, ℕ}
use Rattle.lex_base.specs.References.{References}
use Rattle.html_lexemes.specs.declared.names.Attribute.{Attribute}
use Rattle.html_lexemes.specs.declared.token.Tag.{Tag}
use Rattle.html_lexemes.specs.declared.token.TagKind.{TagKind}
use Rattle.token_grammar.specs.Characters.{is_space, name_of}
use Rattle.token_grammar.specs.References.{value_of}
use Rattle.token_grammar.specs.Slices.{Cut, after, begins, cut, front_while, rest_while}
use Rattle.token_grammar.specs.Tags.{TagEnd, after_gap, attribute, attribute_at, ends_attribute_name, ends_tag_name}
use Rattle.token_grammar.specs.Tags.{ends_unquoted, ends_with_slash, equals, greater, is_gap, slash, tag_at, tag_end}
use Rattle.token_grammar.specs.Tags.{tag_end_from, tag_of, value_after, with_attribute, without_spaces, written_value}
use Rattle.token_states.proofs.SlicesGoOn.{Grows, cut-grows, cut_and, front-same, rest-grows, rest-within}

-- more than a gap is left
abbrev IsPastGap : List ℕ → Type 0
IsPastGap cs = rest_while is_gap cs ≢ []

-- if more than a gap is left after it, a cut is there in the longer text too
abbrev GrowsPast : List ℕ → Option Cut → Option Cut → Type 0
GrowsPast more None later = Unit
GrowsPast more (Some cut) later = IsPastGap cut.rest → later ≡ Some (cut_and more cut)

past_anyway : (more : List ℕ) (o later : Option Cut) → Grows more o later → GrowsPast more o later
past_anyway more None later h = tt
past_anyway more (Some cut) later h = λ past. h

-- a space is a gap, and nothing is none
space_in_gap : (b d : Bool) → b ≡ true → (b || d) ≡ true
space_in_gap true d e = refl
space_in_gap false d e = absurd cc

spaces_left : (cs : List ℕ) → IsPastGap cs → without_spaces cs ≢ []
spaces_left cs past = rest-within is_space is_gap cs (λ c. space_in_gap (is_space c) (c == slash)) past

something_left : (cs : List ℕ) → IsPastGap cs → cs ≢ []
something_left [] past = past
something_left (c ∷ cs) past = λ e. absurd cc

-- ---- a value

unquoted_grows : (c : ℕ) (cs more : List ℕ) (b : Bool) → GrowsPast more
    (if b then cut (after (c ∷ [])) cs
    else Some (record {
      slice = front_while (λ d. not (ends_unquoted d)) (c ∷ cs);
      rest = rest_while (λ d. not (ends_unquoted d)) (c ∷ cs);
    }))
    (if b then cut (after (c ∷ [])) (cs ++ more)
    else Some (record {
      slice = front_while (λ d. not (ends_unquoted d)) (c ∷ (cs ++ more));
      rest = rest_while (λ d. not (ends_unquoted d)) (c ∷ (cs ++ more));
    }))
unquoted_grows c cs more true =
    past_anyway more (cut (after (c ∷ [])) cs) (cut (after (c ∷ [])) (cs ++ more)) (cut-grows c cs more)
unquoted_grows c cs more false =
    let p : ℕ → Bool = λ d. not (ends_unquoted d) in
    λ past.
    let left = something_left (rest_while p (c ∷ cs)) past in
    ap₂ (λ (s r : List ℕ). Some (record { slice = s; rest = r })) (front-same p (c ∷ cs) more left)
    (rest-grows p (c ∷ cs) more left)

written-grows : (cs more : List ℕ) → GrowsPast more (written_value cs) (written_value (cs ++ more))
written-grows [] more = λ past. absurd (past refl)
written-grows (c ∷ cs) more = unquoted_grows c cs more (c == 34 || c == 39)

-- after `=`, over spaces
spaced_grows : (spaced grown more : List ℕ) → (spaced ≢ [] → grown ≡ spaced ++ more) →
    GrowsPast more (written_value spaced) (written_value grown)
spaced_grows [] grown more same = λ past. absurd (past refl)
spaced_grows (c ∷ cs) grown more same =
    subst (λ g. GrowsPast more (written_value (c ∷ cs)) (written_value g)) (sym (same (λ e. absurd cc)))
    (written-grows (c ∷ cs) more)

-- the value after a name, by whether `=` stands there, what follows that, and all that stands there
abbrev value_if : Bool → List ℕ → List ℕ → Option Cut
value_if equals_there trailing cs = if equals_there then written_value (without_spaces trailing)
    else Some (record { slice = []; rest = cs })

value_if_grows : (b : Bool) (trailing cs more : List ℕ) →
    GrowsPast more (value_if b trailing cs) (value_if b (trailing ++ more) (cs ++ more))
value_if_grows true trailing cs more =
    spaced_grows (without_spaces trailing) (without_spaces (trailing ++ more)) more (rest-grows is_space trailing more)
value_if_grows false trailing cs more = λ past. refl

abbrev value_over : List ℕ → List ℕ → Option Cut
value_over spaced cs = value_if (begins (equals ∷ []) spaced) (drop 1 spaced) cs

value_grows : (spaced grown cs more : List ℕ) → (IsPastGap cs → spaced ≢ []) → (spaced ≢ [] → grown ≡ spaced ++ more) →
    GrowsPast more (value_over spaced cs) (value_over grown (cs ++ more))
value_grows [] grown cs more left same = λ past. absurd (left past refl)
value_grows (c ∷ trailing) grown cs more left same =
    subst (λ g. GrowsPast more (value_over (c ∷ trailing) cs) (value_over g (cs ++ more))) (sym (same (λ e. absurd cc)))
    (value_if_grows (begins (equals ∷ []) (c ∷ trailing)) trailing cs more)

value-grows : (cs more : List ℕ) → GrowsPast more (value_after cs) (value_after (cs ++ more))
value-grows cs more =
    value_grows (without_spaces cs) (without_spaces (cs ++ more)) cs more (spaces_left cs) (rest-grows is_space cs more)

-- ---- an attribute

abbrev ReadGrows : List ℕ → Option (Attribute × List ℕ) → Option (Attribute × List ℕ) → Type 0
ReadGrows more None later = Unit
ReadGrows more (Some read) later = IsPastGap read.1 → later ≡ Some (read.0, read.1 ++ more)

abbrev made : (Cut → Attribute) → Option Cut → Option (Attribute × List ℕ)
made make value = option_map (λ (v : Cut). (make v, v.rest)) value

made_grows : (make : Cut → Attribute) (more : List ℕ) (o later : Option Cut) →
    ((v : Cut) → make (cut_and more v) ≡ make v) → GrowsPast more o later →
    ReadGrows more (made make o) (made make later)
made_grows make more None later same h = tt
made_grows make more (Some v) later same h =
    λ past. ap (made make) (h past) ∙ ap (λ (a : Attribute). Some (a, v.rest ++ more)) (same v)

abbrev attribute_of : References → ℕ → List ℕ → Cut → Attribute
attribute_of table c name value = attribute (name_of (c ∷ name)) (value_of table value.slice)

abbrev read_after : References → ℕ → List ℕ → List ℕ → Option (Attribute × List ℕ)
read_after table c name rest = made (attribute_of table c name) (value_after rest)

read_grows : (table : References) (c : ℕ) (name rest name_later rest_later more : List ℕ) →
    (rest ≢ [] → name_later ≡ name) → (rest ≢ [] → rest_later ≡ rest ++ more)
    → ReadGrows more (read_after table c name rest) (read_after table c name_later rest_later)
read_grows table c name [] name_later rest_later more names rests = λ past. absurd (past refl)
read_grows table c name (d ∷ rest) name_later rest_later more names rests =
    let left : d ∷ rest ≢ [] = λ e. absurd cc in
    subst (ReadGrows more (read_after table c name (d ∷ rest)))
    (sym (ap₂ (read_after table c) (names left) (rests left)))
    (made_grows (attribute_of table c name) more (value_after (d ∷ rest)) (value_after ((d ∷ rest) ++ more))
    (λ v. refl) (value-grows (d ∷ rest) more))

attribute-grows : (table : References) (c : ℕ) (cs more : List ℕ) →
    ReadGrows more (attribute_at table c cs) (attribute_at table c (cs ++ more))
attribute-grows table c cs more =
    let p : ℕ → Bool = λ d. not (ends_attribute_name d) in
    read_grows table c (front_while p cs) (rest_while p cs) (front_while p (cs ++ more))
    (rest_while p (cs ++ more)) more (front-same p cs more) (rest-grows p cs more)

-- ---- the end of a tag

abbrev end_and : List ℕ → TagEnd → TagEnd
end_and more end = record end { rest = end.rest ++ more }

abbrev EndGrows : List ℕ → Option TagEnd → Option TagEnd → Type 0
EndGrows more None later = Unit
EndGrows more (Some end) later = later ≡ Some (end_and more end)

-- what has an end is more than a gap
abbrev HasEndPast : List ℕ → Option TagEnd → Type 0
HasEndPast cs None = Unit
HasEndPast cs (Some end) = IsPastGap cs

after_past : (table : References) (closes : Bool) (cs rest : List ℕ) (further : List ℕ → Option TagEnd) →
    rest ≡ rest_while is_gap cs → HasEndPast cs (after_gap table closes rest further)
after_past table closes cs [] further e = tt
after_past table closes cs (c ∷ rest) further e = any (after_gap table closes (c ∷ rest) further) where
  any : (o : Option TagEnd) → HasEndPast cs o
  any None = tt
  any (Some end) = λ none. absurd cc

end_past : (table : References) (n : ℕ) (cs : List ℕ) → HasEndPast cs (tag_end_from table n cs)
end_past table zero cs = tt
end_past table (suc n) cs =
    after_past table (ends_with_slash (front_while is_gap cs)) cs (rest_while is_gap cs) (tag_end_from table n) refl

with_grows : (more : List ℕ) (a : Attribute) (o later : Option TagEnd) → EndGrows more o later →
    EndGrows more (option_map (with_attribute a) o) (option_map (with_attribute a) later)
with_grows more a None later h = tt
with_grows more a (Some end) later h = ap (option_map (with_attribute a)) h

-- an attribute, and the end of the tag after it
abbrev joined : (List ℕ → Option TagEnd) → Option (Attribute × List ℕ) → Option TagEnd
joined further read = option_and_then (λ (r : Attribute × List ℕ). option_map (with_attribute r.0) (further r.1)) read

further_grows : (more : List ℕ) (f g : List ℕ → Option TagEnd) (o later : Option (Attribute × List ℕ)) →
    ((cs : List ℕ) → HasEndPast cs (f cs)) → ((cs : List ℕ) → EndGrows more (f cs) (g (cs ++ more)))
    → ReadGrows more o later → EndGrows more (joined f o) (joined g later)
further_grows more f g None later past ends h = tt
further_grows more f g (Some read) later past ends h = at_end (f read.1) (past read.1) (ends read.1) where
  at_end : (o : Option TagEnd) → HasEndPast read.1 o → EndGrows more o (g (read.1 ++ more))
      → EndGrows more (option_map (with_attribute read.0) o) (joined g later)
  at_end None past ends = tt
  at_end (Some end) past ends = ap (joined g) (h past) ∙ ap (option_map (with_attribute read.0)) ends

closed_or_further : (more : List ℕ) (b closes : Bool) (cs : List ℕ) (o later : Option TagEnd) → EndGrows more o later
    → EndGrows more (if b then Some (record { attributes = []; self_closing = closes; rest = cs })
    else o) (if b then Some (record { attributes = []; self_closing = closes; rest = cs ++ more }) else later)
closed_or_further more true closes cs o later h = refl
closed_or_further more false closes cs o later h = h

after_grows : (table : References) (gap rest gap_later rest_later more : List ℕ) (f g : List ℕ → Option TagEnd) →
    (rest ≢ [] → gap_later ≡ gap) → (rest ≢ [] → rest_later ≡ rest ++ more)
    → ((cs : List ℕ) → HasEndPast cs (f cs)) → ((cs : List ℕ) → EndGrows more (f cs) (g (cs ++ more)))
    → EndGrows more (after_gap table (ends_with_slash gap) rest f)
    (after_gap table (ends_with_slash gap_later) rest_later g)
after_grows table gap [] gap_later rest_later more f g gaps rests past ends = tt
after_grows table gap (c ∷ cs) gap_later rest_later more f g gaps rests past ends =
    let left : c ∷ cs ≢ [] = λ e. absurd cc in
    subst (EndGrows more (after_gap table (ends_with_slash gap) (c ∷ cs) f))
    (sym (ap₂ (λ s r. after_gap table (ends_with_slash s) r g) (gaps left) (rests left)))
    (closed_or_further more (c == greater) (ends_with_slash gap) cs (joined f (attribute_at table c cs))
    (joined g (attribute_at table c (cs ++ more)))
    (further_grows more f g (attribute_at table c cs) (attribute_at table c (cs ++ more)) past ends
    (attribute-grows table c cs more)))

end-grows : (table : References) (more : List ℕ) (n m : ℕ) (cs : List ℕ) → n ≤ m →
    EndGrows more (tag_end_from table n cs) (tag_end_from table m (cs ++ more))
end-grows table more zero m cs le = tt
end-grows table more (suc n) zero cs le = absurd (omega arith)
end-grows table more (suc n) (suc m) cs le =
    after_grows table (front_while is_gap cs) (rest_while is_gap cs) (front_while is_gap (cs ++ more))
    (rest_while is_gap (cs ++ more)) more (tag_end_from table n) (tag_end_from table m)
    (front-same is_gap cs more) (rest-grows is_gap cs more) (end_past table n)
    (λ ds. end-grows table more n m ds (omega arith))

-- ---- a tag

abbrev pub TagGrows : List ℕ → Option (Tag × List ℕ) → Option (Tag × List ℕ) → Type 0
TagGrows more None later = Unit
TagGrows more (Some read) later = later ≡ Some (read.0, read.1 ++ more)

abbrev named : TagKind → List ℕ → Option TagEnd → Option (Tag × List ℕ)
named kind name end = option_map (λ (e : TagEnd). (tag_of kind name e, e.rest)) end

named_grows : (kind : TagKind) (name more : List ℕ) (o later : Option TagEnd) → EndGrows more o later
    → TagGrows more (named kind name o) (named kind name later)
named_grows kind name more None later h = tt
named_grows kind name more (Some end) later h = ap (named kind name) h

whole_grows : (table : References) (kind : TagKind) (name rest name_later rest_later more : List ℕ) →
    (rest ≢ [] → name_later ≡ name) → (rest ≢ [] → rest_later ≡ rest ++ more)
    → TagGrows more (named kind name (tag_end table rest)) (named kind name_later (tag_end table rest_later))
whole_grows table kind name [] name_later rest_later more names rests = tt
whole_grows table kind name (c ∷ cs) name_later rest_later more names rests =
    let left : c ∷ cs ≢ [] = λ e. absurd cc in
    subst (TagGrows more (named kind name (tag_end table (c ∷ cs))))
    (sym (ap₂ (λ n r. named kind n (tag_end table r)) (names left) (rests left)))
    (named_grows kind name more (tag_end table (c ∷ cs)) (tag_end table ((c ∷ cs) ++ more))
    (end-grows table more (suc (length (c ∷ cs))) (suc (length ((c ∷ cs) ++ more))) (c ∷ cs)
    (omega (arith, length-append (c ∷ cs) more))))

pub tag-grows : (table : References) (kind : TagKind) (cs more : List ℕ) →
    TagGrows more (tag_at table kind cs) (tag_at table kind (cs ++ more))
tag-grows table kind cs more =
    let p : ℕ → Bool = λ c. not (ends_tag_name c) in
    whole_grows table kind (front_while p cs) (rest_while p cs) (front_while p (cs ++ more))
    (rest_while p (cs ++ more)) more (front-same p cs more) (rest-grows p cs more)
