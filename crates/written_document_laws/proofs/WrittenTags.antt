-- A tag that is written is the slice of that tag.
use Rattle.std.proofs.Common.{◌≡◌, ◌||◌, ◌==◌, [], ◌∷◌, ◌++◌, ◌∙◌, List, Some, ap, append_assoc, arith, false, length}
use Rattle.std.proofs.Common.{not, refl, subst, sym, true, ℕ}
use Rattle.std.proofs.lemmas.Bool.{and_from, and_parts, cond-true, eq-eqb, not-true}
use Rattle.std.proofs.lemmas.Bool.Decides.{nat_tests}
use Rattle.std.proofs.lemmas.List.Sums.{AllPass-from_list_all}
use Rattle.std.proofs.lemmas.Slice.Eq.{bytes_eq-Decides}
use Rattle.std.specs.Bool.{nat_lt}
use Rattle.std.specs.List.{list_all}
use Rattle.std.specs.Str.{bytes_eq}
use Rattle.document_laws.proofs.ReadTexts.{no_first, other_way}
use Rattle.document_laws.proofs.ReadValues.{read_value}
use Rattle.document_laws.specs.Escaped.{HasNoNul, KnowsEscapes}
use Rattle.tree_forest.specs.Forest.{is_in}
use Rattle.token_grammar.proofs.TagSlicesRead.{tag_read}
use Rattle.token_grammar.proofs.ValuesInTurn.{value_is}
use Rattle.token_grammar.specs.Characters.{is_letter, is_space, name_of}
use Rattle.token_grammar.specs.Slices.{first_passes, front_while, rest_while}
use Rattle.token_grammar.specs.TagLaws.{AreWritten, IsAttributeSlice, IsValue, IsValueSlice, closes, has, quoted}
use Rattle.token_grammar.specs.Tags.{attribute, ends_attribute_name, ends_tag_name, first_of_each, greater, is_gap}
use Rattle.token_grammar.specs.Tags.{tag_at, tag_of}
use Rattle.lex_base.specs.References.{References}
use Rattle.html_lexemes.specs.declared.names.Attribute.{Attribute}
use Rattle.html_lexemes.specs.declared.names.Namespace.TheVariants.{Other}
use Rattle.html_lexemes.specs.declared.token.Tag.{Tag}
use Rattle.html_lexemes.specs.declared.token.TagKind.{TagKind}
use Rattle.html_lexemes.specs.declared.token.TagKind.TheVariants.{EndTag, StartTag}
use Rattle.tree_serializer.proofs.EscapeLaws.{escaped-no_quote}
use Rattle.tree_serializer.specs.Escapes.{attribute_text, attributes_text, escaped}
use Rattle.written_document_laws.specs.Written.{AreAttributes, IsTagName}

abbrev pub start_tag : List ℕ → List Attribute → Tag
start_tag name attributes = record {
  kind = StartTag;
  name = name;
  self_closing = false;
  attrs = attributes;
  had_duplicate_attributes = false;
}

abbrev pub end_tag : List ℕ → Tag
end_tag name = record {
  kind = EndTag;
  name = name;
  self_closing = false;
  attrs = [];
  had_duplicate_attributes = false;
}

-- ---- values between quotes

no_quote : (cs : List ℕ) → is_in 34 cs ≡ false → list_all (λ c. not (c == 34)) cs ≡ true
no_quote [] h = refl
no_quote (c ∷ cs) h =
    let parts = no_first (34 == c) (is_in 34 cs) h in
    and_from (not (c == 34)) (list_all (λ c. not (c == 34)) cs) (ap not (other_way 34 c parts.0)) (no_quote cs parts.1)

-- an attribute, after its SPACE, before what follows
abbrev pub value_slice : List ℕ → List ℕ
value_slice value = 61 ∷ 34 ∷ (escaped true value ++ (34 ∷ []))

abbrev pub attribute_before : List ℕ → List ℕ → List ℕ → List ℕ
attribute_before name value trailing = name ++ (value_slice value ++ trailing)

attribute_apart : (a : Attribute) (trailing : List ℕ) →
    attribute_text a ++ trailing ≡ 32 ∷ attribute_before a.name.local a.value trailing
attribute_apart a trailing =
    let e : List ℕ = escaped true a.value in
    ap (λ l. 32 ∷ l)
    (append_assoc (a.name.local ++ 61 ∷ 34 ∷ e) (34 ∷ []) trailing
    ∙ append_assoc a.name.local (61 ∷ 34 ∷ e) (34 ∷ trailing)
    ∙ ap (λ l. a.name.local ++ 61 ∷ 34 ∷ l) (sym (append_assoc e (34 ∷ []) trailing)))

in_none : (a : Attribute) → a.name.ns ≡ Other [] → a ≡ attribute a.name.local a.value
in_none a e = ap (λ n. record { name = record { ns = n; local = a.name.local }; value = a.value }) e

module _ (table : References) (knows : KnowsEscapes table) where
  is_value : (value : List ℕ) → HasNoNul value → IsValue table (escaped true value) value
  is_value value h =
      subst (IsValue table (escaped true value)) (read_value table knows value h) (value_is table (escaped true value))

  quoted_value : (value trailing : List ℕ) → IsValueSlice (value_slice value) (escaped true value) trailing
  quoted_value value trailing = quoted 34 [] [] (escaped true value) trailing (value_slice value) refl
      (AllPass-from_list_all is_space [] refl) (AllPass-from_list_all is_space [] refl) refl
      (AllPass-from_list_all (λ c. not (c == 34)) (escaped true value)
      (no_quote (escaped true value) (escaped-no_quote value)))

  attribute_slice : (name : List ℕ) (a : Attribute) (trailing : List ℕ) → a.name.ns ≡ Other [] → a.name.local ≡ name →
      first_passes (λ c. not (is_gap c || c == greater)) name ≡ true →
      list_all (λ c. not (ends_attribute_name c)) name ≡ true → name_of name ≡ name → HasNoNul a.value →
      IsAttributeSlice table (attribute_before name a.value trailing) a trailing
  attribute_slice [] a trailing ns e b g l h = absurd (let wrong : false ≡ true = b in cc)
  attribute_slice (c ∷ cs) a trailing ns e b g l h = record {
    first = c;
    others = cs;
    slice = value_slice a.value;
    written = escaped true a.value;
    value = a.value;
    side_by_side = ap (λ t. c ∷ t) (sym (append_assoc cs (value_slice a.value) trailing));
    begins_name = not-true (is_gap c || c == greater) b;
    goes_on = record {
      pass = AllPass-from_list_all (λ c. not (ends_attribute_name c)) cs
          (and_parts (not (ends_attribute_name c)) (list_all (λ c. not (ends_attribute_name c)) cs) g).1;
      stops = refl;
    };
    has_value = quoted_value a.value trailing;
    is_value = is_value a.value h;
    is = in_none a ns ∙ ap (λ n. attribute n a.value) (e ∙ sym l);
  }

  are_written : (attributes : List Attribute) (rest : List ℕ) → AreAttributes attributes →
      AreWritten table (attributes_text attributes ++ 62 ∷ rest) attributes false rest
  are_written [] rest h = closes [] rest (62 ∷ rest) refl (AllPass-from_list_all is_gap [] refl)
  are_written (a ∷ attributes) rest h =
      let trailing : List ℕ = attributes_text attributes ++ 62 ∷ rest in
      has (32 ∷ []) (attribute_before a.name.local a.value trailing) trailing rest
      (attributes_text (a ∷ attributes) ++ 62 ∷ rest) a attributes false
      (append_assoc (attribute_text a) (attributes_text attributes) (62 ∷ rest) ∙ attribute_apart a trailing)
      (AllPass-from_list_all is_gap (32 ∷ []) refl)
      (attribute_slice a.name.local a trailing h.0.0 refl h.0.1.0.begins h.0.1.0.goes_on h.0.1.0.lower h.0.1.1)
      (are_written attributes rest h.1)

  -- ---- tags

  stops_name : (attributes : List Attribute) (rest : List ℕ) →
      first_passes (λ c. not (ends_tag_name c)) (attributes_text attributes ++ 62 ∷ rest) ≡ false
  stops_name [] rest = refl
  stops_name (a ∷ attributes) rest = refl

  tag_is : (kind : TagKind) (name : List ℕ) (attributes : List Attribute) (rest : List ℕ) → name_of name ≡ name →
      first_of_each [] attributes ≡ attributes →
      record {
        kind = kind;
        name = name;
        self_closing = false;
        attrs = attributes;
        had_duplicate_attributes = false;
      } ≡ tag_of kind name (record { attributes = attributes; self_closing = false; rest = rest })
  tag_is kind name attributes rest l f = sym (
      ap (λ n. record {
        kind = kind;
        name = n;
        self_closing = false;
        attrs = first_of_each [] attributes;
        had_duplicate_attributes = not (length (first_of_each [] attributes) == length attributes);
      }) l
      ∙ ap (λ kept. record {
        kind = kind;
        name = name;
        self_closing = false;
        attrs = kept;
        had_duplicate_attributes = not (length kept == length attributes);
      }) f
      ∙ ap (λ b. record {
        kind = kind;
        name = name;
        self_closing = false;
        attrs = attributes;
        had_duplicate_attributes = not b;
      }) (eq-eqb (length attributes) (length attributes) refl))

  pub tag_is_read : (kind : TagKind) (name : List ℕ) (attributes : List Attribute) (rest : List ℕ) → IsTagName name →
      AreAttributes attributes → first_of_each [] attributes ≡ attributes →
      tag_at table kind (name ++ (attributes_text attributes ++ 62 ∷ rest)) ≡ Some (
        record {
          kind = kind;
          name = name;
          self_closing = false;
          attrs = attributes;
          had_duplicate_attributes = false;
        },
        rest,
      )
  tag_is_read kind name attributes rest n h f =
      tag_read table kind (name ++ (attributes_text attributes ++ 62 ∷ rest)) _ rest (record {
        name = name;
        trailing = attributes_text attributes ++ 62 ∷ rest;
        attributes = attributes;
        closing = false;
        side_by_side = refl;
        is_name = record {
          pass = AllPass-from_list_all (λ c. not (ends_tag_name c)) name n.goes_on;
          stops = stops_name attributes rest;
        };
        are_written = are_written attributes rest h;
        is = tag_is kind name attributes rest n.lower f;
      })

-- ---- the end tag that ends an element's text

pub same_text : (cs : List ℕ) → bytes_eq cs cs ≡ true
same_text cs = (bytes_eq-Decides cs cs).1 refl

pub letters_front : (name rest : List ℕ) → list_all is_letter name ≡ true → front_while is_letter (name ++ 62 ∷ rest)
    ≡ name
letters_front [] rest e = refl
letters_front (c ∷ name) rest e =
    let parts = and_parts (is_letter c) (list_all is_letter name) e in
    cond-true (is_letter c) (c ∷ front_while is_letter (name ++ 62 ∷ rest)) [] parts.0
    ∙ ap (λ l. c ∷ l) (letters_front name rest parts.1)

pub letters_rest : (name rest : List ℕ) → list_all is_letter name ≡ true →
    rest_while is_letter (name ++ 62 ∷ rest) ≡ 62 ∷ rest
letters_rest [] rest e = refl
letters_rest (c ∷ name) rest e =
    let parts = and_parts (is_letter c) (list_all is_letter name) e in
    cond-true (is_letter c) (rest_while is_letter (name ++ 62 ∷ rest)) (c ∷ (name ++ 62 ∷ rest)) parts.0
    ∙ letters_rest name rest parts.1

pub some_letters : (name : List ℕ) → first_passes is_letter name ≡ true → nat_lt 0 (length name) ≡ true
some_letters [] e = absurd (let wrong : false ≡ true = e in cc)
some_letters (c ∷ name) e = grind (arith, nat_tests)
