-- Attributes are looked through, one after the other.
use Rattle.std.proofs.Common.{◌≡◌, ◌+◌, ◌<◌, ◌≤◌, [], ◌∷◌, ◌∙◌, Bool, List, None, Some, ap, arith, bytes_eq, cond, drop}
use Rattle.std.proofs.Common.{false, length, length-drop, slice_index_or, sym, true, ℕ}
use Rattle.std.proofs.lemmas.List.{drop_more, nil_from_length}
use Rattle.tree_names.specs.Sets.{is_one_of}
use Rattle.html_lexemes.specs.declared.names.Attribute.{Attribute}
use Rattle.tree_predicates.specs.Attributes.{has_attribute, value_of}

none_left : (attrs : List Attribute) (i : ℕ) → length attrs ≤ i → drop i attrs ≡ []
none_left attrs i h = nil_from_length (drop i attrs) (omega (arith, length-drop i attrs))

-- `a` stands at i, and its local name is `local`
module _ (attrs : List Attribute) (i : ℕ) (a d : Attribute) (at : a ≡ slice_index_or attrs i d)
    (more : i < length attrs) (local : List ℕ) (is_local : local ≡ a.name.local) where
  from_here : drop i attrs ≡ a ∷ drop (i + 1) attrs
  from_here = drop_more attrs i d more ∙ ap (λ b. b ∷ drop (i + 1) attrs) (sym at)

  value_here : (name : List ℕ) (b : Bool) → b ≡ bytes_eq local name →
      value_of name (drop i attrs) ≡ cond b (Some a.value) (value_of name (drop (i + 1) attrs))
  value_here name b is = ap (value_of name) from_here
      ∙ ap (λ t. cond t (Some a.value) (value_of name (drop (i + 1) attrs)))
      (sym (is ∙ ap (λ l. bytes_eq l name) is_local))

  pub found_value : (name : List ℕ) → true ≡ bytes_eq local name → Some a.value ≡ value_of name (drop i attrs)
  found_value name is = sym (value_here name true is)

  pub other_value : (name : List ℕ) → false ≡ bytes_eq local name →
      value_of name (drop i attrs) ≡ value_of name (drop (i + 1) attrs)
  other_value name is = value_here name false is

  attribute_here : (names : List (List ℕ)) (b : Bool) → b ≡ is_one_of names local →
      has_attribute names (drop i attrs) ≡ cond b true (has_attribute names (drop (i + 1) attrs))
  attribute_here names b is = ap (has_attribute names) from_here
      ∙ ap (λ t. cond t true (has_attribute names (drop (i + 1) attrs)))
      (sym (is ∙ ap (is_one_of names) is_local))

  pub found_attribute : (names : List (List ℕ)) → true ≡ is_one_of names local →
      true ≡ has_attribute names (drop i attrs)
  found_attribute names is = sym (attribute_here names true is)

  pub other_attribute : (names : List (List ℕ)) → false ≡ is_one_of names local →
      has_attribute names (drop i attrs) ≡ has_attribute names (drop (i + 1) attrs)
  other_attribute names is = attribute_here names false is

pub no_value : (name : List ℕ) (attrs : List Attribute) (i : ℕ) → length attrs ≤ i → None ≡ value_of name (drop i attrs)
no_value name attrs i h = ap (value_of name) (sym (none_left attrs i h))

pub no_attribute : (names : List (List ℕ)) (attrs : List Attribute) (i : ℕ) → length attrs ≤ i →
    false ≡ has_attribute names (drop i attrs)
no_attribute names attrs i h = ap (has_attribute names) (sym (none_left attrs i h))
