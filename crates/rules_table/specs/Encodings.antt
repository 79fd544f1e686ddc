-- The encoding that a `meta` names (WHATWG HTML, 13.2.6.4.4): its `charset`, or what its `content` says, where its
-- `http-equiv` is `content-type`.
use Rattle.std.specs.Prelude.{◌==◌, ◌||◌, [], ◌∷◌, if◌then◌else◌, Bool, List, None, Option, Some, codes, not}
use Rattle.std.specs.Prelude.{option_and_then, option_map, ℕ}
use Rattle.std.specs.Option.{option_or}
use Rattle.token_grammar.specs.Slices.{Cut, after, after_word, cut, front_while, rest_while}
use Rattle.html_lexemes.specs.declared.names.Attribute.{Attribute}
use Rattle.tree_predicates.specs.Attributes.{is_value_of, value_of}

-- TAB, LF, FF, CR and SPACE
abbrev pub is_white_space : ℕ → Bool
is_white_space c = c == 9 || (c == 10 || (c == 12 || (c == 13 || c == 32)))

abbrev pub without_white_space : List ℕ → List ℕ
without_white_space cs = rest_while is_white_space cs

-- What stands after `charset`, ASCII case aside, and `=`, over white space round that, where a text begins with these
-- (2.5.3, "extracting a character encoding from a meta element", steps 2 to 5).
abbrev pub after_equals : List ℕ → Option (List ℕ)
after_equals cs = option_map without_white_space (after (codes "=") (without_white_space cs))

abbrev pub after_charset : List ℕ → Option (List ℕ)
after_charset cs = option_and_then after_equals (after_word (codes "charset") cs)

-- the first place where these stand
abbrev pub after_first : List ℕ → Option (List ℕ)
after_first [] = None
after_first (c ∷ cs) = option_or (after_charset (c ∷ cs)) (after_first cs)

-- The name: between two quotes of a kind, of which the second must come, or up to white space or `;` (step 6).
abbrev pub ends_name : ℕ → Bool
ends_name c = is_white_space c || c == 59

abbrev pub slice_of : Cut → List ℕ
slice_of cut = cut.slice

abbrev pub written_name : List ℕ → Option (List ℕ)
written_name [] = None
written_name (c ∷ cs) = if c == 34 || c == 39 then option_map slice_of (cut (after (c ∷ [])) cs)
    else Some (front_while (λ d. not (ends_name d)) (c ∷ cs))

abbrev pub encoding_in : List ℕ → Option (List ℕ)
encoding_in content = option_and_then written_name (after_first content)

abbrev pub declares_type : List Attribute → Bool
declares_type attributes = is_value_of (codes "content-type" ∷ []) (value_of (codes "http-equiv") attributes)

abbrev pub declared_encoding : List Attribute → Option (List ℕ)
declared_encoding attributes =
    if declares_type attributes then option_and_then encoding_in (value_of (codes "content") attributes) else None

abbrev pub named_encoding : List Attribute → Option (List ℕ)
named_encoding attributes = option_or (value_of (codes "charset") attributes) (declared_encoding attributes)
