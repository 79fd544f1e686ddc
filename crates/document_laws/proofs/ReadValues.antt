-- An escaped value is read as the value.
use Rattle.std.proofs.Common.{◌≡◌, ◌<◌, ◌≤◌, ◌==◌, [], ◌∷◌, ◌++◌, if◌then◌else◌, ◌∙◌, List, None, Some, ap, arith}
use Rattle.std.proofs.Common.{false, length, length-append, refl, suc, true, zero, ℕ}
use Rattle.std.specs.Prelude.{option_and_then, option_map}
use Rattle.tree_forest.specs.Forest.{is_in}
use Rattle.token_grammar.specs.References.{kept_in_value, named, reference_in_value, value_from, value_of, value_step}
use Rattle.token_grammar.specs.Slices.{after, begins, cut, cut_here, longer}
use Rattle.lex_base.specs.References.{References}
use Rattle.tree_serializer.specs.Escapes.{escaped, escaped_character}
use Rattle.document_laws.specs.Escaped.{HasNoNul, KnowsEscapes}
use Rattle.document_laws.proofs.NamedReferences.{Written, as_itself, by_name, found, written}
use Rattle.document_laws.proofs.ReadTexts.{first_no_nul, later_no_nul, no_first, other_way}

no_cut : (c : ℕ) (cs : List ℕ) → (34 == c) ≡ false → after (34 ∷ []) (c ∷ cs) ≡ None
no_cut c cs h = let e = other_way 34 c h in cc

-- a text without quotes is cut at the quote after it
pub cut_at_quote : (cs rest : List ℕ) → is_in 34 cs ≡ false →
    cut (after (34 ∷ [])) (cs ++ 34 ∷ rest) ≡ Some (record { slice = cs; rest = rest })
cut_at_quote [] rest h = refl
cut_at_quote (c ∷ cs) rest h =
    let parts = no_first (34 == c) (is_in 34 cs) h in
    ap (λ o. cut_here c o (cut (after (34 ∷ [])) (cs ++ 34 ∷ rest))) (no_cut c (cs ++ 34 ∷ rest) parts.0)
    ∙ ap (option_map (longer c)) (cut_at_quote cs rest parts.1)

is_reference : (table : References) (c : ℕ) (name rest : List ℕ) → begins (35 ∷ []) (name ++ rest) ≡ false →
    named table (name ++ rest) ≡ Some (found c rest) → reference_in_value table (name ++ rest) ≡ Some (found c rest)
is_reference table c name rest n h = grind (arith, n, ap (option_and_then kept_in_value) h)

-- one character's escape is read as the character
first_read : (table : References) (n c : ℕ) (text rest : List ℕ) → Written table c text → (c == 0) ≡ false →
    value_from table (suc n) (text ++ rest) ≡ c ∷ value_from table n rest
first_read table n c _ rest (as_itself a l) z =
    ap (λ b. value_step c rest (if b then reference_in_value table rest else None) (value_from table n)) a
    ∙ ap (λ b. (if b then 0xFFFD else c) ∷ value_from table n rest) z
first_read table n c _ rest (by_name name m is) z =
    ap (λ o. value_step 38 (name ++ rest) o (value_from table n)) (is_reference table c name rest (m rest) (is rest))

is_longer : (table : References) (c : ℕ) (text rest : List ℕ) → Written table c text →
    length rest < length (text ++ rest)
is_longer table c _ rest (as_itself a l) = omega arith
is_longer table c _ rest (by_name name m is) = omega (arith, length-append name rest)

module _ (table : References) (knows : KnowsEscapes table) where
  -- read with any number that is enough
  read_by : (n : ℕ) (cs : List ℕ) → length (escaped true cs) ≤ n → HasNoNul cs →
      value_from table n (escaped true cs) ≡ cs
  read_by zero [] l h = refl
  read_by (suc n) [] l h = refl
  read_by zero (c ∷ cs) l h =
      let w = written table knows true c in
      absurd (omega (arith, is_longer table c (escaped_character true c) (escaped true cs) w))
  read_by (suc n) (c ∷ cs) l h =
      let w = written table knows true c in
      let lt = is_longer table c (escaped_character true c) (escaped true cs) w in
      first_read table n c (escaped_character true c) (escaped true cs) w (first_no_nul c cs h)
      ∙ ap (λ t. c ∷ t) (read_by n cs (omega (arith, lt, l)) (later_no_nul c cs h))

  pub read_value : (cs : List ℕ) → HasNoNul cs → value_of table (escaped true cs) ≡ cs
  read_value cs h = read_by (length (escaped true cs)) cs (omega arith) h
