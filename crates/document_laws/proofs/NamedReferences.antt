-- The reference of an escaped character is read as the character.
use Rattle.std.proofs.Common.{◌≡◌, ◌==◌, ◌&&◌, [], ◌∷◌, ◌++◌, if◌then◌else◌, ◌∙◌, Bool, List, None, Some, ap}
use Rattle.std.proofs.Common.{append-nil, append_assoc, arith, codes, false, refl, subst, sym, true, ℕ}
use Rattle.std.proofs.lemmas.Bool.Decides.{nat_tests}
use Rattle.std.specs.FinMap as finite
use Rattle.std.specs.List.{list_any}
use Rattle.std.specs.Option.{option_or}
use Rattle.std.specs.Prelude.{option_map}
use Rattle.token_grammar.specs.References.{Found, named, named_from, named_here, semicolon}
use Rattle.token_grammar.specs.Slices.{begins}
use Rattle.lex_base.specs.References.{References}
use Rattle.tree_serializer.specs.Escapes.{escaped_character}
use Rattle.document_laws.specs.Escaped.{KnowsEscapes}

-- what is found after the `&` of an escaped character
abbrev pub found : ℕ → List ℕ → Found
found c rest = record { characters = c ∷ []; closed = true; rest = rest }

-- what is found by a name, from the value that the table has for it
abbrev by_value : (front rest value : List ℕ) → Found
by_value front rest value =
    record { characters = value; closed = list_any (λ c. c == semicolon) front; rest = rest }

-- What an escaped character is written as: a reference that a semicolon ends, or itself.
pub data Written (table : References) (c : ℕ) : List ℕ → Type 0 where
  by_name : (name : List ℕ) → ((rest : List ℕ) → begins (35 ∷ []) (name ++ rest) ≡ false) →
      ((rest : List ℕ) → named table (name ++ rest) ≡ Some (found c rest)) → Written table c (38 ∷ name)
  as_itself : (c == 38) ≡ false → (c == 60) ≡ false → Written table c (c ∷ [])

module _ (table : References) (knows : KnowsEscapes table) where
  -- no name goes on after a semicolon
  none_after : (front : List ℕ) (c : ℕ) (more cs : List ℕ) → named_from table (front ++ 59 ∷ c ∷ more) cs ≡ None
  none_after front c more [] =
      ap (option_map (by_value (front ++ 59 ∷ c ∷ more) []))
      (knows.ends front c more)
  none_after front c more (d ∷ cs) =
      let later : named_from table ((front ++ 59 ∷ c ∷ more) ++ d ∷ []) cs ≡ None =
      ap (λ f. named_from table f cs) (append_assoc front (59 ∷ c ∷ more) (d ∷ []))
      ∙ none_after front c (more ++ d ∷ []) cs in
      ap (λ o. option_or o (named_here table (front ++ 59 ∷ c ∷ more) (d ∷ cs))) later
      ∙ ap (option_map (by_value (front ++ 59 ∷ c ∷ more) (d ∷ cs)))
      (knows.ends front c more)

  -- a name that is read to its semicolon
  closed_here : (front rest : List ℕ) (c : ℕ) → finite.get table (front ++ 59 ∷ []) ≡ Some (c ∷ []) →
      list_any (λ c. c == semicolon) (front ++ 59 ∷ []) ≡ true →
      named_here table (front ++ 59 ∷ []) rest ≡ Some (found c rest)
  closed_here front rest c h k =
      ap (option_map (by_value (front ++ 59 ∷ []) rest)) h
      ∙ ap (λ b. Some (record { characters = c ∷ []; closed = b; rest = rest })) k

  closed_name : (front rest : List ℕ) (c : ℕ) → finite.get table (front ++ 59 ∷ []) ≡ Some (c ∷ []) →
      list_any (λ c. c == semicolon) (front ++ 59 ∷ []) ≡ true →
      named_from table (front ++ 59 ∷ []) rest ≡ Some (found c rest)
  closed_name front [] c h k = closed_here front [] c h k
  closed_name front (d ∷ rest) c h k =
      let later : named_from table ((front ++ 59 ∷ []) ++ d ∷ []) rest ≡ None =
      ap (λ f. named_from table f rest) (append_assoc front (59 ∷ []) (d ∷ [])) ∙ none_after front d [] rest in
      ap (λ o. option_or o (named_here table (front ++ 59 ∷ []) (d ∷ rest))) later ∙ closed_here front (d ∷ rest) c h k

  -- the longest name wins, whatever shorter ones the table has
  passed : (front name rest : List ℕ) (r : Found) → named_from table (front ++ name) rest ≡ Some r →
      named_from table front (name ++ rest) ≡ Some r
  passed front [] rest r h = ap (λ f. named_from table f rest) (sym (append-nil front)) ∙ h
  passed front (c ∷ name) rest r h =
      let later : named_from table (front ++ c ∷ []) (name ++ rest) ≡ Some r =
      passed (front ++ c ∷ []) name rest r
      (ap (λ f. named_from table f rest) (append_assoc front (c ∷ []) name) ∙ h) in
      ap (λ o. option_or o (named_here table front (c ∷ (name ++ rest)))) later

  whole_name : (front rest : List ℕ) (c : ℕ) → finite.get table (front ++ 59 ∷ []) ≡ Some (c ∷ []) →
      list_any (λ c. c == semicolon) (front ++ 59 ∷ []) ≡ true →
      named table ((front ++ 59 ∷ []) ++ rest) ≡ Some (found c rest)
  whole_name front rest c h k = passed [] (front ++ 59 ∷ []) rest (found c rest) (closed_name front rest c h k)

  is_number : (c n : ℕ) → (c == n) ≡ true → n ≡ c
  is_number c n h = grind (arith, nat_tests)

  is_quote : (in_value : Bool) (c : ℕ) → (in_value && c == 34) ≡ true → 34 ≡ c
  is_quote true c h = is_number c 34 h
  is_quote false c h = cc

  abbrev escape_by : (b38 b160 b60 b62 b34 : Bool) → ℕ → List ℕ
  escape_by b38 b160 b60 b62 b34 c = if b38 then codes "&amp;"
      else if b160 then codes "&nbsp;"
      else if b60 then codes "&lt;"
      else if b62 then codes "&gt;"
      else if b34 then codes "&quot;"
      else c ∷ []

  written_by : (in_value : Bool) (c : ℕ) (b38 b160 b60 b62 b34 : Bool) → (c == 38) ≡ b38 → (c == 160) ≡ b160 →
      (c == 60) ≡ b60 → (c == 62) ≡ b62 → (in_value && c == 34) ≡ b34 →
      Written table c (escape_by b38 b160 b60 b62 b34 c)
  written_by v c true b160 b60 b62 b34 p q r s t =
      subst (λ d. Written table d (codes "&amp;")) (is_number c 38 p)
      (by_name (codes "amp;") (λ rest. refl) (λ rest. whole_name (codes "amp") rest 38 knows.ampersand refl))
  written_by v c false true b60 b62 b34 p q r s t =
      subst (λ d. Written table d (codes "&nbsp;")) (is_number c 160 q)
      (by_name (codes "nbsp;") (λ rest. refl) (λ rest. whole_name (codes "nbsp") rest 160 knows.space refl))
  written_by v c false false true b62 b34 p q r s t =
      subst (λ d. Written table d (codes "&lt;")) (is_number c 60 r)
      (by_name (codes "lt;") (λ rest. refl) (λ rest. whole_name (codes "lt") rest 60 knows.less refl))
  written_by v c false false false true b34 p q r s t =
      subst (λ d. Written table d (codes "&gt;")) (is_number c 62 s)
      (by_name (codes "gt;") (λ rest. refl) (λ rest. whole_name (codes "gt") rest 62 knows.greater refl))
  written_by v c false false false false true p q r s t =
      subst (λ d. Written table d (codes "&quot;")) (is_quote v c t)
      (by_name (codes "quot;") (λ rest. refl) (λ rest. whole_name (codes "quot") rest 34 knows.quote refl))
  written_by v c false false false false false p q r s t = as_itself p r

  pub written : (in_value : Bool) (c : ℕ) → Written table c (escaped_character in_value c)
  written v c =
      written_by v c (c == 38) (c == 160) (c == 60) (c == 62) (v && c == 34) refl refl refl refl refl
