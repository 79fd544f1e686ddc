-- A reference of the basic table is read as its character, whatever follows it.
use Rattle.std.proofs.Common.{◌≡◌, ◌<◌, ◌==◌, [], ◌∷◌, ◌++◌, ◌∙◌, Contains, List, None, Some, ap, append-nil}
use Rattle.std.proofs.Common.{append_assoc, arith, codes, refl, slice_index_or, subst₂, suc, sym, true, zero, ℕ}
use Rattle.std.specs.FinMap as finite
use Rattle.std.specs.List.{list_any}
use Rattle.std.specs.Option.{option_or}
use Rattle.std.specs.Prelude.{option_map}
use Rattle.document_laws.specs.Escaped.{KnowsEscapes}
use Rattle.token_grammar.specs.References.{Found, named, named_from, named_here, reference, semicolon}
use Rattle.lex_base.specs.References.{References, basic_references}

-- what holds of each basic reference, its name and its character
pub each_reference : (P : List ℕ → ℕ → Type 0) → P (codes "amp;") 38 → P (codes "lt;") 60 → P (codes "gt;") 62 →
    P (codes "quot;") 34 → P (codes "nbsp;") 160 → (name : List ℕ) (c : ℕ) →
    Contains basic_references (name, c ∷ []) → P name c
each_reference P amp lt gt quot nbsp name c h = at h.0 h.1 h.2 where
  same : (row : List ℕ) (d : ℕ) → P row d → ◌≡◌ {A = List ℕ × List ℕ} (row, d ∷ []) (name, c ∷ []) → P name c
  same row d p e =
      let names : row ≡ name = ap (λ (r : List ℕ × List ℕ). r.0) e in
      let values : d ∷ [] ≡ c ∷ [] = ap (λ (r : List ℕ × List ℕ). r.1) e in
      let value : d ≡ c = cc in
      subst₂ P names value p

  at : (k : ℕ) → k < 5 → slice_index_or basic_references k (name, c ∷ []) ≡ (name, c ∷ []) → P name c
  at zero inside e = same (codes "amp;") 38 amp e
  at (suc zero) inside e = same (codes "lt;") 60 lt e
  at (suc (suc zero)) inside e = same (codes "gt;") 62 gt e
  at (suc (suc (suc zero))) inside e = same (codes "quot;") 34 quot e
  at (suc (suc (suc (suc zero)))) inside e = same (codes "nbsp;") 160 nbsp e
  at (suc (suc (suc (suc (suc k))))) inside e = absurd (omega arith)

-- what is found after the `&` of a character
abbrev found : ℕ → List ℕ → Found
found c rest = record { characters = c ∷ []; closed = true; rest = rest }

-- what is found by a name, from the value that the table has for it
abbrev by_value : (front rest value : List ℕ) → Found
by_value front rest value =
    record { characters = value; closed = list_any (λ c. c == semicolon) front; rest = rest }

module _ (table : References) (knows : KnowsEscapes table) where
  -- no name goes on after a semicolon
  none_after : (front : List ℕ) (c : ℕ) (more cs : List ℕ) → named_from table (front ++ 59 ∷ c ∷ more) cs ≡ None
  none_after front c more [] =
      ap (option_map (by_value (front ++ 59 ∷ c ∷ more) []))
      (knows.ends front c more)
  none_after front c more (d ∷ cs) =
      let later : named_from table ((front ++ 59 ∷ c ∷ more) ++ d ∷ []) cs ≡ None =
      ap (λ f. named_from table f cs) (append_assoc front (59 ∷ c ∷ more) (d ∷ []))
      ∙ none_after front c (more ++ d ∷ []) cs in
      ap (λ o. option_or o (named_here table (front ++ 59 ∷ c ∷ more) (d ∷ cs))) later
      ∙ ap (option_map (by_value (front ++ 59 ∷ c ∷ more) (d ∷ cs)))
      (knows.ends front c more)

  -- a name that is read to its semicolon
  closed_here : (front rest : List ℕ) (c : ℕ) → finite.get table (front ++ 59 ∷ []) ≡ Some (c ∷ []) →
      list_any (λ c. c == semicolon) (front ++ 59 ∷ []) ≡ true →
      named_here table (front ++ 59 ∷ []) rest ≡ Some (found c rest)
  closed_here front rest c h k =
      ap (option_map (by_value (front ++ 59 ∷ []) rest)) h
      ∙ ap (λ b. Some (record { characters = c ∷ []; closed = b; rest = rest })) k

  closed_name : (front rest : List ℕ) (c : ℕ) → finite.get table (front ++ 59 ∷ []) ≡ Some (c ∷ []) →
      list_any (λ c. c == semicolon) (front ++ 59 ∷ []) ≡ true →
      named_from table (front ++ 59 ∷ []) rest ≡ Some (found c rest)
  closed_name front [] c h k = closed_here front [] c h k
  closed_name front (d ∷ rest) c h k =
      let later : named_from table ((front ++ 59 ∷ []) ++ d ∷ []) rest ≡ None =
      ap (λ f. named_from table f rest) (append_assoc front (59 ∷ []) (d ∷ [])) ∙ none_after front d [] rest in
      ap (λ o. option_or o (named_here table (front ++ 59 ∷ []) (d ∷ rest))) later ∙ closed_here front (d ∷ rest) c h k

  -- the longest name wins, whatever shorter ones the table has
  passed : (front name rest : List ℕ) (r : Found) → named_from table (front ++ name) rest ≡ Some r →
      named_from table front (name ++ rest) ≡ Some r
  passed front [] rest r h = ap (λ f. named_from table f rest) (sym (append-nil front)) ∙ h
  passed front (c ∷ name) rest r h =
      let later : named_from table (front ++ c ∷ []) (name ++ rest) ≡ Some r =
      passed (front ++ c ∷ []) name rest r
      (ap (λ f. named_from table f rest) (append_assoc front (c ∷ []) name) ∙ h) in
      ap (λ o. option_or o (named_here table front (c ∷ (name ++ rest)))) later

  whole_name : (front rest : List ℕ) (c : ℕ) → finite.get table (front ++ 59 ∷ []) ≡ Some (c ∷ []) →
      list_any (λ c. c == semicolon) (front ++ 59 ∷ []) ≡ true →
      named table ((front ++ 59 ∷ []) ++ rest) ≡ Some (found c rest)
  whole_name front rest c h k = passed [] (front ++ 59 ∷ []) rest (found c rest) (closed_name front rest c h k)

  pub reference_read : (rest name : List ℕ) (c : ℕ) → Contains basic_references (name, c ∷ []) →
      reference table (name ++ rest) ≡ Some (found c rest)
  reference_read rest = each_reference (λ name c. reference table (name ++ rest) ≡ Some (found c rest))
      (whole_name (codes "amp") rest 38 knows.ampersand refl)
      (whole_name (codes "lt") rest 60 knows.less refl)
      (whole_name (codes "gt") rest 62 knows.greater refl)
      (whole_name (codes "quot") rest 34 knows.quote refl)
      (whole_name (codes "nbsp") rest 160 knows.space refl)
