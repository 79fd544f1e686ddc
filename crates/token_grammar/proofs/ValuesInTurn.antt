-- The value of an attribute is its characters and references in turn.
use Rattle.std.proofs.Common.{◌≡◌, ◌≤◌, ◌==◌, [], ◌∷◌, ◌++◌, ◌∙◌, Bool, IfSome, List, None, Option, Some, ap, arith}
use Rattle.std.proofs.Common.{cond, false, length, refl, subst, suc, sym, true, zero, ℕ}
use Rattle.std.proofs.lemmas.Bool.{eqb-true, eq-eqb, false≢true}
use Rattle.lex_base.specs.References.{References}
use Rattle.token_grammar.specs.Characters.{shown}
use Rattle.token_grammar.specs.References.{Found, reference_in_value, value_from, value_of, value_step}
use Rattle.token_grammar.specs.TagLaws.{IsValue, ends, character, refers}
use Rattle.token_grammar.proofs.ValueLemmas.{within_value}

module _ (table : References) where
  -- the rest of a value, where any number that is large enough gives it
  abbrev IsRead : ℕ → Type 0
  IsRead n = (cs : List ℕ) → length cs ≤ n → IsValue table cs (value_from table n cs)

  is_step : (n c : ℕ) (cs : List ℕ) (b : Bool) (o : Option Found) → (c == 38) ≡ b → reference_in_value table cs ≡ o →
      IfSome o (λ f. length f.rest ≤ length cs) → length cs ≤ n → IsRead n
      → IsValue table (c ∷ cs) (value_step c cs (cond b o None) (value_from table n))
  is_step n c cs false o e r short le further =
      character c cs (value_from table n cs) (λ same. absurd (false≢true (sym e ∙ eq-eqb c 38 same))) (further cs le)
  is_step n c cs true None e r short le further = character c cs (value_from table n cs) (λ same. r) (further cs le)
  is_step n c cs true (Some found) e r short le further =
      subst (λ d. IsValue table (d ∷ cs) (found.characters ++ value_from table n found.rest)) (sym (eqb-true c 38 e))
      (refers cs found.characters found.rest (value_from table n found.rest) found.closed r
      (further found.rest (omega (arith, short, le))))

  is_from : (n : ℕ) → IsRead n
  is_from zero [] le = ends
  is_from zero (c ∷ cs) le = absurd (omega arith)
  is_from (suc n) [] le = ends
  is_from (suc n) (c ∷ cs) le =
      is_step n c cs (c == 38) (reference_in_value table cs) refl refl (within_value table cs) (omega arith) (is_from n)

  -- a step is known by what stands after its character
  found_there : (b : Bool) (c : ℕ) (cs : List ℕ) → (c == 38) ≡ b → (c ≡ 38 → reference_in_value table cs ≡ None) →
      cond b (reference_in_value table cs) None ≡ None
  found_there true c cs e h = h (eqb-true c 38 e)
  found_there false c cs e h = refl

  nothing_left : (n : ℕ) → [] ≡ value_from table n []
  nothing_left zero = refl
  nothing_left (suc n) = refl

  only_from : (cs value : List ℕ) → IsValue table cs value → (n : ℕ) → length cs ≤ n → value ≡ value_from table n cs
  only_from _ _ ends n le = nothing_left n
  only_from _ _ (character c cs value none h) zero le = absurd (omega arith)
  only_from _ _ (character c cs value none h) (suc n) le =
      ap (λ l. shown c ∷ l) (only_from cs value h n (omega arith))
      ∙ ap (λ o. value_step c cs o (value_from table n)) (sym (found_there (c == 38) c cs refl none))
  only_from _ _ (refers cs characters rest value closed found h) zero le = absurd (omega arith)
  only_from _ _ (refers cs characters rest value closed found h) (suc n) le =
      let short : length rest ≤ length cs =
      subst (λ (o : Option Found). IfSome o (λ f. length f.rest ≤ length cs)) found (within_value table cs) in
      ap (λ l. characters ++ l) (only_from rest value h n (omega arith))
      ∙ ap (λ o. value_step 38 cs o (value_from table n)) (sym found)

  pub value_is : (cs : List ℕ) → IsValue table cs (value_of table cs)
  value_is cs = is_from (length cs) cs (omega arith)

  pub value_only : (cs value : List ℕ) → IsValue table cs value → value ≡ value_of table cs
  value_only cs value h = only_from cs value h (length cs) (omega arith)
