-- A table of few names, computed: what is read with it is what is read with a search of its list.
use Rattle.std.proofs.Common.{◌≡◌, [], ◌∷◌, ◌++◌, ◌==◌, ◌∙◌, List, None, Option, Some, ap, cond, drop, length}
use Rattle.std.proofs.Common.{option_and_then, option_map, refl, reverse, suc, zero, ℕ}
use Rattle.std.proofs.lemmas.Cmp.{nat_list_cmp_total}
use Rattle.std.specs.Cmp.Lexicographic.{slice_cmp}
use Rattle.std.specs.FinMap as finite
use Rattle.std.specs.FinMap.{find, get-from_entries}
use Rattle.std.specs.Option.{option_or}
use Rattle.std.specs.Ordering.{nat_cmp}
use Rattle.token_grammar.proofs.NameLemmas.{named_as}
use Rattle.token_grammar.specs.Characters.{shown}
use Rattle.token_grammar.specs.References.{Found, after_number_sign, kept_in_value, named_from, reference}
use Rattle.token_grammar.specs.References.{reference_in_value, value_from, value_of, value_step}
use Rattle.test_grammar.specs.RowWords.{few, few_names}
use Rattle.token_grammar.specs.Slices.{begins}

abbrev looked_up : List ℕ → Option (List ℕ)
looked_up name = find (slice_cmp nat_cmp) name (reverse few_names)

known : (name : List ℕ) → finite.get few name ≡ looked_up name
known name = get-from_entries nat_list_cmp_total (reverse few_names) name

abbrev name_from : List ℕ → List ℕ → Option Found
name_from front [] = option_map (named_as front []) (looked_up front)
name_from front (c ∷ cs) =
    option_or (name_from (front ++ c ∷ []) cs) (option_map (named_as front (c ∷ cs)) (looked_up front))

same_name : (front cs : List ℕ) → named_from few front cs ≡ name_from front cs
same_name front [] = ap (option_map (named_as front [])) (known front)
same_name front (c ∷ cs) =
    ap (λ o. option_or o (option_map (named_as front (c ∷ cs)) (finite.get few front))) (same_name (front ++ c ∷ []) cs)
    ∙ ap (λ o. option_or (name_from (front ++ c ∷ []) cs) (option_map (named_as front (c ∷ cs)) o)) (known front)

abbrev pub reference_by : List ℕ → Option Found
reference_by cs = cond (begins (35 ∷ []) cs) (after_number_sign (drop 1 cs)) (name_from [] cs)

pub same_reference : (cs : List ℕ) → reference few cs ≡ reference_by cs
same_reference cs = ap (λ o. cond (begins (35 ∷ []) cs) (after_number_sign (drop 1 cs)) o) (same_name [] cs)

abbrev value_reference : List ℕ → Option Found
value_reference cs =
    cond (begins (35 ∷ []) cs) (after_number_sign (drop 1 cs)) (option_and_then kept_in_value (name_from [] cs))

same_value_reference : (cs : List ℕ) → reference_in_value few cs ≡ value_reference cs
same_value_reference cs =
    ap (λ o. cond (begins (35 ∷ []) cs) (after_number_sign (drop 1 cs)) (option_and_then kept_in_value o))
    (same_name [] cs)

abbrev value_by : ℕ → List ℕ → List ℕ
value_by zero cs = []
value_by (suc n) [] = []
value_by (suc n) (c ∷ cs) = value_step c cs (cond (c == 38) (value_reference cs) None) (value_by n)

same_step : (c : ℕ) (cs : List ℕ) (o : Option Found) (f g : List ℕ → List ℕ) → ((ds : List ℕ) → f ds ≡ g ds) →
    value_step c cs o f ≡ value_step c cs o g
same_step c cs None f g same = ap (λ l. shown c ∷ l) (same cs)
same_step c cs (Some found) f g same = ap (λ l. found.characters ++ l) (same found.rest)

same_from : (n : ℕ) (cs : List ℕ) → value_from few n cs ≡ value_by n cs
same_from zero cs = refl
same_from (suc n) [] = refl
same_from (suc n) (c ∷ cs) =
    ap (λ o. value_step c cs (cond (c == 38) o None) (value_from few n)) (same_value_reference cs)
    ∙ same_step c cs (cond (c == 38) (value_reference cs) None) (value_from few n) (value_by n) (same_from n)

pub same_value : (cs : List ℕ) → value_of few cs ≡ value_by (length cs) cs
same_value cs = same_from (length cs) cs
