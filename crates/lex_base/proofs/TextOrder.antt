-- Beginnings of texts in the order of texts.
use Rattle.std.proofs.Common.{◌≡◌, ◌≢◌, ◌<◌, [], ◌∷◌, ◌++◌, ◌∙◌, Bool, IsSome, List, Ordering, Some, ap, append-nil}
use Rattle.std.proofs.Common.{arith, cond, false, length, map, refl, subst, suc, sym, true, zero, ℕ}
use Rattle.std.specs.declared.cmp.Ordering.TheVariants.{Less, Equal, Greater}
use Rattle.std.proofs.lemmas.Bool.{and_parts}
use Rattle.std.specs.Ordering.{is_eq, nat_cmp, ordering_then, ordering_reverse}
use Rattle.std.specs.Cmp.{nat_cmp_total, tied_itself}
use Rattle.std.specs.Cmp.Lexicographic.{slice_cmp, nat_list_cmp_total}
use Rattle.std.specs.FinMap as finite
use Rattle.std.specs.FinMap.Entries.{below_all}
use Rattle.lex_base.proofs.SortedEntries.{IsPlaceAfter, IsPlaceOf, Rises, equal, greater_back, key, less, less_back}

abbrev pub order : List ℕ → List ℕ → Ordering
order = slice_cmp nat_cmp

-- what stands between a text and a longer one begins with it
between_first : (c d : ℕ) (t more m : List ℕ) (r : Ordering) → nat_cmp c d ≡ r →
    ordering_then (nat_cmp c d) (order t m) ≢ Greater → ordering_then (nat_cmp d c) (order m (t ++ more)) ≢ Greater
    → (order t m ≢ Greater → order m (t ++ more) ≢ Greater → (rest : List ℕ) × (m ≡ t ++ rest)) →
    (rest : List ℕ) × (d ∷ m ≡ c ∷ (t ++ rest))
between_first c d t more m Less e low high tails =
    absurd (high (ap (λ r. ordering_then r (order m (t ++ more))) (nat_cmp_total.antisymm d c ∙ ap ordering_reverse e)))
between_first c d t more m Greater e low high tails = absurd (low (ap (λ r. ordering_then r (order t m)) e))
between_first c d t more m Equal e low high tails =
    let same : c ≡ d = finite.nat_cmp-IsAntisymmetric c d e in
    let back : nat_cmp d c ≡ Equal = nat_cmp_total.antisymm d c ∙ ap ordering_reverse e in
    let found =
    tails (λ g. low (ap (λ r. ordering_then r (order t m)) e ∙ g))
    (λ g. high (ap (λ r. ordering_then r (order m (t ++ more))) back ∙ g)) in
    (found.0, λ i. sym same i ∷ found.1 i)

pub between : (t more m : List ℕ) → order t m ≢ Greater → order m (t ++ more) ≢ Greater →
    (rest : List ℕ) × (m ≡ t ++ rest)
between [] more m low high = (m, refl)
between (c ∷ t) more [] low high = absurd (low refl)
between (c ∷ t) more (d ∷ m) low high = between_first c d t more m (nat_cmp c d) refl low high (between t more m)

-- what is below a text is below a longer one
below_longer_first : (d c : ℕ) (m t more : List ℕ) (r : Ordering) → nat_cmp d c ≡ r →
    ordering_then (nat_cmp d c) (order m t) ≡ Less → (order m t ≡ Less → order m (t ++ more) ≡ Less) →
    ordering_then (nat_cmp d c) (order m (t ++ more)) ≡ Less
below_longer_first d c m t more Less e below tails = ap (λ r. ordering_then r (order m (t ++ more))) e
below_longer_first d c m t more Equal e below tails =
    ap (λ r. ordering_then r (order m (t ++ more))) e ∙ tails (sym (ap (λ r. ordering_then r (order m t)) e) ∙ below)
below_longer_first d c m t more Greater e below tails = let wrong : Greater ≡ Less = sym (ap (λ r. ordering_then r (order m t)) e) ∙ below in cc

pub below_longer : (m t more : List ℕ) → order m t ≡ Less → order m (t ++ more) ≡ Less
below_longer [] [] more e = cc
below_longer [] (c ∷ t) more e = refl
below_longer (d ∷ m) [] more e = cc
below_longer (d ∷ m) (c ∷ t) more e = below_longer_first d c m t more (nat_cmp d c) refl e (below_longer m t more)

-- a key that is found after x is above x
found_above : (x q : List ℕ) (es : List (List ℕ × List ℕ)) → below_all order x es ≡ true →
    IsSome (finite.find order q es) → order x q ≡ Less
found_above x q [] b found = cc
found_above x q (e ∷ es) b found = by (is_eq (order q e.0)) refl found (found_above x q es (and_parts _ _ b).1)
  where
    by : (t : Bool) → is_eq (order q e.0) ≡ t → IsSome (cond t (Some e.1) (finite.find order q es)) →
        (IsSome (finite.find order q es) → order x q ≡ Less) → order x q ≡ Less
    by true same _ _ =
        let same_key : q ≡ e.0 = finite.slice_cmp-IsAntisymmetric finite.nat_cmp-IsAntisymmetric q e.0 (equal _ same) in
        ap (order x) same_key ∙ less _ (and_parts _ _ b).0
    by false _ there tails = tails there

more_below : (n i : ℕ) → i < n → suc i < suc n
more_below n i lt = omega arith

-- The first key that is not below a text begins with it, if any key does.
module _ {S : Type 0} (f : S → List ℕ × List ℕ) where
  first_begins : (s : S) (ss : List S) (text more : List ℕ) (t : Bool) → is_eq (order (text ++ more) (f s).0) ≡ t →
      below_all order (f s).0 (map f ss) ≡ true → order (f s).0 text ≢ Less
      → IsSome (cond t (Some (f s).1) (finite.find order (text ++ more) (map f ss))) →
      (rest : List ℕ) × ((f s).0 ≡ text ++ rest)
  first_begins s ss text more true same b low found = (
    more,
    sym (finite.slice_cmp-IsAntisymmetric finite.nat_cmp-IsAntisymmetric (text ++ more) (f s).0
        (equal _ same)),
  )
  first_begins s ss text more false _ b low found =
      let above : order (f s).0 (text ++ more) ≡ Less = found_above (f s).0 (text ++ more) (map f ss) b found in
      between text more (f s).0 (λ g. low (less_back nat_list_cmp_total text (f s).0 g))
      (λ g. let wrong : Less ≡ Greater = sym above ∙ g in cc)

  pub place_begins : (ss : List S) (text more : List ℕ) (i : ℕ) → Rises nat_list_cmp_total f ss →
      IsPlaceOf nat_list_cmp_total f ss text i → IsSome (finite.find order (text ++ more) (map f ss))
      → (i < length ss) × ((d : S) → (rest : List ℕ) × (key nat_list_cmp_total f ss i d ≡ text ++ rest))
  place_begins [] text more i h place found = cc
  place_begins (s ∷ ss) text more zero h place found = (
    omega arith,
    λ d. first_begins s ss text more (is_eq (order (text ++ more) (f s).0)) refl (and_parts _ _ h).0
        (place.trailing 0 s (omega arith) (omega arith)) found,
  )
  place_begins (s ∷ ss) text more (suc i) h place found =
      let below = below_longer (f s).0 text more (place.before 0 s (omega arith)) in
      let past = greater_back nat_list_cmp_total (f s).0 (text ++ more) below in
      let later =
      subst (λ r. IsSome (cond (is_eq r) (Some (f s).1) (finite.find order (text ++ more) (map f ss)))) past
      found in
      let rest =
      place_begins ss text more i (and_parts _ _ h).1
      (record {
        before = λ k d lt. place.before (suc k) d (omega arith);
        trailing = λ k d from lt. place.trailing (suc k) d (omega arith) (omega arith);
      }) later in
      (more_below (length ss) i rest.0, rest.1)

-- what is not above a text is below a longer one
below_itself : (t : List ℕ) (c : ℕ) (more : List ℕ) → order t (t ++ c ∷ more) ≡ Less
below_itself [] c more = refl
below_itself (d ∷ t) c more =
    ap (λ r. ordering_then r (order t (t ++ c ∷ more))) (tied_itself nat_cmp_total d) ∙ below_itself t c more

below_further : (m t : List ℕ) (c : ℕ) (more : List ℕ) (r : Ordering) → order m t ≡ r → r ≢ Greater →
    order m (t ++ c ∷ more) ≡ Less
below_further m t c more Less e low = below_longer m t (c ∷ more) e
below_further m t c more Equal e low =
    let same : m ≡ t = finite.slice_cmp-IsAntisymmetric finite.nat_cmp-IsAntisymmetric m t e in
    ap (λ l. order l (t ++ c ∷ more)) same ∙ below_itself t c more
below_further m t c more Greater e low = absurd (low refl)

-- a longer text that is above begins with a further character
pub longer_than : (t m : List ℕ) (rest : List ℕ) → order m t ≡ Greater → m ≡ t ++ rest →
    (c : ℕ) × (more : List ℕ) × (rest ≡ c ∷ more)
longer_than t m [] above e =
    let same : m ≡ t = e ∙ append-nil t in
    let wrong : Greater ≡ Equal = sym above ∙ ap (order m) (sym same) ∙ tied_itself nat_list_cmp_total m in
    cc
longer_than t m (c ∷ more) above e = (c, more, refl)

-- The first key above a text begins with it, if any longer key does.
module _ {S : Type 0} (f : S → List ℕ × List ℕ) where
  pub place_longer : (ss : List S) (text : List ℕ) (c : ℕ) (more : List ℕ) (i : ℕ) → Rises nat_list_cmp_total f ss →
      IsPlaceAfter nat_list_cmp_total f ss text i → IsSome (finite.find order (text ++ c ∷ more) (map f ss))
      → (i < length ss) × ((d : S) → (rest : List ℕ) × (key nat_list_cmp_total f ss i d ≡ text ++ rest))
  place_longer [] text c more i h place found = cc
  place_longer (s ∷ ss) text c more zero h place found =
      let above = place.trailing 0 s (omega arith) (omega arith) in (
        omega arith,
        λ d. first_begins f s ss text (c ∷ more) (is_eq (order (text ++ c ∷ more) (f s).0)) refl
            (and_parts _ _ h).0 (λ low. let wrong : Less ≡ Greater = sym low ∙ above in cc) found,
      )
  place_longer (s ∷ ss) text c more (suc i) h place found =
      let below = below_further (f s).0 text c more _ refl (place.before 0 s (omega arith)) in
      let past = greater_back nat_list_cmp_total (f s).0 (text ++ c ∷ more) below in
      let later =
      subst (λ r. IsSome (cond (is_eq r) (Some (f s).1) (finite.find order (text ++ c ∷ more) (map f ss)))) past
      found in
      let rest =
      place_longer ss text c more i (and_parts _ _ h).1
      (record {
        before = λ k d lt. place.before (suc k) d (omega arith);
        trailing = λ k d from lt. place.trailing (suc k) d (omega arith) (omega arith);
      }) later in
      (more_below (length ss) i rest.0, rest.1)
