-- Lists in the strict order of their keys: what a search finds in one, and what an edit at that place makes of it.
use Rattle.std.proofs.Common.{◌≡◌, ◌≢◌, ◌+◌, ◌<◌, ◌≤◌, [], ◌∷◌, ◌∙◌, Bool, Err, List, None, Ok, Ordering, Result, Some}
use Rattle.std.proofs.Common.{T, ap, arith, cond, false, get_or, inl, inr, length, map, refl, set, subst, suc, sym}
use Rattle.std.proofs.Common.{true, zero, ℕ}
use Rattle.std.specs.declared.cmp.Ordering.TheVariants.{Less, Equal, Greater}
use Rattle.std.proofs.lemmas.Bool.{and_parts, cases_lt}
use Rattle.std.specs.List.{insert}
use Rattle.std.specs.List.Sorted.{IsBinarySearchResult, IsSearchInRange, IsNonDecreasingBy}
use Rattle.std.specs.Ordering.{is_lt, is_eq, ordering_index, ordering_reverse}
use Rattle.std.specs.Cmp.{IsTotalOrder, tied_back}
use Rattle.std.specs.FinMap as finite
use Rattle.std.specs.FinMap.Entries.{below_all, is_sorted-put}

pub T-from_true : (b : Bool) → b ≡ true → T b
T-from_true b e = subst T (sym e) tt

pub true_from_T : (b : Bool) → T b → b ≡ true
true_from_T true h = refl
true_from_T false h = absurd h

pub less : (r : Ordering) → is_lt r ≡ true → r ≡ Less
less Less e = refl
less Equal e = cc
less Greater e = cc

pub equal : (r : Ordering) → is_eq r ≡ true → r ≡ Equal
equal Less e = cc
equal Equal e = refl
equal Greater e = cc

module _ {K : Type 0} {R : K → K → Ordering} (o : IsTotalOrder R) where
  pub greater_back : (x y : K) → R x y ≡ Less → R y x ≡ Greater
  greater_back x y e = o.antisymm y x ∙ ap ordering_reverse e

  pub less_back : (x y : K) → R x y ≡ Greater → R y x ≡ Less
  less_back x y e = o.antisymm y x ∙ ap ordering_reverse e

  -- q ties with y, and x is below y
  pub above_tied : (x y q : K) → R x y ≡ Less → R y q ≡ Equal → R q x ≡ Greater
  above_tied x y q p e = sym (o.congr y q x e) ∙ greater_back x y p

  index_cases : (x y q : K) → R x y ≡ Less → (r : Ordering) → R x q ≡ r → ordering_index (R x q)
      ≤ ordering_index (R y q)
  index_cases x y q p Less e = rw e (omega arith)
  index_cases x y q p Equal e =
      let g : R y q ≡ Greater = greater_back q y (sym (o.congr x q y e) ∙ p) in
      rw (e, g) (omega arith)
  index_cases x y q p Greater e =
      let g : R y q ≡ Greater = greater_back q y (o.trans q x y (less_back x q e) p) in
      rw (e, g) (omega arith)

  pub index_rises : (x y q : K) → R x y ≡ Less → ordering_index (R x q) ≤ ordering_index (R y q)
  index_rises x y q p = index_cases x y q p (R x q) refl

  module _ {S X : Type 0} (f : S → K × X) where
    abbrev pub Rises : List S → Type 0
    Rises ss = finite.is_sorted R (map f ss) ≡ true

    -- the key of the element at a place
    abbrev pub key : List S → ℕ → S → K
    key ss i d = (f (get_or ss i d)).0

    -- the keys before a place are below q, and those from it on are not
    pub record IsPlaceOf (ss : List S) (q : K) (i : ℕ) : Type 0 where
      pub before : (k : ℕ) (d : S) → k < i → R (key ss k d) q ≡ Less
      pub trailing : (k : ℕ) (d : S) → i ≤ k → k < length ss → R (key ss k d) q ≢ Less

    -- the keys before a place are not above q, and those from it on are
    pub record IsPlaceAfter (ss : List S) (q : K) (i : ℕ) : Type 0 where
      pub before : (k : ℕ) (d : S) → k < i → R (key ss k d) q ≢ Greater
      pub trailing : (k : ℕ) (d : S) → i ≤ k → k < length ss → R (key ss k d) q ≡ Greater

    below_at : (x : K) (ss : List S) (i : ℕ) (d : S) → below_all R x (map f ss) ≡ true → i < length ss →
        R x (key ss i d) ≡ Less
    below_at x [] i d b lt = absurd (omega arith)
    below_at x (s ∷ ss) zero d b lt = less _ (and_parts _ _ b).0
    below_at x (s ∷ ss) (suc i) d b lt = below_at x ss i d (and_parts _ _ b).1 (omega arith)

    sorted_at : (ss : List S) (i j : ℕ) (d : S) → Rises ss → i < j → j < length ss → R (key ss i d) (key ss j d) ≡ Less
    sorted_at [] i j d h lt within = absurd (omega arith)
    sorted_at (s ∷ ss) i zero d h lt within = absurd (omega arith)
    sorted_at (s ∷ ss) zero (suc j) d h lt within = below_at (f s).0 ss j d (and_parts _ _ h).0 (omega arith)
    sorted_at (s ∷ ss) (suc i) (suc j) d h lt within =
        sorted_at ss i j d (and_parts _ _ h).1 (omega arith) (omega arith)

    -- the answers of a comparison with q rise along the list, as a binary search asks
    indexes_rise : (ss : List S) (q : K) → Rises ss → IsNonDecreasingBy (λ s. ordering_index (R (f s).0 q)) ss
    indexes_rise [] q h i j d le lt = absurd (omega arith)
    indexes_rise (s ∷ ss) q h zero zero d le lt = omega arith
    indexes_rise (s ∷ ss) q h zero (suc j) d le lt =
        index_rises (f s).0 (key ss j d) q (below_at (f s).0 ss j d (and_parts _ _ h).0 (omega arith))
    indexes_rise (s ∷ ss) q h (suc i) zero d le lt = absurd (omega arith)
    indexes_rise (s ∷ ss) q h (suc i) (suc j) d le lt =
        indexes_rise ss q (and_parts _ _ h).1 i j d (omega arith) (omega arith)

    pub find_at : (ss : List S) (q : K) (i : ℕ) (d : S) → Rises ss → i < length ss → R (key ss i d) q ≡ Equal →
        finite.find R q (map f ss) ≡ Some (f (get_or ss i d)).1
    find_at [] q i d h lt e = absurd (omega arith)
    find_at (s ∷ ss) q zero d h lt e =
        ap (λ r. cond (is_eq r) (Some (f s).1) (finite.find R q (map f ss))) (tied_back o _ _ e)
    find_at (s ∷ ss) q (suc i) d h lt e =
        ap (λ r. cond (is_eq r) (Some (f s).1) (finite.find R q (map f ss)))
        (above_tied (f s).0 _ q (below_at (f s).0 ss i d (and_parts _ _ h).0 (omega arith)) e)
        ∙ find_at ss q i d (and_parts _ _ h).1 (omega arith) e

    find_none : (ss : List S) (q : K) → ((i : ℕ) (d : S) → i < length ss → is_eq (R q (key ss i d)) ≡ false) →
        finite.find R q (map f ss) ≡ None
    find_none [] q h = refl
    find_none (s ∷ ss) q h =
        ap (λ b. cond b (Some (f s).1) (finite.find R q (map f ss))) (h 0 s (omega arith))
        ∙ find_none ss q (λ i d lt. h (suc i) d (omega arith))

    -- to set what stands at the key is to put it there
    put_at : (ss : List S) (q : K) (v : X) (s' : S) (i : ℕ) (d : S) → Rises ss → i < length ss →
        R (key ss i d) q ≡ Equal → f s' ≡ (key ss i d, v)
        → finite.put R q v (map f ss) ≡ map f (set ss i s')
    put_at [] q v s' i d h lt e same = absurd (omega arith)
    put_at (s ∷ ss) q v s' zero d h lt e same = rw (tied_back o _ _ e) (ap (λ e. e ∷ map f ss) (sym same))
    put_at (s ∷ ss) q v s' (suc i) d h lt e same =
        let past = above_tied (f s).0 (key ss i d) q (below_at (f s).0 ss i d (and_parts _ _ h).0 (omega arith)) e in
        rw past (ap (λ es. f s ∷ es) (put_at ss q v s' i d (and_parts _ _ h).1 (omega arith) e same))

    -- to insert before the first greater key is to put it there
    put_gap : (ss : List S) (q : K) (v : X) (s' : S) (i : ℕ) → ((k : ℕ) (d : S) → k < i → R (key ss k d) q ≡ Less) →
        ((k : ℕ) (d : S) → i ≤ k → k < length ss → R (key ss k d) q ≡ Greater)
        → i ≤ length ss → f s' ≡ (q, v) → finite.put R q v (map f ss) ≡ map f (insert ss i s')
    put_gap [] q v s' zero before trailing le same = ap (λ e. e ∷ []) (sym same)
    put_gap [] q v s' (suc i) before trailing le same = absurd (omega arith)
    put_gap (s ∷ ss) q v s' zero before trailing le same =
        let here = less_back (f s).0 q (trailing 0 s (omega arith) (omega arith)) in
        rw here (ap (λ e. e ∷ f s ∷ map f ss) (sym same))
    put_gap (s ∷ ss) q v s' (suc i) before trailing le same =
        let past = greater_back (f s).0 q (before 0 s (omega arith)) in
        rw past (ap (λ es. f s ∷ es) (put_gap ss q v s' i (λ k d lt. before (suc k) d (omega arith))
        (λ k d from lt. trailing (suc k) d (omega arith) (omega arith)) (omega arith) same))

    -- what a binary search that found the key says
    pub find_found : (ss : List S) (q : K) (i : ℕ) (d : S) → Rises ss → IsSearchInRange (Ok i) (length ss) →
        IsBinarySearchResult (λ s. R (f s).0 q) ss (Ok i) → finite.find R q (map f ss) ≡ Some (f (get_or ss i d)).1
    find_found ss q i d h lt found = find_at ss q i d h lt (found d)

    pub put_found : (ss : List S) (q : K) (v : X) (s' : S) (i : ℕ) (d : S) → Rises ss →
        IsSearchInRange (Ok i) (length ss) → IsBinarySearchResult (λ s. R (f s).0 q) ss (Ok i) → f s' ≡ (key ss i d, v)
        → finite.put R q v (map f ss) ≡ map f (set ss i s')
    put_found ss q v s' i d h lt found same = put_at ss q v s' i d h lt (found d) same

    -- and one that did not
    pub find_missed : (ss : List S) (q : K) (i : ℕ) → Rises ss → IsBinarySearchResult (λ s. R (f s).0 q) ss (Err i) →
        finite.find R q (map f ss) ≡ None
    find_missed ss q i h parted =
        let sides = parted (indexes_rise ss q h) in
        find_none ss q (λ k d lt. elim (cases_lt k i) [
          | inl below ↦ ap is_eq (greater_back (key ss k d) q (sides.0 k d (omega arith) below))
          | inr from ↦ ap is_eq (less_back (key ss k d) q (sides.1 k d from lt))
        ])

    pub put_missed : (ss : List S) (q : K) (v : X) (s' : S) (i : ℕ) → Rises ss → IsSearchInRange (Err i) (length ss) →
        IsBinarySearchResult (λ s. R (f s).0 q) ss (Err i) → f s' ≡ (q, v)
        → finite.put R q v (map f ss) ≡ map f (insert ss i s')
    put_missed ss q v s' i h le parted same =
        let sides = parted (indexes_rise ss q h) in
        put_gap ss q v s' i (λ k d lt. sides.0 k d (omega arith) lt) sides.1 le same

    -- the place that a search answers, found or not
    placed_found : (ss : List S) (q : K) (i : ℕ) → Rises ss → i < length ss → ((d : S) → R (key ss i d) q ≡ Equal) →
        IsPlaceOf ss q i
    placed_found ss q i h lt found = record {
      before = λ k d below. less_back q (key ss k d)
          (above_tied (key ss k d) (key ss i d) q (sorted_at ss k i d h below lt) (found d));
      trailing = λ k d from within is. let up = indexes_rise ss q h i k d from within in let one : ordering_index (R (key ss i d) q) ≡ 1 = ap ordering_index (found d) in let none : ordering_index (R (key ss k d) q) ≡ 0 = ap ordering_index is in omega arith;
    }

    placed_missed : (ss : List S) (q : K) (i : ℕ) → Rises ss → IsBinarySearchResult (λ s. R (f s).0 q) ss (Err i) →
        IsPlaceOf ss q i
    placed_missed ss q i h parted =
        let sides = parted (indexes_rise ss q h) in
        record {
          before = λ k d below. sides.0 k d (omega arith) below;
          trailing = λ k d from within is. let g = sides.1 k d from within in let e : Less ≡ Greater = sym is ∙ g in cc;
        }

    abbrev pub place_in : Result ℕ ℕ → ℕ
    place_in (Ok i) = i
    place_in (Err i) = i

    pub placed : (ss : List S) (q : K) (r : Result ℕ ℕ) → Rises ss → IsSearchInRange r (length ss) →
        IsBinarySearchResult (λ s. R (f s).0 q) ss r → IsPlaceOf ss q (place_in r)
    placed ss q (Ok i) h lt found = placed_found ss q i h lt found
    placed ss q (Err i) h le parted = placed_missed ss q i h parted

    -- the place after the one that a search answers
    after_found : (ss : List S) (q : K) (i : ℕ) → Rises ss → i < length ss → ((d : S) → R (key ss i d) q ≡ Equal) →
        IsPlaceAfter ss q (i + 1)
    after_found ss q i h lt found = record {
      before = λ k d below is. let up = indexes_rise ss q h k i d (omega arith) lt in let one : ordering_index (R (key ss i d) q) ≡ 1 = ap ordering_index (found d) in let two : ordering_index (R (key ss k d) q) ≡ 2 = ap ordering_index is in absurd (omega arith);
      trailing = λ k d from within. greater_back q (key ss k d)
          (sym (o.congr (key ss i d) q (key ss k d) (found d)) ∙ sorted_at ss i k d h (omega arith) within);
    }

    after_missed : (ss : List S) (q : K) (i : ℕ) → Rises ss → IsBinarySearchResult (λ s. R (f s).0 q) ss (Err i) →
        IsPlaceAfter ss q i
    after_missed ss q i h parted =
        let sides = parted (indexes_rise ss q h) in
        record {
          before = λ k d below is. let g = sides.0 k d (omega arith) below in let e : Less ≡ Greater = sym g ∙ is in cc;
          trailing = λ k d from within. sides.1 k d from within;
        }

    abbrev pub place_after : Result ℕ ℕ → ℕ
    place_after (Ok i) = i + 1
    place_after (Err i) = i

    pub placed_after : (ss : List S) (q : K) (r : Result ℕ ℕ) → Rises ss → IsSearchInRange r (length ss) →
        IsBinarySearchResult (λ s. R (f s).0 q) ss r → IsPlaceAfter ss q (place_after r)
    placed_after ss q (Ok i) h lt found = after_found ss q i h lt found
    placed_after ss q (Err i) h le parted = after_missed ss q i h parted

  -- the map of a list whose keys rise
  pub get_sorted : {X : Type 0} (es : List (K × X)) (q : K) → finite.is_sorted R es ≡ true →
      finite.get (finite.from_sorted {R = R} es) q ≡ finite.find R q es
  get_sorted es q h = finite.get-from_sorted R es q (T-from_true _ h)

  pub put_rises : {X : Type 0} (old new : List (K × X)) (k : K) (v : X) → finite.is_sorted R old ≡ true →
      finite.put R k v old ≡ new → finite.is_sorted R new ≡ true
  put_rises old new k v h e =
      true_from_T _ (subst (λ es. T (finite.is_sorted R es)) e (is_sorted-put R o k v old (T-from_true _ h)))

  pub put_inserts : {X : Type 0} (old new : List (K × X)) (k : K) (v : X) → finite.is_sorted R old ≡ true →
      finite.put R k v old ≡ new
      → finite.from_sorted {R = R} new ≡ finite.insert (finite.from_sorted {R = R} old) k v
  put_inserts old new k v h e =
      finite.same_entries_map _ _
      (finite.entries-from_sorted R new (T-from_true _ (put_rises old new k v h e)) ∙ sym e
      ∙ sym (finite.entries-insert o (finite.from_sorted {R = R} old) k v ∙ ap (finite.put R k v)
      (finite.entries-from_sorted R old (T-from_true _ h))))
