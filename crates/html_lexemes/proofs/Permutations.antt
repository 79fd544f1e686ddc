-- Lists in which each element stands equally often are permutations of one another.
use Rattle.std.proofs.Common.{◌≡◌, ◌+◌, ◌<◌, ◌&&◌, ◌==◌, [], ◌∷◌, ◌++◌, ◌∙◌, Bool, List, ap, arith, cond, false, inl}
use Rattle.std.proofs.Common.{inr, refl, subst, sym, true, ℕ}
use Rattle.std.specs.Bool.{Decides}
use Rattle.std.specs.List.{list_all}
use Rattle.std.specs.List.Sorted.{IsPermutation}
use Rattle.std.proofs.lemmas.Bool.{cases_lt, and_parts, cases_Bool}
use Rattle.std.proofs.lemmas.Bool.Decides.{nat_tests}
use Rattle.std.proofs.lemmas.List.Sums.{sum_by-cons, sum_by-append}
use Rattle.std.proofs.lemmas.List.Sorted.{IsPermutation-cons, IsPermutation-middle, IsPermutation-refl}
use Rattle.std.proofs.lemmas.List.Sorted.{IsPermutation-sym, IsPermutation-trans, sum_by-IsPermutation}
use Rattle.html_lexemes.specs.Counts.{count_of, stand_as_often}

module _ {A : Type 0} (equal : A → A → Bool) (decides : (a b : A) → Decides (equal a b) (a ≡ b)) where
  abbrev one : A → A → ℕ
  one x a = cond (equal x a) 1 0

  count-cons : (a x : A) (xs : List A) → count_of equal a (x ∷ xs) ≡ one x a + count_of equal a xs
  count-cons a x xs = sum_by-cons (λ y. one y a) x xs

  count-append : (a : A) (xs ys : List A) → count_of equal a (xs ++ ys) ≡ count_of equal a xs + count_of equal a ys
  count-append a xs ys = sum_by-append (λ y. one y a) xs ys

  one_self : (a : A) → one a a ≡ 1
  one_self a = ap (λ b. cond b 1 0) ((decides a a).1 refl)

  one_other : (x a : A) → equal x a ≡ false → one x a ≡ 0
  one_other x a e = ap (λ b. cond b 1 0) e

  -- what holds of all elements holds of one that stands there
  of_member : (p : A → Bool) (xs : List A) (a : A) → list_all p xs ≡ true → 0 < count_of equal a xs → p a ≡ true
  of_member p [] a h c = absurd (omega arith)
  of_member p (x ∷ xs) a h c =
      let q = and_parts _ _ h in
      elim (cases_Bool (equal x a)) [
        | inl e ↦ subst (λ y. p y ≡ true) ((decides x a).0 e) q.0
        | inr e ↦ of_member p xs a q.1 (omega (arith, count-cons a x xs, one_other x a e))
      ]

  same_count : (a : A) (xs ys : List A) → (0 < count_of equal a xs → count_of equal a xs ≡ count_of equal a ys) →
      (0 < count_of equal a ys → count_of equal a ys ≡ count_of equal a xs) → count_of equal a xs ≡ count_of equal a ys
  same_count a xs ys f g = elim (cases_lt 0 (count_of equal a xs)) [
    | inl h ↦ f h
    | inr h ↦ elim (cases_lt 0 (count_of equal a ys)) [ inl k ↦ sym (g k) | inr k ↦ omega arith ]
  ]

  record Split (a : A) (xs : List A) : Type 0 where
    front : List A
    back : List A
    is : xs ≡ front ++ a ∷ back

  split : (a : A) (xs : List A) → 0 < count_of equal a xs → Split a xs
  split a [] c = absurd (omega arith)
  split a (x ∷ xs) c = elim (cases_Bool (equal x a)) [
    | inl e ↦ record { front = []; back = xs; is = ap (λ y. y ∷ xs) ((decides x a).0 e) }
    | inr e ↦
        let s = split a xs (omega (arith, count-cons a x xs, one_other x a e)) in
        record { front = x ∷ s.front; back = s.back; is = ap (λ ys. x ∷ ys) s.is }
  ]

  count-split : (a z : A) (front back : List A) → count_of equal z (front ++ a ∷ back)
      ≡ one a z + count_of equal z (front ++ back)
  count-split a z front back =
      omega (arith, count-append z front (a ∷ back), count-cons z a back, count-append z front back)

  permuted : (xs ys : List A) → ((a : A) → count_of equal a xs ≡ count_of equal a ys) → IsPermutation xs ys
  permuted [] [] h = IsPermutation-refl []
  permuted [] (y ∷ ys) h = absurd (omega (arith, h y, count-cons y y ys, one_self y))
  permuted (x ∷ xs) ys h =
      let s = split x ys (omega (arith, h x, count-cons x x xs, one_self x)) in
      let rest =
      permuted xs (s.front ++ s.back) (λ a. omega (
        arith,
        h a,
        count-cons a x xs,
        ap (count_of equal a) s.is,
        count-split x a s.front s.back,
      )) in
      subst (IsPermutation (x ∷ xs)) (sym s.is)
      (IsPermutation-trans (x ∷ xs) (x ∷ (s.front ++ s.back)) (s.front ++ x ∷ s.back)
      (IsPermutation-cons x xs (s.front ++ s.back) rest)
      (IsPermutation-sym (s.front ++ x ∷ s.back) (x ∷ (s.front ++ s.back)) (IsPermutation-middle s.front x s.back)))

  pub permuted_from_counts : (xs ys : List A) → stand_as_often equal xs ys ≡ true → stand_as_often equal ys xs ≡ true →
      IsPermutation xs ys
  permuted_from_counts xs ys e f = permuted xs ys (λ a. same_count a xs ys
      (λ c. let t = of_member (λ b. count_of equal b xs == count_of equal b ys) xs a e c in grind (arith, nat_tests))
      (λ c. let t = of_member (λ b. count_of equal b ys == count_of equal b xs) ys a f c in grind (arith, nat_tests)))

  all_same : (ws xs ys : List A) → ((a : A) → count_of equal a xs ≡ count_of equal a ys) →
      list_all (λ a. count_of equal a xs == count_of equal a ys) ws ≡ true
  all_same [] xs ys h = refl
  all_same (w ∷ ws) xs ys h =
      let e : (count_of equal w xs == count_of equal w ys) ≡ true = let k = h w in grind (arith, nat_tests) in
      ap (λ b. b && list_all (λ a. count_of equal a xs == count_of equal a ys) ws) e ∙ all_same ws xs ys h

  pub counts_from_permuted : (xs ys : List A) → IsPermutation xs ys → stand_as_often equal xs ys ≡ true
  counts_from_permuted xs ys p = all_same xs xs ys (λ a. sym (sum_by-IsPermutation (λ y. one y a) xs ys p))
