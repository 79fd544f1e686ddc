-- That keys are totally ordered.
use Rattle.std.proofs.Common.{◌≡◌, [], ◌∷◌, ◌∙◌, Bool, Equal, Greater, Less, List, Ordering, ap, arith, false, length}
use Rattle.std.proofs.Common.{refl, sym, true, ℕ}
use Rattle.std.specs.Prelude.{◌==◌, ◌||◌, ◌&&◌, cond, nat_lt}
use Rattle.std.specs.Ordering.{is_lt, is_gt, ordering_reverse, ordering_then, nat_cmp}
use Rattle.std.specs.Cmp.Lexicographic.{slice_cmp, nat_list_cmp_total}
use Rattle.std.proofs.lemmas.Cmp.{upto}
use Rattle.dom_styles.specs.declared.cascade.Declared.{Declared}
use Rattle.dom_styles.specs.Keys.{key, is_less, is_before}

first_differs : (j k : ℕ) (o : Ordering)
    → (nat_lt j k || (j == k && is_lt o)) ≡ is_lt (ordering_then (nat_cmp j k) o)
first_differs j k o = decided (nat_lt j k) (j == k)
  where
    decided : (less same : Bool)
        → (less || (same && is_lt o)) ≡ is_lt (ordering_then (cond less Less (cond same Equal Greater)) o)
    decided true same = refl
    decided false true = refl
    decided false false = refl

pub less_by_cmp : (js ks : List ℕ) → length js ≡ length ks → is_less js ks ≡ is_lt (slice_cmp nat_cmp js ks)
less_by_cmp [] [] h = refl
less_by_cmp [] (k ∷ ks) h = absurd (omega (arith, h))
less_by_cmp (j ∷ js) [] h = absurd (omega (arith, h))
less_by_cmp (j ∷ js) (k ∷ ks) h =
    ap (λ less. nat_lt j k || (j == k && less)) (less_by_cmp js ks (omega (arith, h)))
    ∙ first_differs j k (slice_cmp nat_cmp js ks)

before_by_cmp : {S T : Type 0} (d : Declared S) (e : Declared T)
    → is_less (key d) (key e) ≡ is_lt (slice_cmp nat_cmp (key d) (key e))
before_by_cmp d e = less_by_cmp (key d) (key e) refl

turned : (o : Ordering) → is_lt o ≡ is_gt (ordering_reverse o)
turned Less = refl
turned Equal = refl
turned Greater = refl

-- not before is up to, the other way round
not_before : {S T : Type 0} (d : Declared S) (e : Declared T)
    → is_less (key d) (key e) ≡ is_gt (slice_cmp nat_cmp (key e) (key d))
not_before d e =
    before_by_cmp d e ∙ turned (slice_cmp nat_cmp (key d) (key e))
    ∙ sym (ap is_gt (nat_list_cmp_total.antisymm (key e) (key d)))

pub not_before_two : {T : Type 0} (d e f : Declared T) → is_before d e ≡ false → is_before e f ≡ false
    → is_before d f ≡ false
not_before_two d e f h k =
    not_before d f
    ∙ upto nat_list_cmp_total (key f) (key e) (key d) (sym (not_before e f) ∙ k) (sym (not_before d e) ∙ h)

before_not : (o : Ordering) → is_lt o ≡ true → is_gt o ≡ false
before_not Less h = refl
before_not Equal h = refl
before_not Greater h = absurd (cc)

pub before_one_way : {T : Type 0} (d e : Declared T) → is_before d e ≡ true → is_before e d ≡ false
before_one_way d e h =
    not_before e d ∙ before_not (slice_cmp nat_cmp (key d) (key e)) (sym (before_by_cmp d e) ∙ h)
