-- Where an open element stands among the others, in memory and on the stack.
use Rattle.std.proofs.Common.{◌≡◌, ◌+◌, ◌<◌, ◌==◌, ◌∙◌, [], ◌∷◌, ◌++◌, if◌then◌else◌, Bool, List, Some, ap, arith, drop}
use Rattle.std.proofs.Common.{false, inl, inr, length, map, option_map, refl, reverse, slice_get, slice_index_or}
use Rattle.std.proofs.Common.{slice_set, subst, suc, sym, take, true, zero, ℕ}
use Rattle.std.specs.List.{insert, remove}
use Rattle.std.proofs.lemmas.Bool.{eqb-true}
use Rattle.std.proofs.lemmas.Bool.Decides.{nat_tests}
use Rattle.std.proofs.lemmas.List.{append_assoc, map-append, reverse-append}
use Rattle.tree_forest.specs.Changes.{left_out}
use Rattle.tree_forest.specs.Forest.{is_in}
use Rattle.tree_forest.specs.Orders.{AreDistinct, IsIn}
use Rattle.tree_forest.specs.Places.{put_before}
use Rattle.tree_model.specs.Adoption.{replaced}
use Rattle.tree_model.specs.Building.{stack_of}
use Rattle.tree_model.specs.OpenAt.{IsFirstOpened, IsOpenAt}
use Rattle.tree_model.specs.Insertions.{root_of}
use Rattle.tree_model.specs.OpenElements.{farther, nearer}

pub stack_of_both : {H : Type 0} (number : H → ℕ) (front rest : List H) →
    stack_of number (front ++ rest) ≡ stack_of number rest ++ stack_of number front
stack_of_both number front rest =
    ap reverse (map-append number front rest) ∙ reverse-append (map number front) (map number rest)

pub split_at : {A : Type 0} (xs : List A) (k : ℕ) (d : A) → k < length xs →
    xs ≡ take k xs ++ slice_index_or xs k d ∷ drop (suc k) xs
split_at [] k d h = absurd (omega arith)
split_at (x ∷ xs) zero d h = refl
split_at (x ∷ xs) (suc k) d h = ap (λ v. x ∷ v) (split_at xs k d (omega arith))

drop_from : {A : Type 0} (xs : List A) (k : ℕ) (d : A) → k < length xs →
    drop k xs ≡ slice_index_or xs k d ∷ drop (suc k) xs
drop_from [] k d h = absurd (omega arith)
drop_from (x ∷ xs) zero d h = refl
drop_from (x ∷ xs) (suc k) d h = drop_from xs k d (omega arith)

-- an element that is none of some
if_false : (b u v : Bool) → (if b then true else u) ≡ false → (u ≡ false → v ≡ false) → (if b then true else v) ≡ false
if_false true u v e h = absurd (cc)
if_false false u v e h = h e

pub if_other : (b u : Bool) → (if b then true else u) ≡ false → b ≡ false
if_other true u e = absurd (cc)
if_other false u e = refl

pub none_after : (n m : ℕ) (ns : List ℕ) → is_in n ns ≡ false → (n == m) ≡ false → is_in n (ns ++ m ∷ []) ≡ false
none_after n m [] none other = ap (λ b. if b then true else false) other
none_after n m (k ∷ ns) none other =
    if_false (n == k) (is_in n ns) (is_in n (ns ++ m ∷ [])) none (λ rest. none_after n m ns rest other)

pub other_way : (n m : ℕ) → (n == m) ≡ false → (m == n) ≡ false
other_way n m e = grind (arith, nat_tests, e)

itself : (n : ℕ) → (n == n) ≡ true
itself n = grind (arith, nat_tests)

pub rest_false : (b u : Bool) → (if b then true else u) ≡ false → u ≡ false
rest_false true u e = absurd (cc)
rest_false false u e = e

-- a list that an element divides
pub nearer_of : (n : ℕ) (tops lows : List ℕ) → is_in n tops ≡ false → nearer n (tops ++ n ∷ lows) ≡ tops
nearer_of n [] lows none = ap (λ b. if b then [] else n ∷ nearer n lows) (itself n)
nearer_of n (m ∷ tops) lows none =
    ap (λ b. if b then [] else m ∷ nearer n (tops ++ n ∷ lows)) (other_way n m (if_other (n == m) (is_in n tops) none))
    ∙ ap (λ ms. m ∷ ms) (nearer_of n tops lows (rest_false (n == m) (is_in n tops) none))

pub farther_of : (n : ℕ) (tops lows : List ℕ) → is_in n tops ≡ false → farther n (tops ++ n ∷ lows) ≡ lows
farther_of n [] lows none = ap (λ b. if b then lows else farther n lows) (itself n)
farther_of n (m ∷ tops) lows none =
    ap (λ b. if b then tops ++ n ∷ lows else farther n (tops ++ n ∷ lows))
    (other_way n m (if_other (n == m) (is_in n tops) none))
    ∙ farther_of n tops lows (rest_false (n == m) (is_in n tops) none)

pub is_in_of : (n : ℕ) (tops lows : List ℕ) → is_in n (tops ++ n ∷ lows) ≡ true
is_in_of n [] lows = ap (λ b. if b then true else is_in n lows) (itself n)
is_in_of n (m ∷ tops) lows =
    ap (λ u. if n == m then true else u) (is_in_of n tops lows) ∙ either_true (n == m) where
      either_true : (b : Bool) → (if b then true else true) ≡ true
      either_true true = refl
      either_true false = refl

-- the stack around a place in memory
pub stack_around : {H : Type 0} (number : H → ℕ) (xs : List H) (k : ℕ) (x : H) → k < length xs →
    x ≡ slice_index_or xs k x →
    stack_of number xs ≡ stack_of number (drop (suc k) xs) ++ number x ∷ stack_of number (take k xs)
stack_around number xs k x within read =
    ap (stack_of number) (split_at xs k x within ∙ ap (λ v. take k xs ++ v ∷ drop (suc k) xs) (sym read))
    ∙ stack_of_both number (take k xs) (x ∷ drop (suc k) xs)
    ∙ ap (λ v. v ++ stack_of number (take k xs)) (stack_of_both number (x ∷ []) (drop (suc k) xs))
    ∙ append_assoc _ (number x ∷ []) (stack_of number (take k xs))

pub none_after_more : {H : Type 0} (number : H → ℕ) (n : ℕ) (xs : List H) (k : ℕ) (x : H) → k < length xs →
    x ≡ slice_index_or xs k x → (n == number x) ≡ false → is_in n (stack_of number (drop (suc k) xs)) ≡ false →
    is_in n (stack_of number (drop k xs)) ≡ false
none_after_more number n xs k x within read other none =
    ap (λ v. is_in n (stack_of number v)) (drop_from xs k x within ∙ ap (λ v. v ∷ drop (suc k) xs) (sym read))
    ∙ ap (is_in n) (stack_of_both number (x ∷ []) (drop (suc k) xs))
    ∙ none_after n (number x) (stack_of number (drop (suc k) xs)) none other

pub open_at : {H : Type 0} (number : H → ℕ) (n : ℕ) (xs : List H) (k : ℕ) (x : H) → k < length xs →
    x ≡ slice_index_or xs k x → number x ≡ n → is_in n (stack_of number (drop (suc k) xs)) ≡ false →
    IsOpenAt number n xs k
open_at number n xs k x within read is none =
    let tops = stack_of number (drop (suc k) xs) in
    let lows = stack_of number (take k xs) in
    let whole = stack_around number xs k x within read ∙ ap (λ m. tops ++ m ∷ lows) is in
    record {
      within = within;
      is_there = ap (is_in n) whole ∙ is_in_of n tops lows;
      before_it = sym (ap (farther n) whole ∙ farther_of n tops lows none);
      after_it = sym (ap (nearer n) whole ∙ nearer_of n tops lows none);
    }

-- an element that is taken off
out_of_none : (n : ℕ) (ns : List ℕ) → ¬ (IsIn n ns) → left_out n ns ≡ ns
out_of_none n [] none = refl
out_of_none n (m ∷ ns) none =
    ap (λ b. if b then left_out n ns else m ∷ left_out n ns) (not_equal n m (λ e. none (inl e)))
    ∙ ap (λ ms. m ∷ ms) (out_of_none n ns (λ i. none (inr i))) where
      not_equal : (n m : ℕ) → ¬ (n ≡ m) → (m == n) ≡ false
      not_equal n m h = grind (arith, nat_tests, h)

left_out_by : (b : Bool) (n m : ℕ) (ns : List ℕ) → (m == n) ≡ b → ¬ (IsIn m ns) →
    left_out n ns ≡ nearer n ns ++ farther n ns →
    (if b then left_out n ns else m ∷ left_out n ns)
    ≡ (if b then [] else m ∷ nearer n ns) ++ (if b then ns else farther n ns)
left_out_by true n m ns e none rest = out_of_none n ns (subst (λ k. ¬ (IsIn k ns)) (eqb-true m n e) none)
left_out_by false n m ns e none rest = ap (λ ms. m ∷ ms) rest

pub left_out_is : (n : ℕ) (ns : List ℕ) → AreDistinct ns → left_out n ns ≡ nearer n ns ++ farther n ns
left_out_is n [] distinct = refl
left_out_is n (m ∷ ns) distinct =
    left_out_by (m == n) n m ns refl distinct.0 (left_out_is n ns distinct.1)

pub left_out_none : (n : ℕ) (ns : List ℕ) → is_in n ns ≡ false → left_out n ns ≡ ns
left_out_none n [] none = refl
left_out_none n (m ∷ ns) none =
    ap (λ b. if b then left_out n ns else m ∷ left_out n ns) (other_way n m (if_other (n == m) (is_in n ns) none))
    ∙ ap (λ ms. m ∷ ms) (left_out_none n ns (rest_false (n == m) (is_in n ns) none))

pub taken_off_at : {H : Type 0} (number : H → ℕ) (n : ℕ) (xs : List H) (k : ℕ) → IsOpenAt number n xs k →
    AreDistinct (stack_of number xs) → stack_of number (remove xs k) ≡ left_out n (stack_of number xs)
taken_off_at number n xs k at distinct =
    stack_of_both number (take k xs) (drop (suc k) xs)
    ∙ ap (λ v. v ++ stack_of number (take k xs)) at.after_it
    ∙ ap (λ v. nearer n (stack_of number xs) ++ v) at.before_it
    ∙ sym (left_out_is n (stack_of number xs) distinct)

-- an element whose place another takes
changed_none : (n m : ℕ) (ns : List ℕ) → ¬ (IsIn n ns) → replaced n m ns ≡ ns
changed_none n m [] none = refl
changed_none n m (k ∷ ns) none =
    ap (λ b. (if b then m else k) ∷ replaced n m ns) (not_equal n k (λ e. none (inl e)))
    ∙ ap (λ ms. k ∷ ms) (changed_none n m ns (λ i. none (inr i))) where
      not_equal : (n k : ℕ) → ¬ (n ≡ k) → (k == n) ≡ false
      not_equal n k h = grind (arith, nat_tests, h)

pub replaced_none : (n m : ℕ) (ns : List ℕ) → is_in n ns ≡ false → replaced n m ns ≡ ns
replaced_none n m [] none = refl
replaced_none n m (k ∷ ns) none =
    ap (λ b. (if b then m else k) ∷ replaced n m ns) (other_way n k (if_other (n == k) (is_in n ns) none))
    ∙ ap (λ ms. k ∷ ms) (replaced_none n m ns (rest_false (n == k) (is_in n ns) none))

rest_true : (b u : Bool) → (if b then true else u) ≡ true → b ≡ false → u ≡ true
rest_true true u there e = absurd (cc)
rest_true false u there e = there

replaced_by : (b : Bool) (n m k : ℕ) (ns : List ℕ) → (k == n) ≡ b → ¬ (IsIn k ns) → is_in n (k ∷ ns) ≡ true →
    (is_in n ns ≡ true → replaced n m ns ≡ nearer n ns ++ m ∷ farther n ns) →
    (if b then m else k) ∷ replaced n m ns
    ≡ (if b then [] else k ∷ nearer n ns) ++ m ∷ (if b then ns else farther n ns)
replaced_by true n m k ns e none there rest =
    ap (λ ms. m ∷ ms) (changed_none n m ns (subst (λ j. ¬ (IsIn j ns)) (eqb-true k n e) none))
replaced_by false n m k ns e none there rest =
    ap (λ ms. k ∷ ms) (rest (rest_true (n == k) (is_in n ns) there (other_way k n e)))

pub replaced_is : (n m : ℕ) (ns : List ℕ) → AreDistinct ns → is_in n ns ≡ true →
    replaced n m ns ≡ nearer n ns ++ m ∷ farther n ns
replaced_is n m [] distinct there = absurd (cc)
replaced_is n m (k ∷ ns) distinct there =
    replaced_by (k == n) n m k ns refl distinct.0 there (replaced_is n m ns distinct.1)

set_split : {A : Type 0} (xs : List A) (k : ℕ) (y : A) → k < length xs →
    slice_set xs k y ≡ take k xs ++ y ∷ drop (suc k) xs
set_split [] k y h = absurd (omega arith)
set_split (x ∷ xs) zero y h = refl
set_split (x ∷ xs) (suc k) y h = ap (λ v. x ∷ v) (set_split xs k y (omega arith))

pub replaced_at : {H : Type 0} (number : H → ℕ) (n : ℕ) (xs : List H) (k : ℕ) (y : H) → IsOpenAt number n xs k →
    AreDistinct (stack_of number xs) →
    stack_of number (slice_set xs k y) ≡ replaced n (number y) (stack_of number xs)
replaced_at number n xs k y at distinct =
    let lows = stack_of number (take k xs) in
    ap (stack_of number) (set_split xs k y at.within)
    ∙ stack_of_both number (take k xs) (y ∷ drop (suc k) xs)
    ∙ ap (λ v. v ++ lows) (stack_of_both number (y ∷ []) (drop (suc k) xs))
    ∙ append_assoc _ (number y ∷ []) lows
    ∙ ap (λ v. v ++ number y ∷ lows) at.after_it
    ∙ ap (λ v. nearer n (stack_of number xs) ++ number y ∷ v) at.before_it
    ∙ sym (replaced_is n (number y) (stack_of number xs) distinct at.is_there)

-- an element that is put right below another
rest_there : (n m : ℕ) (ns : List ℕ) → (m == n) ≡ false → is_in n (m ∷ ns) ≡ true → is_in n ns ≡ true
rest_there n m ns e there = sym (ap (λ b. if b then true else is_in n ns) (other_way m n e)) ∙ there

divided_by : (b : Bool) (n m : ℕ) (ns : List ℕ) → (m == n) ≡ b → is_in n (m ∷ ns) ≡ true →
    (is_in n ns ≡ true → ns ≡ nearer n ns ++ n ∷ farther n ns) →
    m ∷ ns ≡ (if b then [] else m ∷ nearer n ns) ++ n ∷ (if b then ns else farther n ns)
divided_by true n m ns e there rest = ap (λ k. k ∷ ns) (eqb-true m n e)
divided_by false n m ns e there rest = ap (λ ms. m ∷ ms) (rest (rest_there n m ns e there))

pub divided : (n : ℕ) (ns : List ℕ) → is_in n ns ≡ true → ns ≡ nearer n ns ++ n ∷ farther n ns
divided n [] there = absurd (cc)
divided n (m ∷ ns) there = divided_by (m == n) n m ns refl there (divided n ns)

put_by : (b : Bool) (n c m : ℕ) (ns : List ℕ) → (m == n) ≡ b → is_in n (m ∷ ns) ≡ true →
    (is_in n ns ≡ true → put_before n c ns ≡ nearer n ns ++ c ∷ n ∷ farther n ns) →
    (if b then c ∷ m ∷ ns else m ∷ put_before n c ns)
    ≡ (if b then [] else m ∷ nearer n ns) ++ c ∷ n ∷ (if b then ns else farther n ns)
put_by true n c m ns e there rest = ap (λ k. c ∷ k ∷ ns) (eqb-true m n e)
put_by false n c m ns e there rest = ap (λ ms. m ∷ ms) (rest (rest_there n m ns e there))

pub put_before_is : (n c : ℕ) (ns : List ℕ) → is_in n ns ≡ true →
    put_before n c ns ≡ nearer n ns ++ c ∷ n ∷ farther n ns
put_before_is n c [] there = absurd (cc)
put_before_is n c (m ∷ ns) there = put_by (m == n) n c m ns refl there (put_before_is n c ns)

pub put_before_none : (n c : ℕ) (ns : List ℕ) → is_in n ns ≡ false → put_before n c ns ≡ ns
put_before_none n c [] none = refl
put_before_none n c (m ∷ ns) none =
    ap (λ b. if b then c ∷ m ∷ ns else m ∷ put_before n c ns) (other_way n m (if_other (n == m) (is_in n ns) none))
    ∙ ap (λ ms. m ∷ ms) (put_before_none n c ns (rest_false (n == m) (is_in n ns) none))

same_after : (xs ys zs : List ℕ) → xs ++ ys ≡ xs ++ zs → ys ≡ zs
same_after [] ys zs e = e
same_after (x ∷ xs) ys zs e = same_after xs ys zs (let t : xs ++ ys ≡ xs ++ zs = cc in t)

taken_and_dropped : {A : Type 0} (xs : List A) (k : ℕ) → xs ≡ take k xs ++ drop k xs
taken_and_dropped xs zero = refl
taken_and_dropped [] (suc k) = refl
taken_and_dropped (x ∷ xs) (suc k) = ap (λ v. x ∷ v) (taken_and_dropped xs k)

pub put_at : {H : Type 0} (number : H → ℕ) (n : ℕ) (xs : List H) (k : ℕ) (y : H) → IsOpenAt number n xs k →
    stack_of number (insert xs (k + 1) y) ≡ put_before n (number y) (stack_of number xs)
put_at number n xs k y at =
    let tops = stack_of number (drop (suc k) xs) in
    let up : stack_of number (take (suc k) xs) ≡ n ∷ farther n (stack_of number xs) =
    same_after tops _ _ (sym (stack_of_both number (take (suc k) xs) (drop (suc k) xs))
    ∙ ap (stack_of number) (sym (taken_and_dropped xs (suc k)))
    ∙ divided n (stack_of number xs) at.is_there
    ∙ ap (λ v. v ++ n ∷ farther n (stack_of number xs)) (sym at.after_it)) in
    ap (λ j. stack_of number (insert xs j y)) (let e : k + 1 ≡ suc k = omega arith in e)
    ∙ stack_of_both number (take (suc k) xs) (y ∷ drop (suc k) xs)
    ∙ ap (λ v. v ++ stack_of number (take (suc k) xs)) (stack_of_both number (y ∷ []) (drop (suc k) xs))
    ∙ append_assoc tops (number y ∷ []) (stack_of number (take (suc k) xs))
    ∙ ap (λ v. tops ++ number y ∷ v) up
    ∙ ap (λ v. v ++ number y ∷ n ∷ farther n (stack_of number xs)) at.after_it
    ∙ sym (put_before_is n (number y) (stack_of number xs) at.is_there)

-- the element that was opened first
root_after : (ns : List ℕ) (n : ℕ) → root_of (ns ++ n ∷ []) ≡ n
root_after [] n = refl
root_after (m ∷ []) n = refl
root_after (m ∷ k ∷ ns) n = root_after (k ∷ ns) n

in_after : (ns : List ℕ) (n : ℕ) → IsIn n (ns ++ n ∷ [])
in_after [] n = inl refl
in_after (m ∷ ns) n = inr (in_after ns n)

pub first_opened : {H : Type 0} (number : H → ℕ) (x : H) (xs : List H) →
    IsFirstOpened (Some (number x)) (stack_of number (x ∷ xs))
first_opened number x xs =
    let e = stack_of_both number (x ∷ []) xs in (
      ap root_of e ∙ root_after (stack_of number xs) (number x),
      subst (IsIn (number x)) (sym e) (in_after (stack_of number xs) (number x)),
    )

pub first_get : {H : Type 0} (number : H → ℕ) (xs : List H) →
    IsFirstOpened (option_map number (slice_get xs 0)) (stack_of number xs)
first_get number [] = refl
first_get number (x ∷ xs) = first_opened number x xs
