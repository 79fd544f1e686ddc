-- The elements among some nodes, after changes of the list and of the forest.
use Rattle.std.proofs.Common.{◌≡◌, ◌==◌, if◌then◌else◌, [], ◌∷◌, ◌++◌, ◌∙◌, Bool, List, ap, eqb-true, false, inl, inr}
use Rattle.std.proofs.Common.{refl, sym, true, ℕ}
use Rattle.std.proofs.lemmas.Bool.{cond_both}
use Rattle.tree_forest.specs.Changes.{left_out}
use Rattle.tree_forest.specs.Forest.{Forest, kind_at}
use Rattle.tree_forest.specs.Orders.{IsIn}
use Rattle.tree_forest.specs.Places.{put_before}
use Rattle.page_tree_laws.specs.Skeleton.{elements_among, is_element}

-- three lists one after another
pub regrouped : (xs ys zs : List ℕ) → (xs ++ ys) ++ zs ≡ xs ++ (ys ++ zs)
regrouped [] ys zs = refl
regrouped (x ∷ xs) ys zs = ap (λ l. x ∷ l) (regrouped xs ys zs)

append_by : (is : Bool) (n : ℕ) (xs ys zs : List ℕ) → zs ≡ xs ++ ys →
    (if is then n ∷ zs else zs) ≡ (if is then n ∷ xs else xs) ++ ys
append_by true n xs ys zs e = ap (λ l. n ∷ l) e
append_by false n xs ys zs e = e

-- elements of two lists are those of both
pub elements_append : (f : Forest) (ns ms : List ℕ) →
    elements_among f (ns ++ ms) ≡ elements_among f ns ++ elements_among f ms
elements_append f [] ms = refl
elements_append f (n ∷ ns) ms = append_by (is_element (kind_at n f)) n (elements_among f ns) (elements_among f ms)
    (elements_among f (ns ++ ms)) (elements_append f ns ms)

same_by : (a b : Bool) (n : ℕ) (xs ys : List ℕ) → a ≡ b → xs ≡ ys →
    (if a then n ∷ xs else xs) ≡ (if b then n ∷ ys else ys)
same_by a b n xs ys e k = rw (e, k)

-- elements stay where each node stays one, or stays none
pub elements_same : (f h : Forest) (ns : List ℕ) →
    ((n : ℕ) → IsIn n ns → is_element (kind_at n h) ≡ is_element (kind_at n f)) →
    elements_among h ns ≡ elements_among f ns
elements_same f h [] same = refl
elements_same f h (n ∷ ns) same = same_by (is_element (kind_at n h)) (is_element (kind_at n f)) n
    (elements_among h ns) (elements_among f ns) (same n (inl refl))
    (elements_same f h ns (λ m i. same m (inr i)))

out_by : (f : Forest) (c n : ℕ) (ns : List ℕ) (out is : Bool) → (n == c) ≡ out → is_element (kind_at n f) ≡ is →
    elements_among f (left_out c ns) ≡ left_out c (elements_among f ns) →
    elements_among f (if out then left_out c ns else n ∷ left_out c ns)
    ≡ left_out c (if is then n ∷ elements_among f ns else elements_among f ns)
out_by f c n ns true true p q more = rw p more
out_by f c n ns true false p q more = more
out_by f c n ns false true p q more = rw (p, q) (ap (λ l. n ∷ l) more)
out_by f c n ns false false p q more = rw q more

-- a node left out of a list
pub elements_left_out : (f : Forest) (c : ℕ) (ns : List ℕ) →
    elements_among f (left_out c ns) ≡ left_out c (elements_among f ns)
elements_left_out f c [] = refl
elements_left_out f c (n ∷ ns) = out_by f c n ns (n == c) (is_element (kind_at n f)) refl refl
    (elements_left_out f c ns)

put_by : (f : Forest) (s c n : ℕ) (ns : List ℕ) (here is : Bool) → (n == s) ≡ here → is_element (kind_at n f) ≡ is →
    is_element (kind_at s f) ≡ true → is_element (kind_at c f) ≡ true →
    elements_among f (put_before s c ns) ≡ put_before s c (elements_among f ns) →
    elements_among f (if here then c ∷ n ∷ ns else n ∷ put_before s c ns)
    ≡ put_before s c (if is then n ∷ elements_among f ns else elements_among f ns)
put_by f s c n ns true true p q one other more = rw (p, q, other) refl
put_by f s c n ns true false p q one other more = absurd (
    let k : true ≡ false = sym one ∙ (ap (λ m. is_element (kind_at m f)) (sym (eqb-true n s p)) ∙ q) in cc)
put_by f s c n ns false true p q one other more = rw (p, q) (ap (λ l. n ∷ l) more)
put_by f s c n ns false false p q one other more = rw q more

-- an element put before another one
pub elements_put : (f : Forest) (s c : ℕ) (ns : List ℕ) → is_element (kind_at s f) ≡ true →
    is_element (kind_at c f) ≡ true → elements_among f (put_before s c ns) ≡ put_before s c (elements_among f ns)
elements_put f s c [] one other = refl
elements_put f s c (n ∷ ns) one other = put_by f s c n ns (n == s) (is_element (kind_at n f)) refl refl one other
    (elements_put f s c ns one other)

leaf_by : (f : Forest) (s c n : ℕ) (ns : List ℕ) (here : Bool) → is_element (kind_at c f) ≡ false →
    elements_among f (put_before s c ns) ≡ elements_among f ns →
    elements_among f (if here then c ∷ n ∷ ns else n ∷ put_before s c ns) ≡ elements_among f (n ∷ ns)
leaf_by f s c n ns true none more = rw none refl
leaf_by f s c n ns false none more = ap (λ l. if is_element (kind_at n f) then n ∷ l else l) more

-- what is no element put before some node
pub elements_leaf : (f : Forest) (s c : ℕ) (ns : List ℕ) → is_element (kind_at c f) ≡ false →
    elements_among f (put_before s c ns) ≡ elements_among f ns
elements_leaf f s c [] none = refl
elements_leaf f s c (n ∷ ns) none = leaf_by f s c n ns (n == s) none (elements_leaf f s c ns none)

-- what is not among the first ones changes the later ones alone
pub left_out_front : (c : ℕ) (xs ys : List ℕ) → ¬ (IsIn c xs) → left_out c (xs ++ ys) ≡ xs ++ left_out c ys
left_out_front c [] ys none = refl
left_out_front c (x ∷ xs) ys none = cond_both (x == c) (left_out c (xs ++ ys)) (x ∷ left_out c (xs ++ ys))
    (λ l. l ≡ x ∷ (xs ++ left_out c ys)) (λ e. absurd (none (inl (sym (eqb-true x c e)))))
    (λ e. ap (λ l. x ∷ l) (left_out_front c xs ys (λ i. none (inr i))))

pub put_before_front : (s c : ℕ) (xs ys : List ℕ) → ¬ (IsIn s xs) → put_before s c (xs ++ ys) ≡ xs ++ put_before s c ys
put_before_front s c [] ys none = refl
put_before_front s c (x ∷ xs) ys none = cond_both (x == s) (c ∷ x ∷ (xs ++ ys)) (x ∷ put_before s c (xs ++ ys))
    (λ l. l ≡ x ∷ (xs ++ put_before s c ys)) (λ e. absurd (none (inl (sym (eqb-true x s e)))))
    (λ e. ap (λ l. x ∷ l) (put_before_front s c xs ys (λ i. none (inr i))))

append_none : (ns : List ℕ) → ns ++ [] ≡ ns
append_none [] = refl
append_none (n ∷ ns) = ap (λ l. n ∷ l) (append_none ns)

-- what is no element after elements
pub no_more : (f : Forest) (c : ℕ) (ns : List ℕ) → is_element (kind_at c f) ≡ false →
    ns ++ elements_among f (c ∷ []) ≡ ns
no_more f c ns none = rw none (append_none ns)
