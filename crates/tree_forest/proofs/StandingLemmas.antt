-- Which children there are after a change, how many nodes, and what a text says.
use Rattle.std.proofs.Common.{◌≡◌, ◌⊎◌, ◌↔◌, if◌then◌else◌, ◌==◌, [], ◌∷◌, ◌++◌, ◌∙◌, Bool, List, Some, ap, append-nil}
use Rattle.std.proofs.Common.{arith, eq-eqb, eqb-true, false, inl, inr, refl, subst, sym, true, ℕ}
use Rattle.tree_forest.specs.Changes.{changed, childless, detached, left_out, reparented, saying, saying_kind}
use Rattle.tree_forest.specs.Changes.{with_more}
use Rattle.tree_forest.specs.Conditions.{CanPut}
use Rattle.tree_forest.specs.Forest.{Forest, Holds, children_at, kind_at, nodes, parent_of, text, text_of}
use Rattle.tree_forest.specs.Orders.{IsForest, IsIn}
use Rattle.tree_forest.specs.Places.{Place, before, below, in_front, neighbour, node, parent_at, put_before, put_node}
use Rattle.tree_forest.specs.Places.{put_words, trailing}
use Rattle.tree_forest.proofs.LawNodes.{changed_here, changed_other, parent_is}
use Rattle.tree_forest.proofs.LawPlaces.{out_children, put_below, put_in_front}
use Rattle.tree_forest.proofs.LawTexts.{text_more}
use Rattle.tree_forest.proofs.Nodes.{changed_has, same_some, size_changed, size_mapped}
use Rattle.tree_forest.proofs.Numbers.{in_append, in_left_out, in_one, in_put_before}
use Rattle.tree_forest.proofs.ParentChanges.{child_of_parent}
use Rattle.tree_forest.proofs.Relations.{either}
use Rattle.tree_forest.proofs.Reparenting.{emptied}
use Rattle.tree_forest.proofs.LawLists.{in_middle}

-- how many nodes there are
pub size_put : (place : Place) (n : ℕ) (f : Forest) → nodes (put_node place n f) ≡ nodes f
size_put (below p) n f = size_changed p (trailing n) f
size_put (before s) n f = size_mapped (in_front s n) f

-- numbers that stay in a list, and one that is put there
in_first : (c : ℕ) (ms ns : List ℕ) → IsIn c ms → IsIn c (ms ++ ns)
in_first c [] ns i = absurd i
in_first c (m ∷ ms) ns (inl e) = inl e
in_first c (m ∷ ms) ns (inr i) = inr (in_first c ms ns i)

stays_by : (b : Bool) (x c n : ℕ) (ns rest : List ℕ) → (IsIn x ns → IsIn x rest) → IsIn x (n ∷ ns)
    → IsIn x (if b then c ∷ n ∷ ns else n ∷ rest)
stays_by true x c n ns rest more i = inr i
stays_by false x c n ns rest more (inl e) = inl e
stays_by false x c n ns rest more (inr i) = inr (more i)

stays_put : (x s c : ℕ) (ns : List ℕ) → IsIn x ns → IsIn x (put_before s c ns)
stays_put x s c [] i = absurd i
stays_put x s c (n ∷ ns) i = stays_by (n == s) x c n ns (put_before s c ns) (stays_put x s c ns) i

put_by : (b : Bool) (s c n : ℕ) (ns rest : List ℕ) → (n == s) ≡ b → (IsIn s ns → IsIn c rest) → IsIn s (n ∷ ns)
    → IsIn c (if b then c ∷ n ∷ ns else n ∷ rest)
put_by true s c n ns rest e more i = inl refl
put_by false s c n ns rest e more (inl is) = absurd (let k : (n == s) ≡ true = eq-eqb n s (sym is) in cc)
put_by false s c n ns rest e more (inr i) = inr (more i)

is_put : (s c : ℕ) (ns : List ℕ) → IsIn s ns → IsIn c (put_before s c ns)
is_put s c [] i = absurd i
is_put s c (n ∷ ns) i = put_by (n == s) s c n ns (put_before s c ns) refl (is_put s c ns) i

kept_by : (b : Bool) (x n m : ℕ) (ms rest : List ℕ) → (m == n) ≡ b → ¬ (x ≡ n) → (IsIn x ms → IsIn x rest)
    → IsIn x (m ∷ ms) → IsIn x (if b then rest else m ∷ rest)
kept_by true x n m ms rest e off more (inl is) = absurd (off (is ∙ eqb-true m n e))
kept_by true x n m ms rest e off more (inr i) = more i
kept_by false x n m ms rest e off more (inl is) = inl is
kept_by false x n m ms rest e off more (inr i) = inr (more i)

stays_out : (x n : ℕ) (ms : List ℕ) → ¬ (x ≡ n) → IsIn x ms → IsIn x (left_out n ms)
stays_out x n [] off i = absurd i
stays_out x n (m ∷ ms) off i =
    kept_by (m == n) x n m ms (left_out n ms) refl off (λ there. stays_out x n ms off there) i

-- which children there are, where a node is put
put_to : (place : Place) (n m q : ℕ) (f : Forest) → IsForest f → IsIn m (children_at q (put_node place n f))
    → IsIn m (children_at q f) ⊎ ((m ≡ n) × (parent_at place f ≡ Some q))
put_to (below p) n m q f forest there = changed_has
    (λ x. IsIn m x.children → IsIn m (children_at q f) ⊎ ((m ≡ n) × (Some p ≡ Some q))) q p (trailing n) f
    (λ i. inl i)
    (λ e i. either (λ old. inl old) (λ new. inr (in_one m n new, ap Some (sym e)))
    (in_append m (children_at q f) (n ∷ []) i)) there
put_to (before s) n m q f forest i = either (λ old. inl old) (λ new. inr (new.0, parent_is s q f forest new.1))
    (in_put_before m s n (children_at q f) (subst (IsIn m) (put_in_front s n q f) i))

put_stays : (place : Place) (n m q : ℕ) (f : Forest) → IsIn m (children_at q f)
    → IsIn m (children_at q (put_node place n f))
put_stays (below p) n m q f i =
    changed_has (λ x. IsIn m x.children) q p (trailing n) f i (λ _. in_first m (children_at q f) (n ∷ []) i)
put_stays (before s) n m q f i =
    subst (IsIn m) (sym (put_in_front s n q f)) (stays_put m s n (children_at q f) i)

put_new : (place : Place) (n q : ℕ) (f : Forest) → CanPut place (node n) f → parent_at place f ≡ Some q
    → IsIn n (children_at q (put_node place n f))
put_new (below p) n q f can e = subst (λ k. IsIn n (children_at k (put_node (below p) n f))) (same_some p q e)
    (subst (IsIn n) (sym (put_below p n f can.0)) (in_middle n (children_at p f) []))
put_new (before s) n q f can e =
    subst (IsIn n) (sym (put_in_front s n q f)) (is_put s n (children_at q f) (child_of_parent s q f e))

pub put_children_are : (place : Place) (n m q : ℕ) (f : Forest) → IsForest f → CanPut place (node n) f
    → IsIn m (children_at q (put_node place n f))
    ↔ (IsIn m (children_at q f) ⊎ ((m ≡ n) × (parent_at place f ≡ Some q)))
put_children_are place n m q f forest can = (
  put_to place n m q f forest,
  λ h. either (λ old. put_stays place n m q f old)
      (λ new. subst (λ k. IsIn k (children_at q (put_node place n f))) (sym new.0) (put_new place n q f can new.1)) h,
)

-- which there are where a node is taken out, or where children go to another
pub out_children_are : (n m q : ℕ) (f : Forest)
    → IsIn m (children_at q (detached n f)) ↔ (IsIn m (children_at q f) × ¬ (m ≡ n))
out_children_are n m q f = (
  λ i. in_left_out m n (children_at q f) (subst (IsIn m) (out_children n q f) i),
  λ h. subst (IsIn m) (sym (out_children n q f)) (stays_out m n (children_at q f) h.1 h.0),
)

pub given_children : (old new : ℕ) (f : Forest) → Holds new f → ¬ (old ≡ new)
    → children_at new (reparented old new f) ≡ children_at new f ++ children_at old f
given_children old new f held apart =
    let size : nodes (changed old childless f) ≡ nodes f = size_changed old childless f in
    let there : Holds new (changed old childless f) = omega arith in
    ap (λ x. x.children) (changed_here (with_more (children_at old f)) new (changed old childless f) there)
    ∙ ap (λ x. x.children ++ children_at old f) (changed_other childless old new f (λ e. apart (sym e)))

pub none_left : (old new : ℕ) (f : Forest) → ¬ (old ≡ new) → children_at old (reparented old new f) ≡ []
none_left old new f apart =
    ap (λ x. x.children) (changed_other (with_more (children_at old f)) new old (changed old childless f) apart)
    ∙ emptied old f

pub parent_has : (n p : ℕ) (f : Forest) → IsForest f → (parent_of n f ≡ Some p) ↔ IsIn n (children_at p f)
parent_has n p f forest = (child_of_parent n p f, parent_is n p f forest)

-- a text that characters join
pub words_joined : (place : Place) (n : ℕ) (said cs : List ℕ) (f : Forest) → Holds n f → neighbour place f ≡ Some n
    → kind_at n f ≡ text said → kind_at n (put_words place cs f) ≡ text (said ++ cs)
words_joined place n said [] f held e k = k ∙ ap text (sym (append-nil said))
words_joined place n said (c ∷ cs) f held e k =
    ap (kind_at n) (text_more place c cs said n f e (ap text_of k))
    ∙ ap (λ x. x.kind) (changed_here (saying (c ∷ cs)) n f held) ∙ ap (saying_kind (c ∷ cs)) k
