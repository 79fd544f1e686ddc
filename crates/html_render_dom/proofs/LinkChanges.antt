-- Links stay those of a forest where a node is made, put or taken out.
use Rattle.std.proofs.Common.{◌≡◌, ◌<◌, ◌⊎◌, [], ◌∷◌, ◌++◌, ◌∙◌, List, None, Option, Some, ap, arith, inl, inr, length}
use Rattle.std.proofs.Common.{refl, subst, suc, sym, zero, ℕ}
use Rattle.std.proofs.lemmas.Bool.{cases_eq}
use Rattle.std.proofs.lemmas.List.{length-append}
use Rattle.tree_forest.specs.Forest.{Forest, Holds, children_at, nodes}
use Rattle.tree_forest.specs.Orders.{AreDistinct, IsForest, IsIn, of_child}
use Rattle.html_render_dom.specs.Links.{AreLinks}
use Rattle.html_render_dom.specs.Siblings.{AreCounted, AreNeighbours, IsChain, IsRun, Links, Spot, after_of, before_of}
use Rattle.html_render_dom.specs.Siblings.{edge, first_spot, holder, last_spot, link_at, number_at, put_between}
use Rattle.html_render_dom.specs.Siblings.{sibling, spot_of, taken_from}
use Rattle.html_render_dom.specs.Nodes.{with_no_links}
use Rattle.html_render_dom.proofs.ChildRuns.{IsChildSpot, last_append, last_or_edge, run_parent, run_right}
use Rattle.html_render_dom.proofs.ChildChains.{chain_elsewhere, chain_out, chain_put, first_not, in_left, in_right}
use Rattle.html_render_dom.proofs.ChildChains.{last_not, not_left, not_right}
use Rattle.html_render_dom.proofs.LinkReads.{Agrees, IsOut, IsPut, counted_out, counted_put, is_out, is_put}

-- spots by what links lead to them
pub edge_back : (p : ℕ) → spot_of p (number_at (edge p)) ≡ edge p
edge_back p = refl

pub last_back : (p : ℕ) (cs : List ℕ) → spot_of p (number_at (last_spot (edge p) cs)) ≡ last_spot (edge p) cs
last_back p cs = by (last_or_edge (edge p) cs) where
  by : (last_spot (edge p) cs ≡ edge p) ⊎ IsChildSpot (last_spot (edge p) cs) cs →
      spot_of p (number_at (last_spot (edge p) cs)) ≡ last_spot (edge p) cs
  by (inl e) = subst (λ u. spot_of p (number_at u) ≡ u) (sym e) refl
  by (inr w) = subst (λ u. spot_of p (number_at u) ≡ u) (sym w.is) refl

pub first_back : (p : ℕ) (cs : List ℕ) → spot_of p (number_at (first_spot cs (edge p))) ≡ first_spot cs (edge p)
first_back p [] = refl
first_back p (c ∷ cs) = refl

pub holds_last : (p k : ℕ) (cs : List ℕ) → p < k → ((c : ℕ) → IsIn c cs → c < k) → holder (last_spot (edge p) cs) < k
holds_last p k cs hp below = by (last_or_edge (edge p) cs) where
  by : (last_spot (edge p) cs ≡ edge p) ⊎ IsChildSpot (last_spot (edge p) cs) cs → holder (last_spot (edge p) cs) < k
  by (inl e) = subst (λ u. holder u < k) (sym e) hp
  by (inr w) = subst (λ u. holder u < k) (sym w.is) (below w.number w.child)

pub holds_first : (p k : ℕ) (cs : List ℕ) → p < k → ((c : ℕ) → IsIn c cs → c < k) → holder (first_spot cs (edge p)) < k
holds_first p k [] hp below = hp
holds_first p k (c ∷ cs) hp below = below c (inl refl)

-- what is right before a child, and right after it
pub before_is : (p c : ℕ) (xs ys : List ℕ) (l : Links) → IsChain p (xs ++ c ∷ ys) l →
    link_at c l.previous ≡ number_at (last_spot (edge p) xs)
before_is p c xs ys l chain = (run_right p (edge p) xs (c ∷ ys) l chain.run).0.before

pub after_is : (p c : ℕ) (xs ys : List ℕ) (l : Links) → IsChain p (xs ++ c ∷ ys) l →
    link_at c l.next ≡ number_at (first_spot ys (edge p))
after_is p c xs [] l chain =
    (subst (λ u. AreNeighbours u (edge p) l) (last_append (edge p) xs (c ∷ [])) chain.end).trailing
after_is p c xs (y ∷ ys) l chain = (run_right p (edge p) xs (c ∷ y ∷ ys) l chain.run).1.1.0.trailing

-- a child has noted its parent
pub down : (f : Forest) (l : Links) (n p : ℕ) → AreLinks f l → IsIn n (children_at p f) → link_at n l.parent ≡ Some p
down f l n p links i = run_parent p n (edge p) (children_at p f) l (links.chains p).run i

same_some : {n m : ℕ} → Some n ≡ Some m → n ≡ m
same_some e = cc

no_some : {n : ℕ} → None ≡ Some n → ⊥
no_some e = absurd (cc)

-- a node that is no child of one is beside none of its children
pub apart_last : (p m : ℕ) (xs : List ℕ) → ¬ (IsIn m xs) → ¬ (sibling m ≡ last_spot (edge p) xs)
apart_last p m xs off e = last_not p m xs off (sym e)

pub apart_first : (p m : ℕ) (ys : List ℕ) → ¬ (IsIn m ys) → ¬ (sibling m ≡ first_spot ys (edge p))
apart_first p m ys off e = first_not p m ys off (sym e)

-- what stays alone
pub alone_kept : (f : Forest) (l m : Links) (p n k : ℕ) (xs ys : List ℕ) → AreLinks f l →
    Agrees n (last_spot (edge p) xs) (first_spot ys (edge p)) l m →
    ((c : ℕ) → IsIn c (xs ++ ys) → IsIn c (children_at p f)) → ¬ (k ≡ n) → link_at k m.parent ≡ None →
    (link_at k m.previous ≡ None) × (link_at k m.next ≡ None)
alone_kept f l m p n k xs ys links agrees children off none =
    let was : link_at k l.parent ≡ None = sym (agrees.parents k off) ∙ none in
    let no : ¬ (IsIn k (xs ++ ys)) = λ i. no_some (sym was ∙ down f l k p links (children k i)) in
    let alone = links.alone k was in (
      agrees.before (sibling k) (apart_first p k ys (λ i. no (in_right k xs ys i))) (λ e. off (ap holder e)) ∙ alone.0,
      agrees.trailing (sibling k) (apart_last p k xs (λ i. no (in_left k xs ys i))) (λ e. off (ap holder e)) ∙ alone.1,
    )

in_more : (c n : ℕ) (xs ys : List ℕ) → IsIn c (xs ++ ys) → IsIn c (xs ++ n ∷ ys)
in_more c n [] ys i = inr i
in_more c n (x ∷ xs) ys (inl e) = inl e
in_more c n (x ∷ xs) ys (inr i) = inr (in_more c n xs ys i)

in_less : (c n : ℕ) (xs ys : List ℕ) → IsIn c (xs ++ n ∷ ys) → ¬ (c ≡ n) → IsIn c (xs ++ ys)
in_less c n [] ys (inl e) off = absurd (off e)
in_less c n [] ys (inr i) off = i
in_less c n (x ∷ xs) ys (inl e) off = inl e
in_less c n (x ∷ xs) ys (inr i) off = inr (in_less c n xs ys i off)

in_middle : (n : ℕ) (xs ys : List ℕ) → IsIn n (xs ++ n ∷ ys)
in_middle n [] ys = inl refl
in_middle n (x ∷ xs) ys = inr (in_middle n xs ys)

-- a node that stands nowhere is put between some children and others
pub linked_put : (f g : Forest) (l : Links) (p n : ℕ) (xs ys : List ℕ) → IsForest f → AreLinks f l → Holds p f →
    Holds n f → ((q : ℕ) → ¬ (IsIn n (children_at q f))) → children_at p f ≡ xs ++ ys →
    children_at p g ≡ xs ++ n ∷ ys → ((q : ℕ) → ¬ (q ≡ p) → children_at q g ≡ children_at q f) →
    nodes g ≡ nodes f → AreLinks g (put_between p (last_spot (edge p) xs) (first_spot ys (edge p)) n l)
linked_put f g l p n xs ys forest links hp hn free here there elsewhere size = record {
  counted = subst (λ k. AreCounted k m) (sym size) (counted_put (nodes f) p n (last_spot (edge p) xs)
      (first_spot ys (edge p)) l links.counted);
  chains = λ q. chains q (cases_eq q p);
  up = λ k q e. up k q (cases_eq k n) e;
  alone = λ k e. alone_kept f l m p n k xs ys links put.agrees (λ c i. subst (IsIn c) (sym here) i)
      (λ at. no_some (sym e ∙ (ap (λ v. link_at v m.parent) at ∙ put.parent))) e;
} where
  m : Links
  m = put_between p (last_spot (edge p) xs) (first_spot ys (edge p)) n l

  below : (c : ℕ) → IsIn c (xs ++ ys) → c < nodes f
  below c i = forest.within p c (of_child p c (subst (IsIn c) (sym here) i))

  off : ¬ (IsIn n (xs ++ ys))
  off i = free p (subst (IsIn n) (sym here) i)

  put : IsPut p n (last_spot (edge p) xs) (first_spot ys (edge p)) l m
  put = is_put (nodes f) p n (last_spot (edge p) xs) (first_spot ys (edge p)) l links.counted
      (holds_last p (nodes f) xs hp (λ c i. below c (in_left c xs ys i)))
      (holds_first p (nodes f) ys hp (λ c i. below c (in_right c xs ys i))) hn
      (last_not p n xs (λ i. off (in_left n xs ys i))) (first_not p n ys (λ i. off (in_right n xs ys i)))

  chains : (q : ℕ) → (q ≡ p) ⊎ (q ≡ p → ⊥) → IsChain q (children_at q g) m
  chains q (inl e) = subst (λ v. IsChain v (children_at v g) m) (sym e) (subst (λ cs. IsChain p cs m) (sym there)
      (chain_put p n xs ys l m put (subst AreDistinct here (forest.once p)) off
      (subst (λ cs. IsChain p cs l) here (links.chains p))))
  chains q (inr apart) = subst (λ cs. IsChain q cs m) (sym (elsewhere q apart))
      (chain_elsewhere p q n xs ys (children_at q f) l m put.agrees apart
      (λ c i j. apart (forest.single q p c (of_child q c i) (of_child p c (subst (IsIn c) (sym here) j))))
      (free q) (links.chains q))

  stays : (k q : ℕ) → (q ≡ p) ⊎ (q ≡ p → ⊥) → IsIn k (children_at q f) → IsIn k (children_at q g)
  stays k q (inl e) i = subst (λ v. IsIn k (children_at v g)) (sym e) (subst (IsIn k) (sym there)
      (in_more k n xs ys (subst (IsIn k) here (subst (λ v. IsIn k (children_at v f)) e i))))
  stays k q (inr apart) i = subst (IsIn k) (sym (elsewhere q apart)) i

  up : (k q : ℕ) → (k ≡ n) ⊎ (k ≡ n → ⊥) → link_at k m.parent ≡ Some q → IsIn k (children_at q g)
  up k q (inl e) h = subst (λ v. IsIn v (children_at q g)) (sym e)
      (subst (λ v. IsIn n (children_at v g)) (same_some (sym put.parent ∙ (ap (λ v. link_at v m.parent) (sym e) ∙ h)))
      (subst (IsIn n) (sym there) (in_middle n xs ys)))
  up k q (inr other) h = stays k q (cases_eq q p) (links.up k q (sym (put.agrees.parents k other) ∙ h))

-- a node is taken from between some children and others
pub linked_out : (f g : Forest) (l : Links) (p n : ℕ) (xs ys : List ℕ) → IsForest f → AreLinks f l → Holds p f →
    children_at p f ≡ xs ++ n ∷ ys → children_at p g ≡ xs ++ ys →
    ((q : ℕ) → ¬ (q ≡ p) → children_at q g ≡ children_at q f) → nodes g ≡ nodes f →
    AreLinks g (taken_from (last_spot (edge p) xs) (first_spot ys (edge p)) n l)
linked_out f g l p n xs ys forest links hp here there elsewhere size = record {
  counted = subst (λ k. AreCounted k m) (sym size) (counted_out (nodes f) n (last_spot (edge p) xs)
      (first_spot ys (edge p)) l links.counted);
  chains = λ q. chains q (cases_eq q p);
  up = λ k q e. up k q (cases_eq k n) e;
  alone = λ k e. alone k (cases_eq k n) e;
} where
  m : Links
  m = taken_from (last_spot (edge p) xs) (first_spot ys (edge p)) n l

  distinct : AreDistinct (xs ++ n ∷ ys)
  distinct = subst AreDistinct here (forest.once p)

  child : IsIn n (children_at p f)
  child = subst (IsIn n) (sym here) (in_middle n xs ys)

  below : (c : ℕ) → IsIn c (xs ++ n ∷ ys) → c < nodes f
  below c i = forest.within p c (of_child p c (subst (IsIn c) (sym here) i))

  out : IsOut n (last_spot (edge p) xs) (first_spot ys (edge p)) l m
  out = is_out (nodes f) n (last_spot (edge p) xs) (first_spot ys (edge p)) l links.counted
      (holds_last p (nodes f) xs hp (λ c i. below c (in_left c xs (n ∷ ys) i)))
      (holds_first p (nodes f) ys hp (λ c i. below c (in_right c xs (n ∷ ys) (inr i))))
      (below n (in_middle n xs ys)) (last_not p n xs (not_left n xs ys distinct))
      (first_not p n ys (not_right n xs ys distinct))

  chains : (q : ℕ) → (q ≡ p) ⊎ (q ≡ p → ⊥) → IsChain q (children_at q g) m
  chains q (inl e) = subst (λ v. IsChain v (children_at v g) m) (sym e) (subst (λ cs. IsChain p cs m) (sym there)
      (chain_out p n xs ys l m out distinct (subst (λ cs. IsChain p cs l) here (links.chains p))))
  chains q (inr apart) = subst (λ cs. IsChain q cs m) (sym (elsewhere q apart))
      (chain_elsewhere p q n xs ys (children_at q f) l m out.agrees apart
      (λ c i j. apart (forest.single q p c (of_child q c i)
      (of_child p c (subst (IsIn c) (sym here) (in_more c n xs ys j)))))
      (λ i. apart (forest.single q p n (of_child q n i) (of_child p n child))) (links.chains q))

  stays : (k q : ℕ) → (q ≡ p) ⊎ (q ≡ p → ⊥) → ¬ (k ≡ n) → IsIn k (children_at q f) → IsIn k (children_at q g)
  stays k q (inl e) other i = subst (λ v. IsIn k (children_at v g)) (sym e) (subst (IsIn k) (sym there)
      (in_less k n xs ys (subst (IsIn k) here (subst (λ v. IsIn k (children_at v f)) e i)) other))
  stays k q (inr apart) other i = subst (IsIn k) (sym (elsewhere q apart)) i

  up : (k q : ℕ) → (k ≡ n) ⊎ (k ≡ n → ⊥) → link_at k m.parent ≡ Some q → IsIn k (children_at q g)
  up k q (inl e) h = absurd (no_some (sym out.parent ∙ (ap (λ v. link_at v m.parent) (sym e) ∙ h)))
  up k q (inr other) h = stays k q (cases_eq q p) other (links.up k q (sym (out.agrees.parents k other) ∙ h))

  alone : (k : ℕ) → (k ≡ n) ⊎ (k ≡ n → ⊥) → link_at k m.parent ≡ None →
      (link_at k m.previous ≡ None) × (link_at k m.next ≡ None)
  alone k (inl e) h = (
    ap (λ v. link_at v m.previous) e ∙ out.previous,
    ap (λ v. link_at v m.next) e ∙ out.next,
  )
  alone k (inr other) h = alone_kept f l m p n k xs ys links out.agrees
      (λ c i. subst (IsIn c) (sym here) (in_more c n xs ys i)) other h

-- a node more, which stands nowhere
pub no_link : (n : ℕ) (links : List (Option ℕ)) → link_at n (links ++ None ∷ []) ≡ link_at n links
no_link n [] = alone n where
  alone : (n : ℕ) → link_at n (None ∷ []) ≡ None
  alone zero = refl
  alone (suc n) = refl
no_link zero (l ∷ links) = refl
no_link (suc n) (l ∷ links) = no_link n links

one_longer : (k : ℕ) (links : List (Option ℕ)) → length links ≡ k → length (links ++ None ∷ []) ≡ suc k
one_longer k links e = length-append links (None ∷ []) ∙ (omega (arith, e))

-- links that lead where others do
pub neighbours_same : (s t : Spot) (l m : Links) → ((u : Spot) → after_of u m ≡ after_of u l) →
    ((u : Spot) → before_of u m ≡ before_of u l) → AreNeighbours s t l → AreNeighbours s t m
neighbours_same s t l m trailings befores w =
    record { trailing = trailings s ∙ w.trailing; before = befores t ∙ w.before }

pub run_same : (p : ℕ) (s : Spot) (cs : List ℕ) (l m : Links) → ((u : Spot) → after_of u m ≡ after_of u l) →
    ((u : Spot) → before_of u m ≡ before_of u l) → ((k : ℕ) → link_at k m.parent ≡ link_at k l.parent) →
    IsRun p s cs l → IsRun p s cs m
run_same p s [] l m trailings befores parents run = tt
run_same p s (c ∷ cs) l m trailings befores parents run = (
  neighbours_same s (sibling c) l m trailings befores run.0,
  (parents c ∙ run.1.0, run_same p (sibling c) cs l m trailings befores parents run.1.1),
)

pub linked_made : (f g : Forest) (l : Links) → AreLinks f l → nodes g ≡ suc (nodes f) →
    ((q : ℕ) → children_at q g ≡ children_at q f) → AreLinks g (with_no_links l)
linked_made f g l links size same = record {
  counted = record {
    parent = one_longer (nodes f) l.parent links.counted.parent ∙ sym size;
    first = one_longer (nodes f) l.first links.counted.first ∙ sym size;
    last = one_longer (nodes f) l.last links.counted.last ∙ sym size;
    previous = one_longer (nodes f) l.previous links.counted.previous ∙ sym size;
    next = one_longer (nodes f) l.next links.counted.next ∙ sym size;
  };
  chains = λ p. subst (λ cs. IsChain p cs (with_no_links l)) (sym (same p)) (record {
    run = run_same p (edge p) (children_at p f) l (with_no_links l) trailings befores parents (links.chains p).run;
    end = neighbours_same (last_spot (edge p) (children_at p f)) (edge p) l (with_no_links l) trailings befores
        (links.chains p).end;
  });
  up = λ n p e. subst (IsIn n) (sym (same p)) (links.up n p (sym (parents n) ∙ e));
  alone = λ n e. let was = links.alone n (sym (parents n) ∙ e) in
      (no_link n l.previous ∙ was.0, no_link n l.next ∙ was.1);
} where
  trailings : (u : Spot) → after_of u (with_no_links l) ≡ after_of u l
  trailings (edge p) = no_link p l.first
  trailings (sibling n) = no_link n l.next

  befores : (u : Spot) → before_of u (with_no_links l) ≡ before_of u l
  befores (edge p) = no_link p l.last
  befores (sibling n) = no_link n l.previous

  parents : (k : ℕ) → link_at k (with_no_links l).parent ≡ link_at k l.parent
  parents k = no_link k l.parent

-- no node more, and the same children
pub linked_same : (f g : Forest) (l : Links) → AreLinks f l → nodes g ≡ nodes f →
    ((q : ℕ) → children_at q g ≡ children_at q f) → AreLinks g l
linked_same f g l links size same = record {
  counted = subst (λ k. AreCounted k l) (sym size) links.counted;
  chains = λ p. subst (λ cs. IsChain p cs l) (sym (same p)) (links.chains p);
  up = λ n p e. subst (IsIn n) (sym (same p)) (links.up n p e);
  alone = links.alone;
}
