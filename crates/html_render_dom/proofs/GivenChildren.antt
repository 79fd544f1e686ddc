-- The children of a node are given to another: the links after it are those of the forest after it.
use Rattle.std.proofs.Common.{◌≡◌, ◌<◌, ◌⊎◌, [], ◌∷◌, ◌++◌, ◌∙◌, List, None, Option, Some, ap, inl, inr, length, refl}
use Rattle.std.proofs.Common.{subst, sym, ℕ}
use Rattle.std.proofs.lemmas.Bool.{cases_eq}
use Rattle.tree_forest.proofs.LawLists.{decide_in}
use Rattle.tree_forest.specs.Forest.{Forest, Holds, children_at, nodes}
use Rattle.tree_forest.specs.Orders.{AreDistinct, IsForest, IsIn, of_child}
use Rattle.html_render_dom.specs.Links.{AreLinks}
use Rattle.html_render_dom.specs.Siblings.{AreCounted, AreNeighbours, IsChain, IsRun, Links, Spot, after_of, before_of}
use Rattle.html_render_dom.specs.Siblings.{edge, given, holder, joined, last_spot, link_at, number_at, sibling}
use Rattle.html_render_dom.specs.Siblings.{with_after, with_before}
use Rattle.html_render_dom.specs.Nodes.{with_parents}
use Rattle.html_render_dom.proofs.LinkReads.{after_before, after_kept, after_set, before_after, before_kept, before_set}
use Rattle.html_render_dom.proofs.LinkReads.{counted_after, counted_before, counted_joined, edge_apart, joined_after}
use Rattle.html_render_dom.proofs.LinkReads.{joined_before, joined_parent, joined_there, parent_after, parent_before}
use Rattle.html_render_dom.proofs.LinkReads.{same_sibling}
use Rattle.html_render_dom.proofs.ChildRuns.{IsChildSpot, last_child, last_or_edge, run_moved, source_is}
use Rattle.html_render_dom.proofs.ChildRuns.{source_not_last}
use Rattle.html_render_dom.proofs.ChildChains.{IsTail, chain_by, in_left, in_right, last_edge, last_not}
use Rattle.html_render_dom.proofs.LinkChanges.{down, holds_last}

-- other parents change no other link
pub after_parents : (ps : List (Option ℕ)) (u : Spot) (l : Links) → after_of u (with_parents ps l) ≡ after_of u l
after_parents ps (edge p) l = refl
after_parents ps (sibling n) l = refl

pub before_parents : (ps : List (Option ℕ)) (u : Spot) (l : Links) → before_of u (with_parents ps l) ≡ before_of u l
before_parents ps (edge p) l = refl
before_parents ps (sibling n) l = refl

same_edge : {p q : ℕ} → edge p ≡ edge q → p ≡ q
same_edge e = ap holder e

-- what the links are after it
pub record IsGiven (from to : ℕ) (s : Spot) (c : ℕ) (last : Option ℕ) (l m : Links) : Type 0 where
  pub trailing : (u : Spot) → ¬ (u ≡ s) → ¬ (u ≡ edge from) → after_of u m ≡ after_of u l
  pub before : (u : Spot) → ¬ (u ≡ sibling c) → ¬ (u ≡ edge to) → ¬ (u ≡ edge from) → before_of u m ≡ before_of u l
  pub joint : AreNeighbours s (sibling c) m
  pub end : before_of (edge to) m ≡ last
  pub emptied : AreNeighbours (edge from) (edge from) m

pub is_given : (k from to c : ℕ) (s : Spot) (last : Option ℕ) (l : Links) → AreCounted k l → holder s < k → c < k →
    from < k → to < k → ¬ (from ≡ to) → ¬ (s ≡ edge from) → IsGiven from to s c last l (given from to s c last l)
is_given k from to c s last l count hs hc hf ht apart off = record {
  trailing = λ u other edges. trailings u edges ∙ joined_after s (sibling c) u l other;
  before = λ u other edges rest. befores u edges rest ∙ joined_before s (sibling c) u l other;
  joint = record {
    trailing = trailings s off ∙ one.trailing;
    before = befores (sibling c) (λ e. edge_apart (sym e)) (λ e. edge_apart (sym e)) ∙ one.before;
  };
  end = before_kept (edge from) (edge to) None third (λ e. apart (sym (same_edge e)))
      ∙ (before_after (edge from) (edge to) None second ∙ before_set k (edge to) last first counted ht);
  emptied = record {
    trailing = after_before (edge from) (edge from) None third
        ∙ after_set k (edge from) None second (counted_before k (edge to) last first counted) hf;
    before = before_set k (edge from) None third
        (counted_after k (edge from) None second (counted_before k (edge to) last first counted)) hf;
  };
} where
  first : Links
  first = joined s (sibling c) l

  second : Links
  second = with_before (edge to) last first

  third : Links
  third = with_after (edge from) None second

  counted : AreCounted k first
  counted = counted_joined k s (sibling c) l count

  one : AreNeighbours s (sibling c) first
  one = joined_there k s (sibling c) l count hs hc

  trailings : (u : Spot) → ¬ (u ≡ edge from) → after_of u (given from to s c last l) ≡ after_of u first
  trailings u other = after_before (edge from) u None third
      ∙ (after_kept (edge from) u None second other ∙ after_before (edge to) u last first)

  befores : (u : Spot) → ¬ (u ≡ edge to) → ¬ (u ≡ edge from) →
      before_of u (given from to s c last l) ≡ before_of u first
  befores u at other = before_kept (edge from) u None third other
      ∙ (before_after (edge from) u None second ∙ before_kept (edge to) u last first at)

pub given_parents : (from to c : ℕ) (s : Spot) (last : Option ℕ) (l : Links) →
    (given from to s c last l).parent ≡ l.parent
given_parents from to c s last l =
    parent_before (edge from) None (with_after (edge from) None (with_before (edge to) last (joined s (sibling c) l)))
    ∙ (parent_after (edge from) None (with_before (edge to) last (joined s (sibling c) l))
    ∙ (parent_before (edge to) last (joined s (sibling c) l) ∙ joined_parent s (sibling c) l))

pub counted_given : (k from to c : ℕ) (s : Spot) (last : Option ℕ) (l : Links) → AreCounted k l →
    AreCounted k (given from to s c last l)
counted_given k from to c s last l count = counted_before k (edge from) None
    (with_after (edge from) None (with_before (edge to) last (joined s (sibling c) l)))
    (counted_after k (edge from) None (with_before (edge to) last (joined s (sibling c) l))
    (counted_before k (edge to) last (joined s (sibling c) l) (counted_joined k s (sibling c) l count)))

-- all chains after it
pub record AreGiven (f g : Forest) (from to c : ℕ) (ds cs : List ℕ) : Type 0 where
  pub apart : ¬ (from ≡ to)
  pub children : children_at to f ≡ ds
  pub moved : children_at from f ≡ c ∷ cs
  pub all : children_at to g ≡ ds ++ c ∷ cs
  pub none : children_at from g ≡ []
  pub elsewhere : (q : ℕ) → ¬ (q ≡ from) → ¬ (q ≡ to) → children_at q g ≡ children_at q f
  pub size : nodes g ≡ nodes f

pub linked_given : (f g : Forest) (l : Links) (ps : List (Option ℕ)) (from to c : ℕ) (ds cs : List ℕ) →
    AreGiven f g from to c ds cs → IsForest f → AreLinks f l → Holds from f → Holds to f → length ps ≡ length l.parent →
    ((n : ℕ) → IsIn n (c ∷ cs) → link_at n ps ≡ Some to) →
    ((n : ℕ) → ¬ (IsIn n (c ∷ cs)) → link_at n ps ≡ link_at n l.parent) →
    AreLinks g (given from to (last_spot (edge to) ds) c (number_at (last_spot (sibling c) cs)) (with_parents ps l))
linked_given f g l ps from to c ds cs are forest links hf ht size passed others = record {
  counted = subst (λ k. AreCounted k m) (sym are.size) (counted_given (nodes f) from to c s last middle counted);
  chains = λ q. chains q (cases_eq q to) (cases_eq q from);
  up = λ n p e. up n p (decide_in n (c ∷ cs)) (cases_eq p to) (cases_eq p from) (sym (parents n) ∙ e);
  alone = λ n e. alone n (decide_in n (c ∷ cs)) (sym (parents n) ∙ e);
} where
  s : Spot
  s = last_spot (edge to) ds

  last : Option ℕ
  last = number_at (last_spot (sibling c) cs)

  middle : Links
  middle = with_parents ps l

  m : Links
  m = given from to s c last middle

  counted : AreCounted (nodes f) middle
  counted = record {
    parent = size ∙ links.counted.parent;
    first = links.counted.first;
    last = links.counted.last;
    previous = links.counted.previous;
    next = links.counted.next;
  }

  parents : (n : ℕ) → link_at n m.parent ≡ link_at n ps
  parents n = ap (link_at n) (given_parents from to c s last middle)

  to_child : (n : ℕ) → IsIn n ds → IsIn n (children_at to f)
  to_child n i = subst (IsIn n) (sym are.children) i

  from_child : (n : ℕ) → IsIn n (c ∷ cs) → IsIn n (children_at from f)
  from_child n i = subst (IsIn n) (sym are.moved) i

  apart_lists : (n : ℕ) → IsIn n ds → ¬ (IsIn n (c ∷ cs))
  apart_lists n i j = are.apart (forest.single from to n (of_child from n (from_child n j))
      (of_child to n (to_child n i)))

  distinct_from : AreDistinct (c ∷ cs)
  distinct_from = subst AreDistinct are.moved (forest.once from)

  distinct_to : AreDistinct ds
  distinct_to = subst AreDistinct are.children (forest.once to)

  s_off : (n : ℕ) → ¬ (IsIn n ds) → ¬ (sibling n ≡ s)
  s_off n off e = last_not to n ds off (sym e)

  done : IsGiven from to s c last middle m
  done = is_given (nodes f) from to c s last middle counted
      (holds_last to (nodes f) ds ht (λ n i. forest.within to n (of_child to n (to_child n i))))
      (forest.within from c (of_child from c (from_child c (inl refl)))) hf ht are.apart
      (last_edge to from ds are.apart)

  trailings : (u : Spot) → ¬ (u ≡ s) → ¬ (u ≡ edge from) → after_of u m ≡ after_of u l
  trailings u off other = done.trailing u off other ∙ after_parents ps u l

  befores : (u : Spot) → ¬ (u ≡ sibling c) → ¬ (u ≡ edge to) → ¬ (u ≡ edge from) → before_of u m ≡ before_of u l
  befores u off at other = done.before u off at other ∙ before_parents ps u l

  child_before : (n : ℕ) → ¬ (n ≡ c) → before_of (sibling n) m ≡ before_of (sibling n) l
  child_before n off = befores (sibling n) (λ e. off (same_sibling e)) (λ e. edge_apart (sym e))
      (λ e. edge_apart (sym e))

  child_after : (n : ℕ) → ¬ (IsIn n ds) → after_of (sibling n) m ≡ after_of (sibling n) l
  child_after n off = trailings (sibling n) (s_off n off) (λ e. edge_apart (sym e))

  -- the children that were there
  front : IsRun to (edge to) ds m
  front = run_moved to to (edge to) ds l m (subst (λ v. IsRun to (edge to) v l) are.children (links.chains to).run)
      (λ u h. trailings u (source_not_last u (edge to) ds h distinct_to (λ n i e. edge_apart e))
      (sources u (source_is u (edge to) ds h)))
      (λ n i. child_before n (λ e. apart_lists n i (inl e)))
      (λ n i. parents n ∙ (others n (apart_lists n i) ∙ down f l n to links (to_child n i))) where
        sources : (u : Spot) → (u ≡ edge to) ⊎ IsChildSpot u ds → ¬ (u ≡ edge from)
        sources u (inl e) at = are.apart (sym (same_edge (sym e ∙ at)))
        sources u (inr w) at = edge_apart (sym at ∙ w.is)

  -- those that are given
  old : IsChain from (c ∷ cs) l
  old = subst (λ v. IsChain from v l) are.moved (links.chains from)

  spots : (u : Spot) → IsChildSpot u (c ∷ cs) → after_of u m ≡ after_of u l
  spots u w = subst (λ v. after_of v m ≡ after_of v l) (sym w.is)
      (child_after w.number (λ i. apart_lists w.number i w.child))

  tail : IsTail to c cs m
  tail = record {
    parent = parents c ∙ passed c (inl refl);
    run = run_moved from to (sibling c) cs l m old.run.1.1
        (λ u h. spots u (sources u (source_is u (sibling c) cs h)))
        (λ n i. child_before n (λ e. distinct_from.0 (subst (λ k. IsIn k cs) e i)))
        (λ n i. parents n ∙ passed n (inr i));
    end = record {
      trailing = spots (last_spot (sibling c) cs) (last_child c cs) ∙ old.end.trailing;
      before = done.end;
    };
  } where
    sources : (u : Spot) → (u ≡ sibling c) ⊎ IsChildSpot u cs → IsChildSpot u (c ∷ cs)
    sources u (inl e) = record { number = c; child = inl refl; is = e }
    sources u (inr w) = record { number = w.number; child = inr w.child; is = w.is }

  -- those of another node
  elsewhere : (q : ℕ) → ¬ (q ≡ to) → ¬ (q ≡ from) → IsChain q (children_at q f) m
  elsewhere q apart other = record {
    run = run_moved q q (edge q) (children_at q f) l m (links.chains q).run
        (λ u h. at u (source_is u (edge q) (children_at q f) h))
        (λ n i. child_before n (λ e. no_from n i (inl e)))
        (λ n i. parents n ∙ (others n (no_from n i) ∙ down f l n q links i));
    end = record {
      trailing = at (last_spot (edge q) (children_at q f)) (last_or_edge (edge q) (children_at q f))
          ∙ (links.chains q).end.trailing;
      before = befores (edge q) edge_apart (λ e. apart (same_edge e)) (λ e. other (same_edge e))
          ∙ (links.chains q).end.before;
    };
  } where
    no_from : (n : ℕ) → IsIn n (children_at q f) → ¬ (IsIn n (c ∷ cs))
    no_from n i j = other (forest.single q from n (of_child q n i) (of_child from n (from_child n j)))

    no_to : (n : ℕ) → IsIn n (children_at q f) → ¬ (IsIn n ds)
    no_to n i j = apart (forest.single q to n (of_child q n i) (of_child to n (to_child n j)))

    at : (u : Spot) → (u ≡ edge q) ⊎ IsChildSpot u (children_at q f) → after_of u m ≡ after_of u l
    at u (inl e) = subst (λ v. after_of v m ≡ after_of v l) (sym e)
        (trailings (edge q) (λ e. last_edge to q ds apart (sym e)) (λ e. other (same_edge e)))
    at u (inr w) = subst (λ v. after_of v m ≡ after_of v l) (sym w.is)
        (child_after w.number (no_to w.number w.child))

  chains : (q : ℕ) → (q ≡ to) ⊎ (q ≡ to → ⊥) → (q ≡ from) ⊎ (q ≡ from → ⊥) → IsChain q (children_at q g) m
  chains q (inl e) _ = subst (λ v. IsChain v (children_at v g) m) (sym e) (subst (λ v. IsChain to v m) (sym are.all)
      (chain_by to c ds cs m front done.joint tail))
  chains q (inr _) (inl e) = subst (λ v. IsChain v (children_at v g) m) (sym e)
      (subst (λ v. IsChain from v m) (sym are.none) (record { run = tt; end = done.emptied }))
  chains q (inr apart) (inr other) = subst (λ v. IsChain q v m) (sym (are.elsewhere q other apart))
      (elsewhere q apart other)

  same_some : {n k : ℕ} → Some n ≡ Some k → n ≡ k
  same_some e = cc

  up : (n p : ℕ) → IsIn n (c ∷ cs) ⊎ ¬ (IsIn n (c ∷ cs)) → (p ≡ to) ⊎ (p ≡ to → ⊥) → (p ≡ from) ⊎ (p ≡ from → ⊥) →
      link_at n ps ≡ Some p → IsIn n (children_at p g)
  up n p (inl i) _ _ h = subst (λ v. IsIn n (children_at v g)) (same_some (sym (passed n i) ∙ h))
      (subst (IsIn n) (sym are.all) (in_right n ds (c ∷ cs) i))
  up n p (inr off) (inl e) _ h = subst (λ v. IsIn n (children_at v g)) (sym e) (subst (IsIn n) (sym are.all)
      (in_left n ds (c ∷ cs) (subst (IsIn n) are.children
      (subst (λ v. IsIn n (children_at v f)) e (links.up n p (sym (others n off) ∙ h))))))
  up n p (inr off) (inr _) (inl e) h = absurd (off (subst (IsIn n) are.moved
      (subst (λ v. IsIn n (children_at v f)) e (links.up n p (sym (others n off) ∙ h)))))
  up n p (inr off) (inr apart) (inr other) h =
      subst (IsIn n) (sym (are.elsewhere p other apart)) (links.up n p (sym (others n off) ∙ h))

  no_some : {n : ℕ} → None ≡ Some n → ⊥
  no_some e = absurd (cc)

  alone : (n : ℕ) → IsIn n (c ∷ cs) ⊎ ¬ (IsIn n (c ∷ cs)) → link_at n ps ≡ None →
      (link_at n m.previous ≡ None) × (link_at n m.next ≡ None)
  alone n (inl i) h = absurd (no_some (sym h ∙ passed n i))
  alone n (inr off) h =
      let was : link_at n l.parent ≡ None = sym (others n off) ∙ h in
      let before = links.alone n was in (
        child_before n (λ e. off (inl e)) ∙ before.0,
        child_after n (λ i. no_some (sym was ∙ down f l n to links (to_child n i))) ∙ before.1,
      )
